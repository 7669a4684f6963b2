-- `sums::lesser_costs` meets its contract. The invariant: the first r columns hold the lesser costs.
use Rattle.element.proofs.Names.{arith, refl}
use Rattle.table.proofs.Filled.{swept_none, swept_more, swept_end}
use Rattle.plan.proofs.sums.lesser_costs.Goals as goal

pub loop-r-init : goal.loop-r-init
loop-r-init c = swept_none _ _

pub lesser_column-requires : goal.lesser_column-requires
lesser_column-requires c = let pre = c.requires in
    let r = c.loop-r.r in
    (search arith, λ g h. ((pre.0 g h).sums r (search arith), (pre.1 g h).sums r (search arith)))

pub loop-r-preserved : goal.loop-r-preserved
loop-r-preserved c = swept_more _ _ _ _ _ _ (search arith) (λ g. refl) c.loop-r.invariant c.lesser_column.ensures

pub returns : goal.returns
returns c = swept_end c.loop-r.invariant (search arith) (search arith) c.told-cur
