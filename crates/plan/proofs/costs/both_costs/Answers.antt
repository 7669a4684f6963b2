-- `costs::both_costs` meets its contract: the lesser costs are the least.
use Rattle.element.proofs.Names.{arith, refl}
use Rattle.table.proofs.Filled.{columns_as, column_at}
use Rattle.plan.proofs.Least.{charges_as, last_surcharge, fit-charges, fit-column, lesser_both}
use Rattle.plan.proofs.costs.both_costs.Goals as goal

pub lesser_costs-requires : goal.lesser_costs-requires
lesser_costs-requires c = let pre = c.requires in
    let fours = c.args.prices.now.by_four in (
      fit-charges _ 4 _ _ pre.0 c.told-next (omega (arith, pre.1.3)) (omega arith) (charges_as (last_surcharge _ 4 fours) c.charges-p.ensures),
      fit-column 4 _ _ _ _ refl fours pre.0 pre.1.4 refl (column_at (omega (arith, pre.1.4)) c.column-v.ensures),
    )

pub returns : goal.returns
returns c = let pre = c.requires in
    let fours = c.args.prices.now.by_four in
    let charged = charges_as (last_surcharge _ 4 fours) c.charges-p.ensures in
    columns_as _
    (λ g q hg hq. lesser_both c.args.x c.args.next.now g q hg hq pre.0 _ _ _ _ _ pre.1 fours charged
    (column_at (omega (arith, pre.1.4)) c.column-v.ensures))
    c.lesser_costs.ensures
