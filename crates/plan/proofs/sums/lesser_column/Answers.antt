-- `sums::lesser_column` meets its contract. The invariant: the first g places of the column hold the lesser costs.
use Rattle.element.proofs.Names.{arith}
use Rattle.table.proofs.Filled.{filled_none, filled_more, filled_end}
use Rattle.plan.proofs.sums.lesser_column.Goals as goal

pub loop-g-init : goal.loop-g-init
loop-g-init c = filled_none _ _ _

pub loop-g-preserved : goal.loop-g-preserved
loop-g-preserved c = filled_more _ _ _ _ _ _ (λ h l z. omega arith) c.loop-g.invariant (omega arith) c.min.ensures

pub returns : goal.returns
returns c = filled_end 5 c.loop-g.invariant (search arith) (search arith)
