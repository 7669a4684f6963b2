-- `table::keep_column` meets its contract. The invariant: the costs of the first g rows are kept.
use Rattle.element.proofs.Names.{arith, refl}
use Rattle.table.proofs.Filled.{filled_none, filled_more, filled_end}
use Rattle.table.proofs.keep_column.Goals as goal

pub loop-g-init : goal.loop-g-init
loop-g-init c = filled_none _ _ _

pub loop-g-preserved : goal.loop-g-preserved
loop-g-preserved c = filled_more _ _ _ _ _ _ (λ q h z. omega arith) c.loop-g.invariant (omega arith) refl

pub returns : goal.returns
returns c = filled_end 5 c.loop-g.invariant (search arith) (search arith)
