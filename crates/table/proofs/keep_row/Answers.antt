-- `table::keep_row` meets its contract. The invariant: the first r costs of the row are kept.
use Rattle.element.proofs.Names.{arith, refl}
use Rattle.table.proofs.Filled.{filled_none, filled_more, filled_end, filled_same}
use Rattle.table.proofs.keep_row.Goals as goal

pub loop-r-init : goal.loop-r-init
loop-r-init c = filled_none _ _ _

pub loop-r-preserved : goal.loop-r-preserved
loop-r-preserved c = filled_more _ _ _ _ _ _ (λ q h z. omega arith) c.loop-r.invariant (omega arith) refl

pub returns : goal.returns
returns c = filled_same c.row_of-row.ensures.each (filled_end 16 c.loop-r.invariant (search arith) (search arith))
