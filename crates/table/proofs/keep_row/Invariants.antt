-- `table::keep_row` meets its contract. The invariant: the first r costs of the row are kept.
use Rattle.element.proofs.Names.{get_or}
use Rattle.table.specs.Table.{PlacesFilled}
use Rattle.table.proofs.keep_row.Given as goal

abbrev pub invariant-loop-r : goal.invariant-loop-r
invariant-loop-r l = PlacesFilled (λ q. get_or l.row q 0) l.at l.r l.initial.work l.work
