-- `table::keep_column` meets its contract. The invariant: the costs of the first g rows are kept.
use Rattle.element.proofs.Names.{◌+◌, ◌*◌, get_or}
use Rattle.table.specs.Table.{PlacesFilled}
use Rattle.table.proofs.keep_column.Given as goal

abbrev pub invariant-loop-g : goal.invariant-loop-g
invariant-loop-g l = PlacesFilled (λ q. get_or l.cur (16 * q + l.r) 0) l.at l.g l.initial.work l.work
