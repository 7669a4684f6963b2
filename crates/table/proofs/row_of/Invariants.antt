-- `table::row_of` meets its contract. The invariant: the first r costs are there.
use Rattle.element.proofs.Names.{◌+◌, get_or}
use Rattle.table.specs.Table.{FilledTo}
use Rattle.table.proofs.row_of.Given as goal

abbrev pub invariant-loop-r : goal.invariant-loop-r
invariant-loop-r l = FilledTo (λ q. q) (λ q. get_or l.costs (l.from + q) 0) l.r l.initial.row l.row
