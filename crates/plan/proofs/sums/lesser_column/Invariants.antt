-- `sums::lesser_column` meets its contract. The invariant: the first g places of the column hold the lesser costs.
use Rattle.element.proofs.Names.{◌+◌, min, get_or}
use Rattle.table.specs.Table.{ColumnFilled}
use Rattle.plan.proofs.sums.lesser_column.Given as goal

abbrev pub invariant-loop-g : goal.invariant-loop-g
invariant-loop-g l = ColumnFilled (λ h. min (l.u + get_or l.p h 0) (l.v + get_or l.q h 0)) l.r l.g l.initial.cur l.cur
