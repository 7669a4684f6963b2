-- `table::lower` meets its contract. The invariant: 128 is taken from the costs before the index.
use Rattle.element.proofs.Names.{◌-◌, get_or}
use Rattle.table.specs.Table.{FilledTo}
use Rattle.table.proofs.lower.Given as goal

abbrev pub invariant-loop-v : goal.invariant-loop-v
invariant-loop-v l = FilledTo (λ q. q) (λ q. get_or l.initial.cur q 0 - 128) l.v-index l.initial.cur l.cur
