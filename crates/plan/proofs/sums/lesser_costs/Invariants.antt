-- `sums::lesser_costs` meets its contract. The invariant: the first r columns hold the lesser costs.
use Rattle.element.proofs.Names.{◌+◌, min, get_or}
use Rattle.table.specs.Table.{Swept}
use Rattle.plan.proofs.sums.lesser_costs.Given as goal

abbrev pub invariant-loop-r : goal.invariant-loop-r
invariant-loop-r l = Swept (λ g n. min (get_or l.a (l.i + n) 0 + get_or l.p g 0) (get_or l.c (l.j + n) 0 + get_or l.q g 0)) l.r l.initial.cur l.cur
