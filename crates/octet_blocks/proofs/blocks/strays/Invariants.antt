-- In each turn as many octets are outside of the span as were counted (`Counted`).
use Rattle.std.proofs.Common.{◌-◌, ◌≤◌}
use Rattle.octet_blocks.proofs.Counted.{Counted, outside_at}
use Rattle.octet_blocks.proofs.blocks.strays.Given as goal

abbrev pub invariant-loop-j : goal.invariant-loop-j
invariant-loop-j l = Counted (outside_at l.first l.last l.s) l.at l.n l.j × (l.j ≤ 64)

abbrev pub decreases-loop-j : goal.decreases-loop-j
decreases-loop-j l = 64 - l.j
