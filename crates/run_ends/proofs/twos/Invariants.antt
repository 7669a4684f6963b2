-- `run_ends::twos` meets its contract. The invariant: the octets from `i` on, two by two, end where those from `at` on do.
use Rattle.element.proofs.Names.{◌-◌, ◌≤◌, ◌≡◌, length, from}
use Rattle.run_ends.specs.Ends.{twos_to}
use Rattle.run_ends.proofs.twos.Given as goal

abbrev pub invariant-loop-i : goal.invariant-loop-i
invariant-loop-i l = (l.i ≤ length l.s) × (twos_to l.first l.last l.i (from l.i l.s) ≡ twos_to l.first l.last l.at (from l.at l.s))

abbrev pub decreases-loop-i : goal.decreases-loop-i
decreases-loop-i l = length l.s - l.i
