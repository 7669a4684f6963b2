-- `run_ends::ones` meets its contract. The invariant: the octets from `i` on end where those from `at` on do.
use Rattle.element.proofs.Names.{◌-◌, ◌≡◌, length, from}
use Rattle.run_ends.specs.Ends.{ones_to}
use Rattle.run_ends.proofs.ones.Given as goal

abbrev pub invariant-loop-i : goal.invariant-loop-i
invariant-loop-i l = ones_to l.first l.last l.i (from l.i l.s) ≡ ones_to l.first l.last l.at (from l.at l.s)

abbrev pub decreases-loop-i : goal.decreases-loop-i
decreases-loop-i l = length l.s - l.i
