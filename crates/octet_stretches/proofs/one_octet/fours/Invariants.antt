-- `octet_stretches::one_octet::fours` meets its contract: before the place only units of one octet stand, four more in each turn.
use Rattle.element.proofs.Names.{◌-◌, ◌≤◌, length}
use Rattle.octet_stretches.specs.Stretched.{Ones}
use Rattle.octet_stretches.proofs.one_octet.fours.Given as goal

abbrev pub invariant-loop-i : goal.invariant-loop-i
invariant-loop-i l = Ones l.row l.s l.at l.i × (l.i ≤ length l.s)

abbrev pub decreases-loop-i : goal.decreases-loop-i
decreases-loop-i l = length l.s - l.i
