-- `octet_stretches::two_octets::pairs` meets its contract: before the place only characters of two octets stand, one more in each turn.
use Rattle.element.proofs.Names.{◌-◌, ◌≤◌}
use Rattle.octet_stretches.specs.Stretched.{Stretched}
use Rattle.octet_stretches.proofs.two_octets.pairs.Given as goal

abbrev pub invariant-loop-i : goal.invariant-loop-i
invariant-loop-i l = Stretched l.row l.s l.at l.i l.n × (l.i ≤ l.end)

abbrev pub decreases-loop-i : goal.decreases-loop-i
decreases-loop-i l = l.end - l.i
