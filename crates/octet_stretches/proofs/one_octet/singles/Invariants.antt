-- `octet_stretches::one_octet::singles` meets its contract: before the place only units of one octet stand.
use Rattle.element.proofs.Names.{◌-◌}
use Rattle.octet_stretches.specs.Stretched.{Ones}
use Rattle.octet_stretches.proofs.one_octet.singles.Given as goal

abbrev pub invariant-loop-i : goal.invariant-loop-i
invariant-loop-i l = Ones l.row l.s l.at l.i

abbrev pub decreases-loop-i : goal.decreases-loop-i
decreases-loop-i l = l.end - l.i
