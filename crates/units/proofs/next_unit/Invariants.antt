-- `units::next_unit` meets its contract: at each turn the elements from the place on give what those from the start do.
-- Assumes nothing.
use Rattle.element.proofs.Names.{◌-◌, ◌≡◌, length}
use Rattle.units.proofs.Turn.{outcome}
use Rattle.units.proofs.next_unit.Given as goal

abbrev pub invariant-loop-octets : goal.invariant-loop-octets
invariant-loop-octets l = outcome l.s l.at l.st ≡ outcome l.s l.initial.at l.initial.st

abbrev pub decreases-loop-octets : goal.decreases-loop-octets
decreases-loop-octets l = length l.s - l.at
