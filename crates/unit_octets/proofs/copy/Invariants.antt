-- `unit_octets::copy` meets its contract. The invariant: the first k octets are stored.
use Rattle.element.proofs.Names.{◌≡◌, ◌≤◌, length, take, drop, sets}
use Rattle.unit_octets.proofs.copy.Given as goal

abbrev pub invariant-loop-k : goal.invariant-loop-k
invariant-loop-k l = (length l.out ≡ length l.initial.out) × (l.out ≡ sets l.initial.out l.at (take l.k (drop 0 l.part)))
