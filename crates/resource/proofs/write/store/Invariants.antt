-- The forms of the octets passed are stored (`StoredUpTo`).
use Prim.Native.Nat.{◌-◌}
use lib.ListN.{length}
use Rattle.resource.proofs.Writing.{StoredUpTo}
use Rattle.resource.proofs.write.store.Given as goal

abbrev pub invariant-loop-octet : goal.invariant-loop-octet
invariant-loop-octet l = StoredUpTo l.s l.initial.out l.octet-index l.at l.out

abbrev pub decreases-loop-octet : goal.decreases-loop-octet
decreases-loop-octet l = length l.s - l.octet-index
