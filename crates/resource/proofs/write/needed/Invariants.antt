-- So many octets are needed for the octets passed (`Counted`).
use Prim.Native.Nat.{◌-◌}
use lib.ListN.{length}
use Rattle.resource.proofs.Writing.{Counted}
use Rattle.resource.proofs.write.needed.Given as goal

abbrev pub invariant-loop-octet : goal.invariant-loop-octet
invariant-loop-octet l = Counted l.s l.octet-index l.n

abbrev pub decreases-loop-octet : goal.decreases-loop-octet
decreases-loop-octet l = length l.s - l.octet-index
