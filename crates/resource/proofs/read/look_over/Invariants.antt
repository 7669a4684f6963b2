-- The places and octets looked over so far are in step with the reading (`Looked`).
use Prim.Native.Nat.{◌-◌}
use lib.ListN.{length}
use Rattle.resource.proofs.Reading.{Looked}
use Rattle.resource.proofs.read.look_over.Given as goal

abbrev pub invariant-loop-at : goal.invariant-loop-at
invariant-loop-at l = Looked l.form l.at l.count

abbrev pub decreases-loop-at : goal.decreases-loop-at
decreases-loop-at l = length l.form - l.at
