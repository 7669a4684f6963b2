-- `r5_read::stops::is` meets its contract, by the test.
use Rattle.element.proofs.Names.{◌≤◌, arith, ◌≡◌, refl, Bool, true, false, pick}
use Rattle.std.specs.Int.{from_bool}
use Rattle.r5_read.specs.Stops.{is_of}
use Rattle.r5_read.proofs.stops.is.Goals as goal

by_test : (t : Bool) → (from_bool t ≡ pick t 1 0) × (from_bool t ≤ 1)
unfolding pick
by_test true = (refl, omega arith)
by_test false = (refl, omega arith)

pub returns : goal.returns
unfolding is_of
returns c = rw c.from.ensures (by_test _)
