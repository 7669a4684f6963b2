-- `r5_read::stops::null_from` meets its contract: no 00 stands from the place on, octet by octet.
use Rattle.r5_read.proofs.Places.{NoNull}
use Rattle.r5_read.proofs.stops.null_from.Given as goal

abbrev pub invariant-loop-i : goal.invariant-loop-i
invariant-loop-i l = NoNull l.s l.at l.i
