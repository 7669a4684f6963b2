-- `r5_read::stops::first_stop` meets its contract: after the blocks, octet by octet, none before the place stops.
use Rattle.r5_read.specs.Stops.{Free}
use Rattle.r5_read.proofs.stops.first_stop.Given as goal

abbrev pub invariant-loop-i : goal.invariant-loop-i
invariant-loop-i l = Free l.s 0 l.i
