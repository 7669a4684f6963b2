-- `r5_read::stops::stops` meets its contract: in each turn as many places stop as were counted (`Counted`).
use Rattle.octet_blocks.proofs.Counted.{Counted}
use Rattle.r5_read.specs.Stops.{stop_at}
use Rattle.r5_read.proofs.stops.stops.Given as goal

abbrev pub invariant-loop-j : goal.invariant-loop-j
invariant-loop-j l = Counted (stop_at l.s) l.at l.n l.j
