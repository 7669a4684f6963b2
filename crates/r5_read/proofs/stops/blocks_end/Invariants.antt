-- `r5_read::stops::blocks_end` meets its contract: none of the places before stops, block by block.
use Rattle.element.proofs.Names.{◌-◌, length}
use Rattle.r5_read.specs.Stops.{Free}
use Rattle.r5_read.proofs.stops.blocks_end.Given as goal

abbrev pub invariant-loop-i : goal.invariant-loop-i
invariant-loop-i l = Free l.s 0 l.i

abbrev pub decreases-loop-i : goal.decreases-loop-i
decreases-loop-i l = length l.s - l.i
