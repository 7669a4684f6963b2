-- `r5_read::stops::blocks_end` meets its contract: none of the places before stops, block by block.
use Rattle.element.proofs.Names.{arith}
use Rattle.r5_read.proofs.Places.{free_first, free_more}
use Rattle.r5_read.proofs.stops.blocks_end.Goals as goal

pub loop-i-init : goal.loop-i-init
loop-i-init c = free_first _

pub stops-requires : goal.stops-requires
stops-requires c = omega (arith, c.loop-i.invariant.within)

pub overflow_add-i : goal.overflow_add-i
overflow_add-i c = omega (arith, c.loop-i.invariant.within)

pub loop-i-preserved : goal.loop-i-preserved
loop-i-preserved c = free_more _ _ _ c.loop-i.invariant (c.stops.ensures (omega arith))
