-- Only octets of the span stand before the place, block by block.
use Rattle.std.proofs.Common.{◌-◌, length}
use Rattle.octet_blocks.specs.Blocks.{Within}
use Rattle.octet_blocks.proofs.blocks.blocks_end.Given as goal

abbrev pub invariant-loop-i : goal.invariant-loop-i
invariant-loop-i l = Within l.first l.last l.s l.at l.i

abbrev pub decreases-loop-i : goal.decreases-loop-i
decreases-loop-i l = length l.s - l.i
