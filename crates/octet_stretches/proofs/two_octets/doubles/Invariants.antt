-- `octet_stretches::two_octets::doubles` meets its contract: from the place on only octets of 21-7E stand, and the first has the entry of two octets in
-- GL, so as many characters of two octets as are whole; and then those that are found octet by octet.
use Rattle.element.proofs.Names.{◌-◌, ◌%◌, ◌<◌, ◌≡◌, length}
use Rattle.octet_blocks.specs.Blocks.{Within}
use Rattle.octet_stretches.proofs.two_octets.doubles.Given as goal

abbrev pub invariant-loop-i : goal.invariant-loop-i
invariant-loop-i l = Within 0x21 0x7E l.s l.at l.i × (l.i < l.end) × ((l.i - l.at) % 2 ≡ 0)

abbrev pub decreases-loop-i : goal.decreases-loop-i
decreases-loop-i l = length l.s - l.i
