-- `segment::name_end` meets its contract. The invariant: the name that the octets from `i` on have, `i` octets being passed, is that of all of them.
use mathlib.Core.Path.{◌≡◌}
use Rattle.base.specs.Choice.{from}
use Rattle.segment.specs.Segment.{name_of}
use Rattle.segment.proofs.name_end.Given as goal

abbrev pub invariant-loop-i : goal.invariant-loop-i
invariant-loop-i l = name_of (from l.i l.s) l.i ≡ name_of l.s 0
