-- The invariant of `r5_write::write`'s loop: the pen is on its way (Going.antt), and i is where it stands.
use Rattle.element.proofs.Names.{◌≡◌}
use Rattle.r5_write.proofs.Going.{Going}
use Rattle.r5_write.proofs.Whole.{looked, remaining}
use Rattle.r5_write.proofs.write.Given as goal

abbrev pub invariant-loop-i : goal.invariant-loop-i
invariant-loop-i l = (l.i ≡ l.pen.index) × Going (looked l.units) l.segments l.initial.out l.pen l.out

abbrev pub decreases-loop-i : goal.decreases-loop-i
decreases-loop-i l = remaining l.n l.pen
