-- `characters::pair_fours` meets its contract: each span is of octets of the side.
use Rattle.element.proofs.Names.{refl}
use Rattle.stretch.proofs.Loops.{left_span, right_span}
use Rattle.stretch.proofs.characters.pair_fours.Goals as goal

pub returns-in-GL : goal.returns-in-GL
returns-in-GL c = rw c.in-GL.is (c.fours.ensures.along _ _ (left_span _ refl))

pub returns-in-GR : goal.returns-in-GR
returns-in-GR c = rw c.in-GR.is (c.fours-in-GR.ensures.along _ _ (right_span _ refl))
