-- `segment::whole` meets its contract: a text's width is above 0.
use Rattle.segment.specs.Segment.{whole_of}
use Rattle.segment.proofs.Steps.{width_pos}
use Rattle.segment.proofs.whole.Goals as goal

pub nonzero_rem-result : goal.nonzero_rem-result
unfolding whole_of
nonzero_rem-result c = rw c.text_width.ensures (width_pos _)

pub returns : goal.returns
unfolding whole_of
returns c = rw c.text_width.ensures
