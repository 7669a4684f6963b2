-- `element::begun` meets its contract, test by test: an escape sequence and a mark are read from the part of the string that starts at the place.
use Rattle.element.proofs.Names.{ap, ◌∙◌}
use Rattle.control.specs.Escape.{escape_of}
use Rattle.control.specs.Mark.{csi_of}
use Rattle.element.proofs.Steps.{shaping, rest}
use Rattle.element.specs.Element.{shape_of}
use Rattle.element.specs.Start.{start_of, begun_by}
use Rattle.element.proofs.begun.Goals as goal

pub returns-in-27 : goal.returns-in-27
unfolding shape_of start_of begun_by
returns-in-27 c = let args = c.args in
    let e = c.escape.ensures ∙ ap escape_of (rest args.s.now args.at 1) in search shaping depth 24

pub returns-in-155 : goal.returns-in-155
unfolding shape_of start_of begun_by
returns-in-155 c = let args = c.args in
    let e = c.csi.ensures ∙ ap csi_of (rest args.s.now args.at 1) in search shaping depth 24
