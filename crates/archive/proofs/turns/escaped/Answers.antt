-- `archive::turns::escaped` meets its contract: a designation that is passed changes nothing of what is next.
use Rattle.element.proofs.Names.{◌∙◌}
use Rattle.archive.proofs.Ready.{inside, row_fits, ready_passed, turn_passed}
use Rattle.archive.proofs.turns.escaped.Goals as goal

pub class_at-k-requires : goal.class_at-k-requires
class_at-k-requires c = let pre = c.requires in
    let ready = ready_passed _ _ pre.1 _ c.passed-d.ensures in (pre.0, row_fits _ _ ready, inside _ _ ready)

pub text_turn-requires : goal.text_turn-requires
text_turn-requires c = (ready_passed _ _ c.requires.1 _ c.passed-d.ensures, c.class_at-k.ensures, c.if-k-le-TWO_GR.true)

pub returns-then-k-le-TWO_GR : goal.returns-then-k-le-TWO_GR
returns-then-k-le-TWO_GR c = c.text_turn.ensures ∙ turn_passed _ _ c.requires.1 _ c.passed-d.ensures

pub returns : goal.returns
returns c = c.by_element.ensures ∙ turn_passed _ _ c.requires.1 _ c.passed-d.ensures
