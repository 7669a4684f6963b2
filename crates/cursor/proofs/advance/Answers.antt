-- `cursor::advance` meets its contract. Assumes nothing.
use Rattle.element.proofs.Names.{ap, ◌∙◌}
use Rattle.cursor.specs.Cursor.{text_turn, passed_of, advance_at}
use Rattle.cursor.proofs.Rules.{reading}
use Rattle.cursor.proofs.advance.Goals as goal
use Rattle.cursor.proofs.advance.Goals.{else-c-s-via-then-c-s+else-s-c-eq27, else-c-s-via-else-c-s}

pub returns-then-s-c-eq27 : goal.returns-then-s-c-eq27
unfolding advance_at
returns-then-s-c-eq27 c =
    let h = c.text_or_element.ensures ∙ ap (text_turn _) (c.passed-then-s-c-eq27.ensures ∙ ap (passed_of _) c.passed.ensures) in
    search reading depth 9

pub returns-else-c-s : goal.returns-else-c-s
unfolding advance_at
returns-else-c-s c =
    elim c.else-c-s.branch [
      | else-c-s-via-then-c-s+else-s-c-eq27 w ↦ search reading depth 9
      | else-c-s-via-else-c-s w ↦ search reading depth 9
    ]
