-- `octet_blocks::words::leading` meets its contract, test by test.
use Rattle.std.proofs.Common.{refl, ap, ◌∙◌}
use Rattle.base.proofs.Ladder.{on_lt, on_ge}
use Rattle.octet_blocks.specs.Words.{led_of, leading_of}
use Rattle.octet_blocks.proofs.words.leading.Goals as goal
use Rattle.octet_blocks.proofs.words.leading.Goals.{else-at-s-via-then-at-s+else-s-at-ge8, else-at-s-via-else-at-s}

pub returns-then-s-at-ge8 : goal.returns-then-s-at-ge8
unfolding leading_of
returns-then-s-at-ge8 c = on_ge _ _ _ _ _ c.if-at-s.true
    (on_ge _ _ _ _ _ c.if-s-at-ge8.true (c.led.ensures ∙ ap (led_of 8) c.word.ensures))

pub returns-else-at-s : goal.returns-else-at-s
unfolding leading_of
returns-else-at-s c =
    elim c.else-at-s.branch [
      | else-at-s-via-then-at-s+else-s-at-ge8 w ↦ on_ge _ _ _ _ _ w.if-at-s.true (on_lt _ _ _ _ _ w.if-s-at-ge8.false refl)
      | else-at-s-via-else-at-s w ↦ on_lt _ _ _ _ _ w.if-at-s.false refl
    ]
