-- `octet_blocks::blocks::outside` meets its contract, test by test.
use Rattle.std.proofs.Common.{◌≡◌, Bool, true, false, refl, ap, ◌∙◌}
use mir.Val.{bool_byte}
use Rattle.base.specs.Choice.{pick}
use Rattle.base.proofs.Ladder.{on_lt, on_ge}
use borrow.Author.Tests.{lt-ltb}
use Rattle.octet_blocks.specs.Blocks.{outside_of}
use Rattle.octet_blocks.proofs.blocks.outside.Goals as goal
use Rattle.octet_blocks.proofs.blocks.outside.Goals.{then-b-first, else-b-first}

as_number : (t : Bool) → bool_byte t ≡ pick t 1 0
unfolding pick
as_number true = refl
as_number false = refl

pub returns : goal.returns
unfolding outside_of
returns c =
    elim c.if-b-first.branch [
      | then-b-first w ↦
          on_lt _ _ _ _ _ w.if-b-first.true (c.from.ensures ∙ ap bool_byte (w.from-is ∙ lt-ltb _ _ w.if-b-first.true))
      | else-b-first w ↦ on_ge _ _ _ _ _ w.if-b-first.false (c.from.ensures ∙ ap bool_byte w.from-is ∙ as_number _)
    ]
