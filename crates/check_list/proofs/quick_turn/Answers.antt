-- `check_list::quick_turn` meets its contract, by what the quick check says.
use Rattle.element.proofs.Names.{sym, ◌∙◌, pick}
use Rattle.check_list.proofs.Turns.{plain_stowable}
use Rattle.check_list.proofs.quick_turn.Goals as goal

pub put-requires : goal.put-requires
unfolding pick
put-requires c = plain_stowable _ (sym c.plain.ensures ∙ c.if-plain.true)

pub returns-then-plain : goal.returns-then-plain
unfolding pick
returns-then-plain c = let plain = sym c.plain.ensures ∙ c.if-plain.true in
    (sym plain, rw plain c.put.ensures)

pub returns : goal.returns
unfolding pick
returns c = let plain = sym c.plain.ensures ∙ c.if-plain.false in
    (sym plain, rw plain)
