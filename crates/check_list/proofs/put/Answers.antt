-- `check_list::put` meets its contract, by what the test of the record says.
use Rattle.element.proofs.Names.{sym, ◌∙◌, pick}
use Rattle.check_list.proofs.Turns.{stowable_told}
use Rattle.check_list.proofs.put.Goals as goal

pub put-requires : goal.put-requires
unfolding pick
put-requires c = stowable_told _ (sym c.stowable.ensures ∙ c.if-stowable.true)

pub returns-then-stowable : goal.returns-then-stowable
unfolding pick
returns-then-stowable c = rw (sym c.stowable.ensures ∙ c.if-stowable.true) c.put.ensures

pub returns-else-stowable : goal.returns-else-stowable
unfolding pick
returns-else-stowable c = rw (sym c.stowable.ensures ∙ c.if-stowable.false)
