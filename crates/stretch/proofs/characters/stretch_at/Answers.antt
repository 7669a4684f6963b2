-- `characters::stretch_at` meets its contract, test by test; at the end of the string no stretch starts.
use Rattle.element.proofs.Names.{arith}
use Rattle.base.proofs.Ladder.{on_yes, on_no}
use Rattle.stretch.specs.Characters.{stretch_at}
use Rattle.stretch.proofs.Stretches.{stretch_end}
use Rattle.stretch.proofs.characters.stretch_at.Goals as goal

pub returns-then-s-at : goal.returns-then-s-at
returns-then-s-at c = stretch_end _ _ _ (omega arith)

pub returns-then-settled : goal.returns-then-settled
unfolding stretch_at
returns-then-settled c = on_yes _ _ _ _ _ c.settled.ensures c.if-settled.true
    (rw (c.by_forms.ensures, c.form_of-right.ensures, c.form_of-left.ensures))

pub returns-else-settled : goal.returns-else-settled
unfolding stretch_at
returns-else-settled c = on_no _ _ _ _ _ c.settled.ensures c.if-settled.false (rw (c.of_ones.ensures, c.singles.ensures.0))
