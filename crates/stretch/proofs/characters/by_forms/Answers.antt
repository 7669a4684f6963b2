-- `characters::by_forms` meets its contract: the first kind of stretch that has units.
use Rattle.element.proofs.Names.{◌∙◌}
use Rattle.stretch.proofs.Stretches.{chosen_left, chosen_right, chosen_ones}
use Rattle.stretch.proofs.characters.by_forms.Goals as goal

pub returns-then-lefts-gt0 : goal.returns-then-lefts-gt0
returns-then-lefts-gt0 c = chosen_left _ _ _ _ c.twos-lefts.ensures c.if-lefts-gt0.true

pub returns-then-rights-gt0 : goal.returns-then-rights-gt0
returns-then-rights-gt0 c = chosen_right _ _ _ _ _ c.twos-lefts.ensures c.if-lefts-gt0.false
    c.twos-rights.ensures c.if-rights-gt0.true

pub returns : goal.returns
returns c = c.of_ones.ensures ∙ chosen_ones _ _ _ _ _ _ c.twos-lefts.ensures c.if-lefts-gt0.false
    c.twos-rights.ensures c.if-rights-gt0.false c.singles.ensures.0
