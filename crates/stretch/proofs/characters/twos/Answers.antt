-- `characters::twos` meets its contract, by what `pairs` ensures.
use Rattle.element.proofs.Names.{on_eq, on_ne, refl, ◌∙◌}
use Rattle.stretch.proofs.characters.twos.Goals as goal

pub returns-then-form-eq-FORM_94X94 : goal.returns-then-form-eq-FORM_94X94
returns-then-form-eq-FORM_94X94 c = c.of_twos.ensures ∙ rw c.pairs.ensures.0 (on_eq _ _ _ _ _ c.if-form-eq-FORM_94X94.true refl)

pub returns-else-form-eq-FORM_94X94 : goal.returns-else-form-eq-FORM_94X94
returns-else-form-eq-FORM_94X94 c = on_ne _ _ _ _ _ c.if-form-eq-FORM_94X94.false refl
