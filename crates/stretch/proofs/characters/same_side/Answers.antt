-- `characters::same_side` meets its contract: each span is of units by themselves.
use Rattle.stretch.proofs.Loops.{gl_span, gr_span_96, gr_span_94}
use Rattle.stretch.proofs.characters.same_side.Goals as goal

pub returns-else-left-eq-FORM_94X94 : goal.returns-else-left-eq-FORM_94X94
returns-else-left-eq-FORM_94X94 c = c.fours.ensures.along _ _ (gl_span _ _ c.if-left-eq-FORM_94X94.false)

pub returns-then-right-eq-FORM_96 : goal.returns-then-right-eq-FORM_96
returns-then-right-eq-FORM_96 c = c.fours-then-right-eq-FORM_96.ensures.along _ _ (gr_span_96 _ _ c.if-right-eq-FORM_96.true)

pub returns-then-right-eq-FORM_94 : goal.returns-then-right-eq-FORM_94
returns-then-right-eq-FORM_94 c = c.fours-then-right-eq-FORM_94.ensures.along _ _ (gr_span_94 _ _ c.if-right-eq-FORM_94.true)
