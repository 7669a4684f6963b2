-- `resource::read::read` meets its contract, by what it calls and the laws of `Conversions`.
use mathlib.Core.Path.{◌∙◌, sym}
use Rattle.resource_form.proofs.Answers.{form_over, form_within}
use Rattle.resource.proofs.Conversions.{converted_refused, converted_as, reading_faulty}
use Rattle.resource.proofs.read.read.Goals as goal

pub returns-then-form-gt-FORM : goal.returns-then-form-gt-FORM
returns-then-form-gt-FORM c = converted_refused _ _ _ _ _ _ (form_over _ c.if-form-gt-FORM.true) c.at.ensures

pub returns-in-Err : goal.returns-in-Err
returns-in-Err c = let found = sym c.in-Err.is ∙ c.look_over.ensures in
    converted_refused _ _ _ _ _ _ (reading_faulty _ _ found ∙ form_within _ c.if-form-gt-FORM.false) c.at-in-Err.ensures

pub returns-in-Ok : goal.returns-in-Ok
returns-in-Ok c = converted_as _ _ _ _ _ _ (form_within _ c.if-form-gt-FORM.false)
    c.give.ensures
