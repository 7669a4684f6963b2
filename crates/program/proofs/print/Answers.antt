-- `print` meets its contract, by the cases of the answer (proofs/Whole).
use Rattle.element.proofs.Names.{arith, ap, ap₂, sym, ◌∙◌, length, ⊎_elim}
use Rattle.base.specs.Output.{stored_in}
use Rattle.program.proofs.Whole.{accepted_form, counted_form, refused_line}
use Rattle.program.proofs.print.Goals as goal

pub returns-then-answer-gt0 : goal.returns-then-answer-gt0
returns-then-answer-gt0 c = let args = c.args in
    let is = c.shorten-answer.ensures in
    let form = ⊎_elim (accepted_form args.s.now args.out.now c.shorten-answer.result is.0)
    (λ h. counted_form args.s.now args.out.now c.shorten-answer.result is.0 h.1) c.if-answer-gt0.either in
    (is.0, form.counts, is.1 ∙ form.stored, λ long. omega (arith, form.short, long))

pub returns-else-answer-gt0 : goal.returns-else-answer-gt0
returns-else-answer-gt0 c = let line = c.refused-length.ensures in
    let args = c.args in
    let is = c.shorten-answer.ensures in
    let none = c.if-answer-gt0.false in
    let refused = refused_line args.s.now args.out.now c.shorten-answer.result is.0 none.0 (λ q. omega (arith, q, none.1)) in (
      is.0,
      line.0 ∙ sym (ap length refused.printed),
      line.1 ∙ ap₂ stored_in (sym refused.printed) (is.1 ∙ refused.stays),
      λ long. omega (arith, line.2, long),
    )
