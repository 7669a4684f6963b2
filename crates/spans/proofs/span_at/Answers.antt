-- `spans::span_at` meets its contract, test by test. Assumes nothing.
use Rattle.element.proofs.Names.{ladder, on_eq, on_ne, on_lt, on_ge, on_gt}
use Rattle.spans.specs.Spans.{by_form, span_of}
use Rattle.spans.proofs.span_at.Goals as goal

pub returns-then-s-at : goal.returns-then-s-at
unfolding by_form span_of
returns-then-s-at c = search ladder depth 12

pub returns-then-form-eq-ANY : goal.returns-then-form-eq-ANY
unfolding by_form span_of
returns-then-form-eq-ANY c = search ladder depth 12

pub returns-then-form-eq-ONES : goal.returns-then-form-eq-ONES
unfolding by_form span_of
returns-then-form-eq-ONES c = on_gt _ _ _ _ _ c.if-s-at.false
    (rw (← c.form_at-form.ensures)
    (on_ne _ _ _ _ _ c.if-form-eq-ANY.false (on_eq _ _ _ _ _ c.if-form-eq-ONES.true
    (rw (← c.lesser.ensures) c.of_form.ensures))))

pub returns-then-octets-lt2 : goal.returns-then-octets-lt2
unfolding by_form span_of
returns-then-octets-lt2 c = on_gt _ _ _ _ _ c.if-s-at.false
    (rw (← c.form_at-form.ensures)
    (on_ne _ _ _ _ _ c.if-form-eq-ANY.false
    (on_ne _ _ _ _ _ c.if-form-eq-ONES.false (on_lt _ _ _ _ _ c.if-octets-lt2.true c.any_unit-then-octets-lt2.ensures))))

pub returns : goal.returns
unfolding by_form span_of
returns c = on_gt _ _ _ _ _ c.if-s-at.false
    (rw (← c.form_at-form.ensures)
    (on_ne _ _ _ _ _ c.if-form-eq-ANY.false
    (on_ne _ _ _ _ _ c.if-form-eq-ONES.false
    (on_ge _ _ _ _ _ c.if-octets-lt2.false (rw (← c.lesser-2.ensures) c.of_form-2.ensures)))))
