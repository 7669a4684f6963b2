-- `check_string::whole` meets its contract: at each turn of the loop what is left answers what the whole string does (`Head`), and the turns are
-- those of `Turn`.
use Rattle.element.proofs.Names.{arith, ap, refl, ◌∙◌, on_lt, on_ge}
use Rattle.std.proofs.Common.{Ok}
use Rattle.state.specs.Elements.{shape_seen}
use Rattle.grammar.specs.Reading.{check_of}
use Rattle.check_string.proofs.Turn.{head_first, turn_done, turn_designated, turn_stretch, turn_ends, turn_short, turn_refuses}
use Rattle.check_string.proofs.Turn.{turn_designates, turn_stops, turn_goes}
use Rattle.check_string.proofs.whole.Goals as goal

pub returns-then-s-gt-OCTETS : goal.returns-then-s-gt-OCTETS
unfolding check_of
returns-then-s-gt-OCTETS c = on_lt _ _ _ _ _ c.if-s-gt-OCTETS.true c.at.ensures

pub loop-at-init : goal.loop-at-init
unfolding check_of
loop-at-init c = head_first _

pub overflow_add-at : goal.overflow_add-at
unfolding check_of
overflow_add-at c = let head = c.loop-at.invariant in
    let h = turn_designated _ _ _ _ head _ _ c.designation_at.ensures c.in-Ok.is in omega (arith, h.fits)

pub loop-at-smaller-in-Ok : goal.loop-at-smaller-in-Ok
loop-at-smaller-in-Ok c = let head = c.loop-at.invariant in
    let h = turn_designated _ _ _ _ head _ _ c.designation_at.ensures c.in-Ok.is in
    omega (arith, h.fits, h.some)

pub loop-at-preserved-in-Ok : goal.loop-at-preserved-in-Ok
loop-at-preserved-in-Ok c = let head = c.loop-at.invariant in
    let h = turn_designated _ _ _ _ head _ _ c.designation_at.ensures c.in-Ok.is in
    rw c.designated-st.ensures h.head

pub overflow_add-at-then-run-gt0 : goal.overflow_add-at-then-run-gt0
unfolding check_of
overflow_add-at-then-run-gt0 c = let head = c.loop-at.invariant in
    let h = turn_stretch _ _ _ _ head _ c.stretch_at-run.ensures c.if-run-gt0.true in omega (arith, h.fits)

pub overflow_add-count : goal.overflow_add-count
unfolding check_of
overflow_add-count c = let head = c.loop-at.invariant in
    let h = turn_stretch _ _ _ _ head _ c.stretch_at-run.ensures c.if-run-gt0.true in omega (arith, h.head.few, h.fits)

pub loop-at-smaller-then-run-gt0 : goal.loop-at-smaller-then-run-gt0
unfolding check_of
loop-at-smaller-then-run-gt0 c = let head = c.loop-at.invariant in
    let h = turn_stretch _ _ _ _ head _ c.stretch_at-run.ensures c.if-run-gt0.true in omega (arith, h.fits, h.some)

pub loop-at-preserved-then-run-gt0 : goal.loop-at-preserved-then-run-gt0
unfolding check_of
loop-at-preserved-then-run-gt0 c = let head = c.loop-at.invariant in
    let h = turn_stretch _ _ _ _ head _ c.stretch_at-run.ensures c.if-run-gt0.true in h.head

pub returns-in-Ok-Ends : goal.returns-in-Ok-Ends
unfolding check_of
returns-in-Ok-Ends c = let head = c.loop-at.invariant in
    let k = ap (λ x. shape_seen (Ok x)) c.in-Ok-Ends.field-0-is in
    let h = turn_ends _ _ _ _ head _ c.in-Ok-Ends.ensures k in
    on_ge _ _ _ _ _ c.if-s-gt-OCTETS.false (c.accepted.ensures ∙ h)

pub overflow_add-at-in-Err : goal.overflow_add-at-in-Err
overflow_add-at-in-Err c = let head = c.loop-at.invariant in
    let h = turn_short _ _ _ _ head _ c.in-Err.ensures refl in
    omega (arith, h, head.within)

pub returns-in-Err : goal.returns-in-Err
unfolding check_of
returns-in-Err c = let head = c.loop-at.invariant in
    let h = turn_refuses _ _ _ _ head _ c.in-Err.ensures refl in
    on_ge _ _ _ _ _ c.if-s-gt-OCTETS.false (c.at-in-Err.ensures ∙ h)

pub overflow_add-at-in-Ok-Designates : goal.overflow_add-at-in-Ok-Designates
overflow_add-at-in-Ok-Designates c = let head = c.loop-at.invariant in
    let k = ap (λ x. shape_seen (Ok x)) c.in-Ok-Designates.field-0-is in
    let h = turn_designates _ _ _ _ head _ c.in-Ok-Designates.ensures k in
    omega (arith, h.fits)

pub loop-at-smaller-in-Ok-Designates : goal.loop-at-smaller-in-Ok-Designates
loop-at-smaller-in-Ok-Designates c = let head = c.loop-at.invariant in
    let k = ap (λ x. shape_seen (Ok x)) c.in-Ok-Designates.field-0-is in
    let h = turn_designates _ _ _ _ head _ c.in-Ok-Designates.ensures k in
    omega (arith, h.fits, h.some)

pub loop-at-preserved-in-Ok-Designates : goal.loop-at-preserved-in-Ok-Designates
loop-at-preserved-in-Ok-Designates c = let head = c.loop-at.invariant in
    let k = ap (λ x. shape_seen (Ok x)) c.in-Ok-Designates.field-0-is in
    let h = turn_designates _ _ _ _ head _ c.in-Ok-Designates.ensures k in
    rw c.designated-st-in-Ok-Designates.ensures h.head

pub returns-in-Err-step : goal.returns-in-Err-step
unfolding check_of
returns-in-Err-step c = let k = ap (λ x. shape_seen (Ok x)) c.in-Ok-Gives.field-0-is in
    let h = turn_stops _ _ _ _ c.loop-at.invariant _ c.in-Ok-Gives.ensures k c.in-Err-step.ensures refl in
    on_ge _ _ _ _ _ c.if-s-gt-OCTETS.false (c.at-in-Err-step.ensures ∙ h)

pub overflow_add-at-in-Ok-step : goal.overflow_add-at-in-Ok-step
overflow_add-at-in-Ok-step c = let k = ap (λ x. shape_seen (Ok x)) c.in-Ok-Gives.field-0-is in
    let h = turn_goes _ _ _ _ c.loop-at.invariant _ c.in-Ok-Gives.ensures k c.in-Ok-step.ensures refl in omega (arith, h.fits)

pub overflow_add-at-in-Ok-step-2 : goal.overflow_add-at-in-Ok-step-2
overflow_add-at-in-Ok-step-2 c = let k = ap (λ x. shape_seen (Ok x)) c.in-Ok-Gives.field-0-is in
    let h = turn_goes _ _ _ _ c.loop-at.invariant _ c.in-Ok-Gives.ensures k c.in-Ok-step.ensures refl in omega (arith, h.fits)

pub overflow_add-count-in-Ok-step : goal.overflow_add-count-in-Ok-step
overflow_add-count-in-Ok-step c = let k = ap (λ x. shape_seen (Ok x)) c.in-Ok-Gives.field-0-is in
    let h = turn_goes _ _ _ _ c.loop-at.invariant _ c.in-Ok-Gives.ensures k c.in-Ok-step.ensures refl in
    omega (arith, h.head.few, h.fits, c.if-s-gt-OCTETS.false)

pub loop-at-smaller : goal.loop-at-smaller
loop-at-smaller c = let k = ap (λ x. shape_seen (Ok x)) c.in-Ok-Gives.field-0-is in
    let h = turn_goes _ _ _ _ c.loop-at.invariant _ c.in-Ok-Gives.ensures k c.in-Ok-step.ensures refl in omega (arith, h.fits, h.some)

pub loop-at-preserved : goal.loop-at-preserved
loop-at-preserved c = let k = ap (λ x. shape_seen (Ok x)) c.in-Ok-Gives.field-0-is in
    let h = turn_goes _ _ _ _ c.loop-at.invariant _ c.in-Ok-Gives.ensures k c.in-Ok-step.ensures refl in
    rw c.directed-st.ensures h.head

pub returns : goal.returns
unfolding check_of
returns c = let done = turn_done _ _ _ _ c.loop-at.invariant c.loop-at-test.false in
    on_ge _ _ _ _ _ c.if-s-gt-OCTETS.false (c.accepted-2.ensures ∙ done)
