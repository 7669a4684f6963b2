-- `stepping::run_from` meets its contract: at each turn the first run from the place that is reached is that from the start.
use Rattle.element.proofs.Names.{arith, refl, sym, ◌∙◌, ltb-true}
use Rattle.base.proofs.Ladder.{after}
use Rattle.runs.proofs.Steps.{cut_found, cut_other, text_cut, begun_cut, begun_starts, run_later, turn_shown, turn_none, turn_over}
use Rattle.runs.proofs.Steps.{found_fits, given_moves, side_low}
use Rattle.runs.proofs.stepping.run_from.Goals as goal

pub loop-at-init : goal.loop-at-init
loop-at-init c = refl

pub overflow_add-at : goal.overflow_add-at
overflow_add-at c = omega (arith, (found_fits _ _ _ _ c.designation_at.ensures c.in-Ok.is).1)

pub loop-at-smaller-in-Ok : goal.loop-at-smaller-in-Ok
loop-at-smaller-in-Ok c = let fits = found_fits _ _ _ _ c.designation_at.ensures c.in-Ok.is in
    omega (arith, fits.0, fits.1)

pub loop-at-preserved-in-Ok : goal.loop-at-preserved-in-Ok
loop-at-preserved-in-Ok c = rw c.designated-st.ensures
    (run_later _ _ _ (cut_found _ _ _ _ _ c.designation_at.ensures c.in-Ok.is) refl
    ∙ c.loop-at.invariant)

pub step_over-requires : goal.step_over-requires
step_over-requires c = omega (arith, c.if-at-end.true)

pub returns-then-at-end : goal.returns-then-at-end
returns-then-at-end c =
    let low = side_low _ c.side_kind-kind.ensures in
    let settled = sym c.settled.ensures ∙ c.if-settled.true in
    let cut = text_cut _ _ _ (λ i. omega (arith, c.type_inv.s i)) _ _ _ low settled c.number.ensures c.text_end-end.ensures c.if-at-end.true in
    after c.loop-at.invariant (turn_shown _ _ _ cut low refl c.step_over.ensures)

pub returns-in_default-piece_at : goal.returns-in_default-piece_at
returns-in_default-piece_at c = after c.loop-at.invariant (turn_none _ _ _ _ c.in_default-piece_at.ensures refl c.stop_at.ensures)

pub step_over-requires-then-is_run : goal.step_over-requires-then-is_run
step_over-requires-then-is_run c =
    let low = ltb-true _ _ (sym c.is_run.ensures ∙ c.if-is_run.true) in
    let cut = begun_cut _ _ _ (λ i. omega (arith, c.type_inv.s i)) _ _ _ c.in-Some.ensures low c.number-then-is_run.ensures
    c.text_end-end-then-is_run.ensures in
    omega (arith, begun_starts _ _ _ _ c.in-Some.ensures low, cut.more)

pub returns-then-is_run : goal.returns-then-is_run
returns-then-is_run c =
    let low = ltb-true _ _ (sym c.is_run.ensures ∙ c.if-is_run.true) in
    let cut = begun_cut _ _ _ (λ i. omega (arith, c.type_inv.s i)) _ _ _ c.in-Some.ensures low c.number-then-is_run.ensures
    c.text_end-end-then-is_run.ensures in
    after c.loop-at.invariant (turn_shown _ _ _ cut low refl c.step_over-then-is_run.ensures)

pub loop-at-smaller : goal.loop-at-smaller
loop-at-smaller c =
    let other = sym c.is_run.ensures ∙ c.if-is_run.false in
    let cut = cut_other _ _ _ _ c.in-Some.ensures (given_moves _ _ _ _ c.in-Some.ensures) other in
    omega (arith, cut.more, cut.within)

pub loop-at-preserved : goal.loop-at-preserved
loop-at-preserved c =
    let other = sym c.is_run.ensures ∙ c.if-is_run.false in
    run_later _ _ _ (cut_other _ _ _ _ c.in-Some.ensures (given_moves _ _ _ _ c.in-Some.ensures) other) other ∙ c.loop-at.invariant

pub returns : goal.returns
returns c = after c.loop-at.invariant (turn_over _ _ _ c.loop-at-test.false c.stop_at-2.ensures)
