-- `run_lists::list_from` meets its contract: each turn goes on from where the list has come to, and the end stays the same.
use Rattle.element.proofs.Names.{arith, refl, ap, sym, ◌∙◌, ltb-true}
use Rattle.run_lists.specs.Listed.{runs_step}
use Rattle.runs.proofs.Steps.{begun_cut, begun_starts, cut_other, given_moves}
use Rattle.run_lists.proofs.Lists.{on_first_lem, on_join, on_shown, on_passed, ends_full, ends_stopped}
use Rattle.run_lists.proofs.list_from.Goals as goal

pub loop-out-init : goal.loop-out-init
loop-out-init c = on_first_lem _ _ _

pub list_quickly-l-requires : goal.list_quickly-l-requires
list_quickly-l-requires c = c.requires

pub shape_of-out-then-out-k : goal.shape_of-out-then-out-k
shape_of-out-then-out-k c = (on_join c.loop-out.invariant c.list_quickly-l.ensures).long

pub returns-then-out-k : goal.returns-then-out-k
returns-then-out-k c = ends_full (on_join c.loop-out.invariant c.list_quickly-l.ensures) _ _ c.stand_at-l.ensures _
    c.if-out-k.true (c.step_to.ensures ∙ ap (runs_step _) c.accepted.ensures)

pub shape_of-out-in_default : goal.shape_of-out-in_default
shape_of-out-in_default c = (on_join c.loop-out.invariant c.list_quickly-l.ensures).long

pub returns-in_default : goal.returns-in_default
returns-in_default c =
    ends_stopped (on_join c.loop-out.invariant c.list_quickly-l.ensures) _ _ c.stand_at-l.ensures _ _ _ c.if-out-k.false c.in_default.ensures refl
    c.stopped.ensures (c.step_to-in_default.ensures ∙ ap (runs_step _) c.end_of.ensures)

pub word-requires : goal.word-requires
word-requires c =
    let short = c.requires in
    let low = ltb-true _ _ (sym c.is_run.ensures ∙ c.if-is_run.true) in
    let cut = begun_cut _ _ _ (λ i. omega (arith, c.type_inv.s i)) _ _ _ c.in-Some.ensures low c.number.ensures c.text_end-end.ensures in
    (omega (arith, short, begun_starts _ _ _ _ c.in-Some.ensures low, cut.more, cut.within), omega (arith, short, cut.within))

pub offset_bounds-out-k : goal.offset_bounds-out-k
offset_bounds-out-k c = let long = (on_join c.loop-out.invariant c.list_quickly-l.ensures).long in
    omega (arith, long, c.if-out-k.false)

pub overflow_add-k : goal.overflow_add-k
overflow_add-k c = let long = (on_join c.loop-out.invariant c.list_quickly-l.ensures).long in
    omega (arith, long, c.if-out-k.false)

pub loop-out-smaller-then-is_run : goal.loop-out-smaller-then-is_run
loop-out-smaller-then-is_run c =
    let low = ltb-true _ _ (sym c.is_run.ensures ∙ c.if-is_run.true) in
    let cut = begun_cut _ _ _ (λ i. omega (arith, c.type_inv.s i)) _ _ _ c.in-Some.ensures low c.number.ensures c.text_end-end.ensures in
    rw c.stand_at-l-then-is_run.ensures (omega (arith, c.list_quickly-l.ensures.further, cut.more, cut.within))

pub loop-out-preserved-then-is_run : goal.loop-out-preserved-then-is_run
loop-out-preserved-then-is_run c =
    let low = ltb-true _ _ (sym c.is_run.ensures ∙ c.if-is_run.true) in
    let cut = begun_cut _ _ _ (λ i. omega (arith, c.type_inv.s i)) _ _ _ c.in-Some.ensures low c.number.ensures c.text_end-end.ensures in
    rw c.stand_at-l-then-is_run.ensures
    (on_shown (on_join c.loop-out.invariant c.list_quickly-l.ensures) c.if-out-k.false cut _ low c.word.ensures)

pub loop-out-smaller : goal.loop-out-smaller
loop-out-smaller c =
    let other = sym c.is_run.ensures ∙ c.if-is_run.false in
    let cut = cut_other _ _ _ _ c.in-Some.ensures (given_moves _ _ _ _ c.in-Some.ensures) other in
    rw c.stand_at-l-in-loop-out.ensures (omega (arith, c.list_quickly-l.ensures.further, cut.more, cut.within))

pub loop-out-preserved : goal.loop-out-preserved
loop-out-preserved c =
    let other = sym c.is_run.ensures ∙ c.if-is_run.false in
    rw c.stand_at-l-in-loop-out.ensures
    (on_passed (on_join c.loop-out.invariant c.list_quickly-l.ensures) c.if-out-k.false
    (cut_other _ _ _ _ c.in-Some.ensures (given_moves _ _ _ _ c.in-Some.ensures) other) other)
