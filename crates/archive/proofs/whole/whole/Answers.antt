-- `archive::whole::whole` meets its contract: at each turn of the loop what is left answers what the whole string does (`Head`). What is passed at
-- once leads on (`turn_on`), so this holds where the two ways meet, of a mark and of anything else (`ahead`); and the element there is a turn of the
-- first reader's check.
use Rattle.element.proofs.Names.{◌≤◌, arith, ap, refl, ◌∙◌, on_lt, on_ge}
use Rattle.std.proofs.Common.{Ok}
use Rattle.state.specs.Elements.{shape_seen}
use Rattle.grammar.specs.Reading.{check_of}
use Rattle.check_string.proofs.Turn.{turn_done, turn_ends, turn_refuses, turn_stops}
use Rattle.archive_laws.proofs.Turn.{HeadBy, first_by, turn_on, refuses_fits, designates_by, goes_by}
use Rattle.archive.proofs.whole.whole.Goals as goal
use Rattle.archive.proofs.whole.whole.Goals.{Joined-s-at, then-s-at+else-s-at-2+else-began-at, else-s-at, then-loop-at-test+then-s-at+then-s-at-2, else-loop-at-test}

-- where the ways meet
ahead : (j : Joined-s-at)
    → HeadBy j.args.t.now j.args.s.now j.if-s-at.at j.if-s-at.count j.if-s-at.st
    × (j.loop-at.at ≤ j.if-s-at.at)
ahead j =
    let inv = j.loop-at.invariant in
    elim j.if-s-at.branch [
      | then-s-at+else-s-at-2+else-began-at w ↦ (
        rw (w.at-is, w.count-is, w.st-is) (turn_on _ _ _ _ _ inv _ w.begun-st.ensures _ _ _ w.passed-p.ensures),
        rw w.at-is (omega (arith, w.passed-p.ensures.since)),
      )
      | else-s-at w ↦ (rw (w.at-is, w.count-is, w.st-is) inv, rw w.at-is (omega arith))
    ]

pub returns-then-s-gt-OCTETS : goal.returns-then-s-gt-OCTETS
unfolding check_of
returns-then-s-gt-OCTETS c = λ _. on_lt _ _ _ _ _ c.if-s-gt-OCTETS.true c.at.ensures

pub loop-at-init : goal.loop-at-init
unfolding check_of
loop-at-init c = first_by _ _

pub begun-st-requires : goal.begun-st-requires
unfolding check_of
begun-st-requires c = c.loop-at-test.true

pub passed-p-requires : goal.passed-p-requires
unfolding check_of
passed-p-requires c = c.loop-at.invariant.within

pub overflow_add-count : goal.overflow_add-count
unfolding check_of
overflow_add-count c = let inv = c.loop-at.invariant in
    let p = c.passed-p.ensures in omega (arith, inv.few, p.since, p.within)

pub loop-at-smaller-then-not-settled : goal.loop-at-smaller-then-not-settled
unfolding check_of
loop-at-smaller-then-not-settled c = omega (arith, c.if-began-at.true, c.passed-p.ensures.within)

pub loop-at-preserved-then-not-settled : goal.loop-at-preserved-then-not-settled
unfolding check_of
loop-at-preserved-then-not-settled c = turn_on _ _ _ _ _ c.loop-at.invariant _ c.begun-st.ensures _ _ _
    c.passed-p.ensures

pub returns-in-Ok-Ends : goal.returns-in-Ok-Ends
unfolding check_of
returns-in-Ok-Ends c = λ is.
    let here = ahead (goal.at.returns-in-Ok-Ends c).Joined-s-at in
    let k = ap (λ x. shape_seen (Ok x)) c.in-Ok-Ends.field-0-is in
    let h = turn_ends _ _ _ _ (here.0.head is) _ c.in-Ok-Ends.ensures k in
    on_ge _ _ _ _ _ c.if-s-gt-OCTETS.false (c.accepted.ensures ∙ h)

pub overflow_add-at-in-Err : goal.overflow_add-at-in-Err
overflow_add-at-in-Err c =
    let here = ahead (goal.at.overflow_add-at-in-Err c).Joined-s-at in
    let h = refuses_fits _ _ _ _ _ here.0 _ c.in-Err.ensures refl in
    omega (arith, h)

pub returns-in-Err : goal.returns-in-Err
unfolding check_of
returns-in-Err c = λ is.
    let here = ahead (goal.at.returns-in-Err c).Joined-s-at in
    let h = turn_refuses _ _ _ _ (here.0.head is) _ c.in-Err.ensures refl in
    on_ge _ _ _ _ _ c.if-s-gt-OCTETS.false (c.at-in-Err.ensures ∙ h)

pub overflow_add-at : goal.overflow_add-at
overflow_add-at c =
    let here = ahead (goal.at.overflow_add-at c).Joined-s-at in
    let k = ap (λ x. shape_seen (Ok x)) c.in-Ok-Designates.field-0-is in
    let h = designates_by _ _ _ _ _ here.0 _ c.in-Ok-Designates.ensures k in
    omega (arith, h.fits)

pub loop-at-smaller-in-Ok-Designates : goal.loop-at-smaller-in-Ok-Designates
loop-at-smaller-in-Ok-Designates c =
    let here = ahead (goal.at.loop-at-smaller-in-Ok-Designates c).Joined-s-at in
    let k = ap (λ x. shape_seen (Ok x)) c.in-Ok-Designates.field-0-is in
    let h = designates_by _ _ _ _ _ here.0 _ c.in-Ok-Designates.ensures k in
    omega (arith, h.fits, h.some, here.1)

pub loop-at-preserved-in-Ok-Designates : goal.loop-at-preserved-in-Ok-Designates
loop-at-preserved-in-Ok-Designates c =
    let here = ahead (goal.at.loop-at-preserved-in-Ok-Designates c).Joined-s-at in
    let k = ap (λ x. shape_seen (Ok x)) c.in-Ok-Designates.field-0-is in
    let h = designates_by _ _ _ _ _ here.0 _ c.in-Ok-Designates.ensures k in
    rw c.designated-st.ensures h.head

pub returns-in-Err-step : goal.returns-in-Err-step
unfolding check_of
returns-in-Err-step c = λ is.
    let here = ahead (goal.at.returns-in-Err-step c).Joined-s-at in
    let k = ap (λ x. shape_seen (Ok x)) c.in-Ok-Gives.field-0-is in
    let h = turn_stops _ _ _ _ (here.0.head is) _ c.in-Ok-Gives.ensures k c.in-Err-step.ensures refl in
    on_ge _ _ _ _ _ c.if-s-gt-OCTETS.false (c.at-in-Err-step.ensures ∙ h)

pub overflow_add-at-in-Ok : goal.overflow_add-at-in-Ok
overflow_add-at-in-Ok c =
    let here = ahead (goal.at.overflow_add-at-in-Ok c).Joined-s-at in
    let k = ap (λ x. shape_seen (Ok x)) c.in-Ok-Gives.field-0-is in
    let h = goes_by _ _ _ _ _ here.0 _ c.in-Ok-Gives.ensures k c.in-Ok.ensures refl in
    omega (arith, h.fits, c.if-s-gt-OCTETS.false)

pub overflow_add-at-in-Ok-2 : goal.overflow_add-at-in-Ok-2
overflow_add-at-in-Ok-2 c =
    let here = ahead (goal.at.overflow_add-at-in-Ok-2 c).Joined-s-at in
    let k = ap (λ x. shape_seen (Ok x)) c.in-Ok-Gives.field-0-is in
    let h = goes_by _ _ _ _ _ here.0 _ c.in-Ok-Gives.ensures k c.in-Ok.ensures refl in
    omega (arith, h.fits, c.if-s-gt-OCTETS.false)

pub overflow_add-count-in-Ok : goal.overflow_add-count-in-Ok
overflow_add-count-in-Ok c =
    let here = ahead (goal.at.overflow_add-count-in-Ok c).Joined-s-at in
    let k = ap (λ x. shape_seen (Ok x)) c.in-Ok-Gives.field-0-is in
    let h = goes_by _ _ _ _ _ here.0 _ c.in-Ok-Gives.ensures k c.in-Ok.ensures refl in
    omega (arith, h.head.few, h.fits, c.if-s-gt-OCTETS.false)

pub loop-at-smaller : goal.loop-at-smaller
loop-at-smaller c =
    let here = ahead (goal.at.loop-at-smaller c).Joined-s-at in
    let k = ap (λ x. shape_seen (Ok x)) c.in-Ok-Gives.field-0-is in
    let h = goes_by _ _ _ _ _ here.0 _ c.in-Ok-Gives.ensures k c.in-Ok.ensures refl in
    omega (arith, h.fits, h.some, here.1)

pub loop-at-preserved : goal.loop-at-preserved
loop-at-preserved c =
    let here = ahead (goal.at.loop-at-preserved c).Joined-s-at in
    let k = ap (λ x. shape_seen (Ok x)) c.in-Ok-Gives.field-0-is in
    let h = goes_by _ _ _ _ _ here.0 _ c.in-Ok-Gives.ensures k c.in-Ok.ensures refl in
    rw c.directed-st.ensures h.head

pub returns : goal.returns
unfolding check_of
returns c = λ is.
    elim c.loop-at-test.branch [
      | then-loop-at-test+then-s-at+then-s-at-2 w ↦
          let head = turn_on _ _ _ _ _ c.loop-at.invariant _ w.begun-st.ensures _ _ _ w.passed-p.ensures in
          on_ge _ _ _ _ _ c.if-s-gt-OCTETS.false
          (c.accepted-2.ensures ∙ rw (w.at-is, w.count-is) (turn_done _ _ _ _ (head.head is) w.if-s-at-2.true))
      | else-loop-at-test w ↦
          on_ge _ _ _ _ _ c.if-s-gt-OCTETS.false
          (c.accepted-2.ensures ∙ rw (w.at-is, w.count-is) (turn_done _ _ _ _ (c.loop-at.invariant.head is) w.loop-at-test.false))
    ]
