-- `r5_check::check` meets its contract: at each turn of the loop what is left answers what the whole string does (`Head`), and the turns are those
-- of `Turn`.
use Rattle.element.proofs.Names.{arith, sym, ◌∙◌, on_lt, on_ge, ap, refl}
use Rattle.std.proofs.Common.{Ok}
use Rattle.state.specs.Elements.{element_seen}
use Rattle.x11r5.specs.Reading.{unended_check_of}
use Rattle.r5_check.proofs.Turn.{head_first, turn_done, turn_end, turn_short, turn_unsupported, turn_refused}
use Rattle.r5_check.proofs.Turn.{turn_silent, turn_found}
use Rattle.r5_check.proofs.check.Goals as goal

pub returns-then-s-gt-OCTETS : goal.returns-then-s-gt-OCTETS
unfolding unended_check_of
returns-then-s-gt-OCTETS c = on_lt _ _ _ _ _ c.if-s-gt-OCTETS.true c.at.ensures

pub loop-at-init : goal.loop-at-init
loop-at-init c = head_first _

pub returns-in-Ok-End : goal.returns-in-Ok-End
unfolding unended_check_of
returns-in-Ok-End c =
    let h = turn_end _ _ _ _ c.loop-at.invariant _ c.in-Ok-End.ensures (ap (λ x. element_seen (Ok x)) c.in-Ok-End.field-0-is) in
    on_ge _ _ _ _ _ c.if-s-gt-OCTETS.false (c.accepted.ensures ∙ h)

pub refused_at-requires : goal.refused_at-requires
refused_at-requires c = turn_short _ _ _ _ c.loop-at.invariant _ c.in-Err.ensures refl

pub returns-in-Err : goal.returns-in-Err
unfolding unended_check_of
returns-in-Err c =
    let h = turn_refused _ _ _ _ c.loop-at.invariant _ c.in-Err.ensures refl in
    on_ge _ _ _ _ _ c.if-s-gt-OCTETS.false (c.refused_at.ensures ∙ h)

pub overflow_add-at : goal.overflow_add-at
overflow_add-at c = let h = turn_silent _ _ _ _ c.loop-at.invariant _ c.in-Ok-Silent.ensures (ap (λ x. element_seen (Ok x)) c.in-Ok-Silent.field-0-is) in omega (arith, h.fits)

pub loop-at-smaller-in-Ok-Silent : goal.loop-at-smaller-in-Ok-Silent
loop-at-smaller-in-Ok-Silent c =
    let h = turn_silent _ _ _ _ c.loop-at.invariant _ c.in-Ok-Silent.ensures (ap (λ x. element_seen (Ok x)) c.in-Ok-Silent.field-0-is) in
    omega (arith, h.fits, h.some)

pub loop-at-preserved-in-Ok-Silent : goal.loop-at-preserved-in-Ok-Silent
loop-at-preserved-in-Ok-Silent c =
    let h = turn_silent _ _ _ _ c.loop-at.invariant _ c.in-Ok-Silent.ensures (ap (λ x. element_seen (Ok x)) c.in-Ok-Silent.field-0-is) in
    h.head

pub returns-then-unsupported_at : goal.returns-then-unsupported_at
unfolding unended_check_of
returns-then-unsupported_at c =
    let h = turn_unsupported _ _ _ _ c.loop-at.invariant _ c.in-Ok-Found.ensures (ap (λ x. element_seen (Ok x)) c.in-Ok-Found.field-0-is)
    (sym c.unsupported_at.ensures ∙ c.if-unsupported_at.true) in
    on_ge _ _ _ _ _ c.if-s-gt-OCTETS.false (c.at-then-unsupported_at.ensures ∙ h)

pub overflow_add-at-in-Ok-Found : goal.overflow_add-at-in-Ok-Found
overflow_add-at-in-Ok-Found c =
    let h = turn_found _ _ _ _ c.loop-at.invariant _ c.in-Ok-Found.ensures (ap (λ x. element_seen (Ok x)) c.in-Ok-Found.field-0-is)
    (sym c.unsupported_at.ensures ∙ c.if-unsupported_at.false) in
    omega (arith, h.fits)

pub overflow_add-at-in-Ok-Found-2 : goal.overflow_add-at-in-Ok-Found-2
overflow_add-at-in-Ok-Found-2 c =
    let h = turn_found _ _ _ _ c.loop-at.invariant _ c.in-Ok-Found.ensures (ap (λ x. element_seen (Ok x)) c.in-Ok-Found.field-0-is)
    (sym c.unsupported_at.ensures ∙ c.if-unsupported_at.false) in
    omega (arith, h.fits)

pub overflow_add-count : goal.overflow_add-count
overflow_add-count c =
    let h = turn_found _ _ _ _ c.loop-at.invariant _ c.in-Ok-Found.ensures (ap (λ x. element_seen (Ok x)) c.in-Ok-Found.field-0-is)
    (sym c.unsupported_at.ensures ∙ c.if-unsupported_at.false) in
    omega (arith, h.head.few, h.fits, c.if-s-gt-OCTETS.false)

pub loop-at-smaller : goal.loop-at-smaller
loop-at-smaller c =
    let h = turn_found _ _ _ _ c.loop-at.invariant _ c.in-Ok-Found.ensures (ap (λ x. element_seen (Ok x)) c.in-Ok-Found.field-0-is)
    (sym c.unsupported_at.ensures ∙ c.if-unsupported_at.false) in
    omega (arith, h.fits, h.some)

pub loop-at-preserved : goal.loop-at-preserved
loop-at-preserved c =
    let h = turn_found _ _ _ _ c.loop-at.invariant _ c.in-Ok-Found.ensures (ap (λ x. element_seen (Ok x)) c.in-Ok-Found.field-0-is)
    (sym c.unsupported_at.ensures ∙ c.if-unsupported_at.false) in
    h.head

pub returns : goal.returns
unfolding unended_check_of
returns c = on_ge _ _ _ _ _ c.if-s-gt-OCTETS.false
    (c.accepted-2.ensures ∙ turn_done _ _ _ _ c.loop-at.invariant c.loop-at-test.false)
