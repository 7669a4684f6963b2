-- `resource::read::store` meets its contract. The invariant is `Filling`, and each turn is `escape_next` or `raw_next`; an escape is never bad
-- (`escape_stands`), for the form has no fault.
use native.Mathlib.Omega.{arith}
use Rattle.resource.proofs.Conversions.{reading_length}
use Rattle.resource.proofs.Reading.{filling_first, some_here, escape_stands, escape_next, raw_next, filling_last, form_of_octets}
use Rattle.resource.proofs.read.store.Goals as goal
use Rattle.resource.proofs.read.store.Goals.{then-b-eq-BACKSLASH+in-Some, else-b-eq-BACKSLASH}

pub loop-i-init : goal.loop-i-init
loop-i-init c = filling_first _ _ _ _ (form_of_octets _ _ c.requires.0) (reading_length _ _ c.requires.0)

pub bounds-form-at : goal.bounds-form-at
bounds-form-at c = some_here _ _ _ _ _ _ _ c.loop-i.invariant c.loop-i-test.true

pub returns-in_default : goal.returns-in_default
returns-in_default c = absurd
    (escape_stands _ _ _ _ _ _ _ c.loop-i.invariant c.loop-i-test.true _ c.if-b-eq-BACKSLASH.true
    c.escape_at.ensures c.in_default.is)

pub overflow_add-at-else-b-eq-BACKSLASH : goal.overflow_add-at-else-b-eq-BACKSLASH
overflow_add-at-else-b-eq-BACKSLASH c = let h = some_here _ _ _ _ _ _ _ c.loop-i.invariant c.loop-i-test.true in omega (arith, h)

pub loop-i-preserved : goal.loop-i-preserved
loop-i-preserved c =
    let inv = c.loop-i.invariant in
    let more = c.loop-i-test.true in
    elim c.if-b-eq-BACKSLASH.branch [
      | then-b-eq-BACKSLASH+in-Some w ↦
          escape_next _ _ _ _ _ _ _ inv more w.in-Some.first.octet w.in-Some.first.size _ _ _ _ w.if-b-eq-BACKSLASH.true w.escape_at.ensures
          w.in-Some.is w.size.ensures w.at-is w.out-is
      | else-b-eq-BACKSLASH w ↦ raw_next _ _ _ _ _ _ _ inv more _ _ w.if-b-eq-BACKSLASH.false w.at-is w.out-is
    ]

pub returns : goal.returns
returns c = filling_last _ _ _ _ _ _ _ c.requires.1 c.loop-i-test.false c.loop-i.invariant
