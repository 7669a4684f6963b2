-- `resource::read::look_over` meets its contract. The invariant is `Looked`, and each turn is `looked_next`.
use native.Mathlib.Omega.{arith}
use Rattle.resource.proofs.Reading.{looked_first, first_within, looked_next, looked_bad, looked_last}
use Rattle.resource.proofs.read.look_over.Goals as goal

pub loop-at-init : goal.loop-at-init
loop-at-init c = looked_first _

pub overflow_add-at : goal.overflow_add-at
overflow_add-at c = let h = first_within _ _ _ _ _ c.loop-at-test.true c.first_at.ensures
    c.in-Some.is in omega (arith, h)

pub returns-in_default : goal.returns-in_default
returns-in_default c = search looked_bad

pub loop-at-smaller : goal.loop-at-smaller
loop-at-smaller c = let h = first_within _ _ _ _ _ c.loop-at-test.true c.first_at.ensures
    c.in-Some.is in omega (arith, h)

pub loop-at-preserved : goal.loop-at-preserved
loop-at-preserved c =
    looked_next _ _ _ c.in-Some.first.octet c.in-Some.first.size _ c.loop-at-test.true c.first_at.ensures c.in-Some.is c.loop-at.invariant

pub returns : goal.returns
returns c = search looked_last
