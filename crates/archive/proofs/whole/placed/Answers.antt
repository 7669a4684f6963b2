-- `archive::whole::placed` meets its contract: each designation leads on, under the sets that it leaves.
use Rattle.element.proofs.Names.{arith, refl, GL, GR, put}
use Rattle.archive_laws.proofs.Passes.{places_none}
use Rattle.archive.proofs.Found.{designation_found, places_found}
use Rattle.archive.proofs.whole.placed.Goals as goal

pub loop-place-init : goal.loop-place-init
loop-place-init c = places_none _ _ _ c.requires

pub returns-else-s-place-eq27 : goal.returns-else-s-place-eq27
returns-else-s-place-eq27 c = (c.loop-place.invariant, refl)

pub returns-in_default : goal.returns-in_default
returns-in_default c = (c.loop-place.invariant, refl)

pub overflow_add-place : goal.overflow_add-place
overflow_add-place c = omega (arith, (designation_found _ _ _ _ c.designation_at.ensures c.in-Ok.is).1)

pub loop-place-smaller-in-GL : goal.loop-place-smaller-in-GL
loop-place-smaller-in-GL c = let some = designation_found _ _ _ _ c.designation_at.ensures c.in-Ok.is in omega (arith, some.0, some.1)

pub loop-place-preserved-in-GL : goal.loop-place-preserved-in-GL
unfolding put
loop-place-preserved-in-GL c = places_found _ _ _ _ _ c.loop-place.invariant _ _ c.designation_at.ensures c.in-Ok.is GL c.in-GL.is

pub loop-place-smaller : goal.loop-place-smaller
loop-place-smaller c = let some = designation_found _ _ _ _ c.designation_at.ensures c.in-Ok.is in omega (arith, some.0, some.1)

pub loop-place-preserved : goal.loop-place-preserved
unfolding put
loop-place-preserved c = places_found _ _ _ _ _ c.loop-place.invariant _ _ c.designation_at.ensures c.in-Ok.is GR c.in-GR.is

pub returns-after-loop-place : goal.returns-after-loop-place
returns-after-loop-place c = (c.loop-place.invariant, refl)
