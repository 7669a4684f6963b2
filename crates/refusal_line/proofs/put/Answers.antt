-- `refusal_line::put` meets its contract. The invariant is `Put`, and each turn is `put_next`.
use Rattle.element.proofs.Names.{arith, ◌≡◌}
use Rattle.refusal_line.proofs.Texts.{put_none, put_next}
use Rattle.refusal_line.proofs.put.Goals as goal

pub loop-i-init : goal.loop-i-init
loop-i-init c = put_none _ _ _ c.requires.0 c.requires.1

pub overflow_sub-at : goal.overflow_sub-at
overflow_sub-at c = omega (arith, c.loop-i.invariant.stands, c.requires.0)

pub bounds-text-i : goal.bounds-text-i
bounds-text-i c = omega (arith, c.loop-i.invariant.few)

pub bounds-buffer-at : goal.bounds-buffer-at
bounds-buffer-at c = let inv = c.loop-i.invariant in let pre = c.requires in
    omega (arith, inv.stands, inv.same, inv.few, pre.0, pre.1)

pub loop-i-preserved : goal.loop-i-preserved
loop-i-preserved c = let pre = c.requires in put_next _ _ _ pre.0 pre.1 _ _ _ c.loop-i.invariant c.loop-i-test.true

pub shape_of-buffer : goal.shape_of-buffer
shape_of-buffer c = c.loop-i.invariant.same

pub returns : goal.returns
returns c = let inv = c.loop-i.invariant in let none : c.loop-i.i ≡ 0 = omega arith in
    (omega (arith, inv.stands, none), rw none at inv.holds, inv.same)
