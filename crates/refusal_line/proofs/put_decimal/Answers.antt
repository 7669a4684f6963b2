-- `refusal_line::put_decimal` meets its contract. The invariant is `Counted`, and each turn is `counted_next`.
use Rattle.element.proofs.Names.{arith}
use Rattle.refusal_line.proofs.Texts.{counted_none, digit_room, counted_next, counted_length, counted_last}
use Rattle.refusal_line.proofs.put_decimal.Goals as goal

pub loop-rest-init : goal.loop-rest-init
loop-rest-init c = counted_none _ (omega arith) _ _

pub overflow_sub-at : goal.overflow_sub-at
overflow_sub-at c = omega (arith, digit_room _ _ _ c.requires.0 c.requires.1 _ _ _ c.loop-rest.invariant)

pub bounds-buffer-at : goal.bounds-buffer-at
bounds-buffer-at c = omega (arith, digit_room _ _ _ c.requires.0 c.requires.1 _ _ _ c.loop-rest.invariant)

pub loop-rest-preserved : goal.loop-rest-preserved
loop-rest-preserved c = counted_next _ _ _ c.requires.0 c.requires.1 _ _ _ c.loop-rest.invariant c.loop-rest-test.true

pub overflow_sub-at-2 : goal.overflow_sub-at-2
overflow_sub-at-2 c = omega (arith, digit_room _ _ _ c.requires.0 c.requires.1 _ _ _ c.loop-rest.invariant)

pub bounds-buffer-at-2 : goal.bounds-buffer-at-2
bounds-buffer-at-2 c = omega (arith, digit_room _ _ _ c.requires.0 c.requires.1 _ _ _ c.loop-rest.invariant)

pub shape_of-buffer : goal.shape_of-buffer
shape_of-buffer c = counted_length _ _ _ c.requires.0 c.requires.1 _ _ _ c.loop-rest.invariant

pub returns : goal.returns
returns c = let inv = c.loop-rest.invariant in
    let pre = c.requires in
    let within = digit_room _ _ _ pre.0 pre.1 _ _ _ inv in (
      (omega (arith, inv.stands, inv.few, within), omega (arith, inv.stands, inv.few)),
      counted_last _ _ _ pre.0 pre.1 _ _ _ inv c.loop-rest-test.false,
      counted_length _ _ _ pre.0 pre.1 _ _ _ inv,
    )
