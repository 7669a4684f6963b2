-- `emit::emit` meets its contract. The invariant: what is written and the writing of the rest are the whole.
use Rattle.element.proofs.Names.{arith}
use Rattle.emit.proofs.Forward.{going_none, room_unit, going_more, going_end}
use Rattle.emit.proofs.emit.Goals as goal

pub loop-i-init : goal.loop-i-init
loop-i-init c = going_none _ _ _ _

pub choose-j-requires : goal.choose-j-requires
choose-j-requires c = (
  c.class_of-x.ensures.1,
  c.loop-i.invariant.state,
  c.from-l.ensures,
  c.from-r.ensures,
  omega (arith, c.requires.1, c.loop-i-test.true),
)

pub put_row-at-requires : goal.put_row-at-requires
put_row-at-requires c = let pre = c.requires in (
  omega (arith, pre.1, c.loop-i-test.true),
  room_unit c.loop-i.invariant pre.2 c.loop-i-test.true c.class_of-x.ensures.0 c.choose-j.ensures
      c.from-l.ensures pre.3 c.put_change-a.ensures,
)

pub loop-i-preserved : goal.loop-i-preserved
loop-i-preserved c = going_more c.loop-i.invariant c.requires.2 c.loop-i-test.true c.class_of-x.ensures.0 c.choose-j.ensures
    c.from-l.ensures c.requires.3 c.put_change-a.ensures c.put_row-at.ensures

pub returns : goal.returns
returns c = going_end c.loop-i.invariant (search arith) (search arith)
