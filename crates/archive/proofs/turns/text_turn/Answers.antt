-- `archive::turns::text_turn` meets its contract, by the class of the octet at the cursor.
use Rattle.element.proofs.Names.{arith, GL, GR}
use Rattle.octet_table.specs.Table.{number_of}
use Rattle.archive.proofs.Ready.{inside, moved_fits, one_turn, two_inside, two_turn, two_low, right_class}
use Rattle.archive.proofs.turns.text_turn.Goals as goal

pub moved-requires : goal.moved-requires
unfolding number_of
moved-requires c = moved_fits _ _ c.requires.0 2 (omega arith)

pub bounds-s-at : goal.bounds-s-at
unfolding number_of
bounds-s-at c = inside _ _ c.requires.0

pub bounds-s-at-then-k-eq-TWO_GL : goal.bounds-s-at-then-k-eq-TWO_GL
unfolding number_of
bounds-s-at-then-k-eq-TWO_GL c = let pre = c.requires in
    two_inside _ _ pre.0 _ pre.1 GL c.if-k-eq-TWO_GL.true

pub two_left-requires : goal.two_left-requires
unfolding number_of
two_left-requires c = let pre = c.requires in
    two_low _ _ pre.0 _ pre.1 c.if-k-eq-TWO_GL.true

pub returns-then-k-eq-TWO_GL : goal.returns-then-k-eq-TWO_GL
unfolding number_of
returns-then-k-eq-TWO_GL c = let pre = c.requires in
    two_turn _ _ pre.0 _ pre.1 GL c.if-k-eq-TWO_GL.true _ _ c.two_left.ensures c.moved.ensures

pub moved-requires-then-k-le-ONE_GR : goal.moved-requires-then-k-le-ONE_GR
unfolding number_of
moved-requires-then-k-le-ONE_GR c = moved_fits _ _ c.requires.0 1 (omega arith)

pub bounds-s-at-then-k-le-ONE_GR : goal.bounds-s-at-then-k-le-ONE_GR
unfolding number_of
bounds-s-at-then-k-le-ONE_GR c = inside _ _ c.requires.0

pub returns-then-k-le-ONE_GR : goal.returns-then-k-le-ONE_GR
unfolding number_of
returns-then-k-le-ONE_GR c = let pre = c.requires in
    one_turn _ _ pre.0 _ pre.1 _ _ c.if-k-le-ONE_GR.true (rw (c.one.ensures, c.set_by.ensures))
    c.moved-then-k-le-ONE_GR.ensures

pub moved-requires-2 : goal.moved-requires-2
unfolding number_of
moved-requires-2 c = moved_fits _ _ c.requires.0 2 (omega arith)

pub bounds-s-at-2 : goal.bounds-s-at-2
unfolding number_of
bounds-s-at-2 c = inside _ _ c.requires.0

pub bounds-s-at-3 : goal.bounds-s-at-3
unfolding number_of
bounds-s-at-3 c = let pre = c.requires in
    two_inside _ _ pre.0 _ pre.1 GR (right_class _ pre.2 c.if-k-le-ONE_GR.false c.if-k-eq-TWO_GL.false)

pub returns : goal.returns
unfolding number_of
returns c = let pre = c.requires in
    two_turn _ _ pre.0 _ pre.1 GR (right_class _ pre.2 c.if-k-le-ONE_GR.false c.if-k-eq-TWO_GL.false) _ _
    c.two_octets.ensures c.moved-2.ensures
