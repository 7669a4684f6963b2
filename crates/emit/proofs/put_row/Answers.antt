-- `emit::put_row` meets its contract, by the tag.
use Rattle.element.proofs.Names.{arith, refl, sym, ◌∙◌}
use Rattle.unit_octets.specs.Octets.{side_of}
use Rattle.unit_octets.proofs.Storing.{written_as, room_as, stored_written}
use Rattle.emit.proofs.Row.{row_two, row_one, row_control, other_octets}
use Rattle.emit.proofs.put_row.Goals as goal

pub put-requires : goal.put-requires
put-requires c = let args = c.args in (
  omega arith,
  room_as
      (row_two args.segments.now args.work.now args.row (side_of args.left) _ _ refl refl
      (sym c.two_octets.ensures ∙ c.if-two_octets.true)) _ c.requires.1,
)

pub returns-then-two_octets : goal.returns-then-two_octets
returns-then-two_octets c = let args = c.args in
    written_as
    (row_two args.segments.now args.work.now args.row (side_of args.left) _ _
    c.on_side-high.ensures c.on_side-low.ensures
    (sym c.two_octets.ensures ∙ c.if-two_octets.true))
    c.put.ensures

pub put-requires-then-tag-lt-TAB : goal.put-requires-then-tag-lt-TAB
put-requires-then-tag-lt-TAB c = let args = c.args in (
  omega arith,
  room_as
      (row_one args.segments.now args.work.now args.row (side_of args.left) _ refl
      (sym c.two_octets.ensures ∙ c.if-two_octets.false) c.if-tag-lt-TAB.true) _ c.requires.1,
)

pub returns-then-tag-lt-TAB : goal.returns-then-tag-lt-TAB
returns-then-tag-lt-TAB c = let args = c.args in
    written_as
    (row_one args.segments.now args.work.now args.row (side_of args.left) _ c.single-octet.ensures
    (sym c.two_octets.ensures ∙ c.if-two_octets.false) c.if-tag-lt-TAB.true)
    c.put-then-tag-lt-TAB.ensures

pub put-requires-then-tag-lt-LEFT_TO_RIGHT : goal.put-requires-then-tag-lt-LEFT_TO_RIGHT
put-requires-then-tag-lt-LEFT_TO_RIGHT c = let args = c.args in (
  omega arith,
  room_as
      (row_control args.segments.now args.work.now args.row (side_of args.left) _ refl c.if-tag-lt-TAB.false
      c.if-tag-lt-LEFT_TO_RIGHT.true) _ c.requires.1,
)

pub returns-then-tag-lt-LEFT_TO_RIGHT : goal.returns-then-tag-lt-LEFT_TO_RIGHT
returns-then-tag-lt-LEFT_TO_RIGHT c = let args = c.args in
    written_as
    (row_control args.segments.now args.work.now args.row (side_of args.left) _ c.control.ensures
    c.if-tag-lt-TAB.false c.if-tag-lt-LEFT_TO_RIGHT.true)
    c.put-then-tag-lt-LEFT_TO_RIGHT.ensures

pub returns : goal.returns
returns c = let args = c.args in
    let e = other_octets args.segments.now args.work.now args.row _ c.if-tag-lt-TAB.false in
    written_as e (stored_written (room_as e _ c.requires.1) c.put_other.ensures)
