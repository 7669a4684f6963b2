-- The unit and the cursor of each turn are those of the elements (`turn_of`), and the part that is written is filled by one unit more (`fill_suc`).
use Rattle.std.proofs.Common.{◌≡◌, ◌<◌, ◌≤◌, length, ap, sym, ◌∙◌, add-one, arith}
use Rattle.std.proofs.Common.{length-take}
use Rattle.cursor.specs.Cursor.{first, element_turn}
use Rattle.read.specs.Listing.{stored_of}
use Rattle.read.proofs.Filled.{unit_by, after_by, stores}
use Rattle.walks.proofs.Filling.{iter_suc, fill_suc}
use Rattle.archive.specs.Turns.{rowed}
use Rattle.archive.proofs.Filled.{n, ready, filled_front}
use Rattle.archive.proofs.read_by.Goals as goal

pub slice_bounds-unit-items-end : goal.slice_bounds-unit-items-end
slice_bounds-unit-items-end c = rw (c.stored.ensures ∙ ap stored_of c.answer-a.ensures) (stores _ _)

pub slice_bounds-unit-items-end-2 : goal.slice_bounds-unit-items-end-2
slice_bounds-unit-items-end-2 c =
    let h : c.stored.result ≤ length c.args.units.now = rw (c.stored.ensures ∙ ap stored_of c.answer-a.ensures) (stores _ _) in
    omega (arith, length-take c.stored.result c.args.units.now)

pub turn-r-requires : goal.turn-r-requires
turn-r-requires c =
    let e : c.stored.result ≡ n c.args.s.now c.args.units.now = c.stored.ensures ∙ ap stored_of c.answer-a.ensures in
    let h : c.loop-unit.unit-index < n c.args.s.now c.args.units.now = omega (arith, e, length-take c.stored.result c.args.units.now) in
    (c.requires, rw c.loop-unit.invariant.cursor (ready _ _ _ h))

pub loop-unit-preserved : goal.loop-unit-preserved
loop-unit-preserved c =
    let s = c.args.s.now in
    let i = c.loop-unit.unit-index in
    let unit = unit_by element_turn s in
    let after = after_by element_turn s in
    let inv = c.loop-unit.invariant in
    record {
      cursor = rw (c.turn-r.ensures, inv.cursor, add-one i) (ap rowed (sym (iter_suc unit after i first)));
      list = rw (c.turn-r.ensures, inv.cursor, inv.list, add-one i) (fill_suc unit after i first _ c.loop-unit-test.true);
    }

pub returns : goal.returns
returns c =
    let ys = c.args.units.now in
    let e : c.stored.result ≡ n c.args.s.now ys = c.stored.ensures ∙ ap stored_of c.answer-a.ensures in
    let h : n c.args.s.now ys ≤ length ys = stores _ _ in
    let all : c.loop-unit.unit-index ≡ c.stored.result = omega (arith, e, length-take c.stored.result ys) in
    (c.answer-a.ensures, rw (c.loop-unit.invariant.list, all, e) (filled_front _ _))
