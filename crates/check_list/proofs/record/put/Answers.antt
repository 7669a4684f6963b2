-- `rows::record::put` meets its contract.
use Rattle.element.proofs.Names.{ℕ, ◌+◌, ◌*◌, ◌/◌, ◌<◌, arith, refl, on_lt, on_ge, length-set}
use Rattle.rows.specs.Rows.{with_record}
use Rattle.rows.proofs.Seven.{seven_stores}
use Rattle.check_list.proofs.record.put.Goals as goal

-- an octet of a row that the work room has
in_row : {w i : ℕ} (k : ℕ) → i < w / 72 → k < 7 → 72 * i + 65 + k < w
in_row k h l = omega arith

pub bounds-work-at-then-i-work : goal.bounds-work-at-then-i-work
unfolding with_record
bounds-work-at-then-i-work c = simp length-set (in_row 4 c.if-i-work.true (omega arith))

pub bounds-work-at-then-i-work-2 : goal.bounds-work-at-then-i-work-2
unfolding with_record
bounds-work-at-then-i-work-2 c = simp length-set (in_row 5 c.if-i-work.true (omega arith))

pub bounds-work-at-then-i-work-3 : goal.bounds-work-at-then-i-work-3
unfolding with_record
bounds-work-at-then-i-work-3 c = simp length-set (in_row 6 c.if-i-work.true (omega arith))

pub bounds-work-at-then-i-work-4 : goal.bounds-work-at-then-i-work-4
unfolding with_record
bounds-work-at-then-i-work-4 c = simp length-set (omega (arith, c.if-i-work.true))

pub bounds-work-at-then-i-work-5 : goal.bounds-work-at-then-i-work-5
unfolding with_record
bounds-work-at-then-i-work-5 c = simp length-set (in_row 1 c.if-i-work.true (omega arith))

pub bounds-work-at-then-i-work-6 : goal.bounds-work-at-then-i-work-6
unfolding with_record
bounds-work-at-then-i-work-6 c = simp length-set (in_row 2 c.if-i-work.true (omega arith))

pub shape_of-work : goal.shape_of-work
unfolding with_record
shape_of-work c = simp length-set

pub returns-then-i-work : goal.returns-then-i-work
unfolding with_record
returns-then-i-work c = let args = c.args in
    on_lt _ _ _ _ args.work.now c.if-i-work.true
    (seven_stores args.work.now (72 * args.i + 65) _ _ args.unit c.tag_of-tag.ensures c.number_of-number.ensures)

pub returns-else-i-work : goal.returns-else-i-work
unfolding with_record
returns-else-i-work c = on_ge _ _ _ _ _ c.if-i-work.false refl
