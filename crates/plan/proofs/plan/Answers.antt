-- `plan::plan` meets its contract. The invariant: what the rows from i on cost is known from all numbers, and those rows are planned.
use Rattle.element.proofs.Names.{arith, refl, ℕ, ◌+◌, ap}
use lib.ListN.{replicate}
use Rattle.numbers.proofs.Numbers.{bounded}
use Rattle.plan.proofs.Rest.{known_none, planned_none, known_sum, known_result, known_smooth, row_lies, turn_near, turn_known, turn_planned}
use Rattle.plan.proofs.Rest.{plan_end}
use Rattle.plan.proofs.plan.Goals as goal

pub loop-i-init : goal.loop-i-init
loop-i-init c = let rows = c.rows_of-i.ensures in
    rw rows.0 (
      known_none _ _ _ (replicate 80 0) (bounded (replicate 80 0) 0 refl) refl (omega (arith, rows.0)) (omega (arith, rows.0)) (λ q. (c.type_inv.work q).fits),
      planned_none _ _ _,
    )

pub overflow_mul-row : goal.overflow_mul-row
overflow_mul-row c = (row_lies c.loop-i.invariant c.loop-i-test.true).start

pub overflow_add-tag : goal.overflow_add-tag
overflow_add-tag c = (row_lies c.loop-i.invariant c.loop-i-test.true).tag

pub bounds-work-row : goal.bounds-work-row
bounds-work-row c = (row_lies c.loop-i.invariant c.loop-i-test.true).read

pub unit_before-taken-requires : goal.unit_before-taken-requires
unit_before-taken-requires c = let known = c.loop-i.invariant in
    record {
      class_of = c.class_of-x.ensures.1;
      low = known.0.low;
      smooth = known_smooth known.0;
      near = turn_near (row_lies known c.loop-i-test.true).next known.0 known.1 c.class_of-x.ensures.0 c.size_at-size.ensures.0;
      long = known.0.long;
    }

pub overflow_add-base : goal.overflow_add-base
overflow_add-base c = (known_sum c.loop-i.invariant.0 c.size_at-size.ensures.1 c.unit_before-taken.ensures.small).0

pub overflow_add-base-in-loop-i : goal.overflow_add-base-in-loop-i
overflow_add-base-in-loop-i c = (known_sum c.loop-i.invariant.0 c.size_at-size.ensures.1 c.unit_before-taken.ensures.small).1

pub loop-i-preserved : goal.loop-i-preserved
loop-i-preserved c = let known = c.loop-i.invariant in
    let next = (row_lies known c.loop-i-test.true).next in
    let its_class = c.class_of-x.ensures.0 in
    let its_size = c.size_at-size.ensures.0 in (
      turn_known next known.0 known.1 its_class its_size c.unit_before-taken.ensures,
      turn_planned next known.0 known.1 its_class its_size (c.keep.ensures.there (row_lies known c.loop-i-test.true).costs),
    )

pub overflow_add-result : goal.overflow_add-result
overflow_add-result c = omega (arith, known_result c.loop-i.invariant.0, c.from.ensures)

pub returns : goal.returns
returns c = plan_end (search arith) c.loop-i.invariant.0 c.loop-i.invariant.1 (ap (λ (v : ℕ). c.loop-i.base + v) c.from.ensures)
