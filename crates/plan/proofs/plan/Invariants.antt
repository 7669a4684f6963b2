-- `plan::plan` meets its contract. The invariant: what the rows from i on cost is known from all numbers, and those rows are planned.
use Rattle.element.proofs.Names.{length}
use Rattle.rows.specs.Rows.{rows_of}
use Rattle.plan.specs.Plan.{Planned}
use Rattle.plan.proofs.Rest.{Known}
use Rattle.plan.proofs.plan.Given as goal

abbrev pub invariant-loop-i : goal.invariant-loop-i
invariant-loop-i l =
    Known l.segments l.initial.work (rows_of l.n (length l.initial.work)) l.i l.base l.last l.cur
    × Planned l.segments l.initial.work (rows_of l.n (length l.initial.work)) l.i l.work
