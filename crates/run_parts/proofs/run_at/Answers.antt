-- `run_parts::run_at` meets its contract: the run of the step after k steps is the k-th run.
use Rattle.element.proofs.Names.{◌+◌, ◌-◌, ◌≡◌, arith, ◌∙◌}
use Rattle.runs.proofs.InOrder.{number_first, number_refused, at_number, past_number, next_number}
use Rattle.run_parts.proofs.run_at.Goals as goal

pub returns-then-checked-ne-ACCEPTED : goal.returns-then-checked-ne-ACCEPTED
returns-then-checked-ne-ACCEPTED c = c.no_run.ensures ∙ number_refused _ _ _ c.answer-checked.ensures c.if-checked-ne-ACCEPTED.true

pub loop-init : goal.loop-init
loop-init c =
    let whole : c.args.k - 0 ≡ c.args.k = omega arith in
    rw whole (number_first _ _ _ c.answer-checked.ensures c.if-checked-ne-ACCEPTED.false)

pub returns-then-t-ne-ACCEPTED : goal.returns-then-t-ne-ACCEPTED
returns-then-t-ne-ACCEPTED c = past_number c.loop.invariant _ c.run_from-t.ensures c.if-t-ne-ACCEPTED.true

pub loop-preserved : goal.loop-preserved
loop-preserved c =
    let left : c.args.k - c.loop.counter - 1 ≡ c.args.k - (c.loop.counter + 1) = omega arith in
    rw left at (next_number c.loop.invariant _ c.run_from-t.ensures (λ z. omega (arith, z)))

pub returns : goal.returns
returns c = at_number c.loop.invariant _ c.run_from.ensures (omega arith)
