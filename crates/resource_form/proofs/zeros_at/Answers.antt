-- `resource_form::zeros_at` meets its contract, test by test.
use native.Mathlib.Omega.{arith}
use Rattle.resource_form.proofs.Steps.{form_steps, zero_within}
use Rattle.resource_form.proofs.zeros_at.Goals as goal
use Rattle.resource_form.proofs.zeros_at.Goals.{else-zero_at-via-then-zero_at+else-zero_at-2, else-zero_at-via-else-zero_at}

pub overflow_add-at : goal.overflow_add-at
overflow_add-at c = let h = zero_within _ _ _ c.zero_at.ensures c.if-zero_at.true in omega (arith, h)

pub returns-then-zero_at-2 : goal.returns-then-zero_at-2
returns-then-zero_at-2 c = search form_steps depth 9

pub returns-else-zero_at : goal.returns-else-zero_at
returns-else-zero_at c =
    elim c.else-zero_at.branch [
      | else-zero_at-via-then-zero_at+else-zero_at-2 w ↦ search form_steps depth 9
      | else-zero_at-via-else-zero_at w ↦ search form_steps depth 9
    ]
