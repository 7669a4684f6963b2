-- `r5_read::stops::stop` meets its contract, summand by summand.
use Rattle.element.proofs.Names.{ℕ, zero, suc, ◌*◌, ◌≤◌, arith}
use Rattle.r5_read.specs.Stops.{stop_by}
use Rattle.r5_read.proofs.stops.stop.Goals as goal

-- each summand is at most 1
product_fits : (m n : ℕ) → m ≤ 1 → n ≤ 1 → m * n ≤ 1
product_fits zero n h k = omega arith
product_fits (suc zero) n h k = omega arith
product_fits (suc (suc m)) n h k = absurd (omega arith)

pub overflow_add-result : goal.overflow_add-result
overflow_add-result c = omega (arith, c.is-2.ensures.1, c.is.ensures.1)

pub overflow_mul-result : goal.overflow_mul-result
overflow_mul-result c = omega (arith, product_fits _ _ c.is-3.ensures.1 c.is-4.ensures.1)

pub overflow_add-result-2 : goal.overflow_add-result-2
overflow_add-result-2 c =
    let m = product_fits _ _ c.is-3.ensures.1 c.is-4.ensures.1 in
    omega (arith, m, c.is-2.ensures.1, c.is.ensures.1)

pub returns : goal.returns
unfolding stop_by
returns c = rw (c.is-4.ensures.0, c.is-3.ensures.0, c.is-2.ensures.0, c.is.ensures.0)
