-- `Directions::step` meets its contract, kind by kind.
use native.Mathlib.Omega.{arith}
use Rattle.base.proofs.Ladder.{ladder}
use Rattle.state.specs.Directions.{step_of}
use Rattle.state.proofs.directions.Directions.step.Statement.{statement}
use Rattle.state.proofs.directions.Directions.step.Tie as tie

pub step_spec : {M : Type 1} → statement M
unfolding step_of
step_spec =
    tie.close (tie.spec (search arith) (λ c. search ladder depth 9) (search arith) (search arith) (search arith) (λ c. search ladder depth 9)
    (λ c. search ladder depth 9) (λ c. search ladder depth 9) (λ c. search ladder depth 9))
