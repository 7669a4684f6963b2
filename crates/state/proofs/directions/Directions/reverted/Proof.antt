-- `Directions::reverted` meets its contract, test by test.
use native.Mathlib.Omega.{arith}
use Rattle.base.proofs.Ladder.{ladder}
use Rattle.state.specs.Directions.{reverted_of}
use Rattle.state.proofs.directions.Directions.reverted.Statement.{statement}
use Rattle.state.proofs.directions.Directions.reverted.Tie as tie

pub reverted_spec : {M : Type 1} → statement M
unfolding reverted_of
reverted_spec = tie.close (tie.spec (λ c. search ladder depth 9) (search arith) (λ c. search ladder depth 9))
