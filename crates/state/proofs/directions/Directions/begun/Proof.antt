-- `Directions::begun` meets its contract, test by test.
use native.Mathlib.Omega.{arith}
use Rattle.base.proofs.Ladder.{ladder}
use Rattle.state.specs.Directions.{begun_of}
use Rattle.state.proofs.directions.Directions.begun.Statement.{statement}
use Rattle.state.proofs.directions.Directions.begun.Tie as tie

pub begun_spec : {M : Type 1} → statement M
unfolding begun_of
begun_spec = tie.close (tie.spec (search arith) (λ c. search ladder depth 9) (λ c. search ladder depth 9) (search arith) (λ c. search ladder depth 9))
