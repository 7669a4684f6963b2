-- `Directions::deeper` meets its contract: one test, which the ladder takes.
use native.Mathlib.Omega.{arith}
use Rattle.base.proofs.Ladder.{ladder}
use Rattle.state.specs.Directions.{deeper_of}
use Rattle.state.proofs.directions.Directions.deeper.Statement.{statement}
use Rattle.state.proofs.directions.Directions.deeper.Tie as tie

pub deeper_spec : {M : Type 1} → statement M
unfolding deeper_of
deeper_spec = tie.close (tie.spec (search arith) (search arith) (search arith) (λ c. search ladder depth 9) (λ c. search ladder depth 9))
