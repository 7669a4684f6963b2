-- `Directions::in_force` meets its contract, test by test.
use Rattle.base.proofs.Ladder.{ladder}
use Rattle.state.specs.Directions.{in_force_of}
use Rattle.state.proofs.directions.Directions.in_force.Statement.{statement}
use Rattle.state.proofs.directions.Directions.in_force.Tie as tie

pub in_force_spec : {M : Type 1} → statement M
unfolding in_force_of
in_force_spec = tie.close (tie.spec (λ c. search ladder depth 9) (λ c. search ladder depth 9) (λ c. search ladder depth 9))
