-- `finals::either_94x94` meets its contract, arm by arm.
use Rattle.base.proofs.Ladder.{ladder}
use Rattle.charset.specs.Finals.{after94x94}
use Rattle.charset.proofs.finals.either_94x94.Statement.{statement}
use Rattle.charset.proofs.finals.either_94x94.Tie as tie

pub either_94x94_spec : {M : Type 1} → statement M
unfolding after94x94
either_94x94_spec =
    tie.close
    (tie.spec (λ c. search ladder depth 12) (λ c. search ladder depth 12) (λ c. search ladder depth 12) (λ c. search ladder depth 12))
