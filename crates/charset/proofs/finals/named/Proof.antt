-- `finals::named` meets its contract, arm by arm.
use Rattle.base.proofs.Ladder.{on_eq, on_eq_key, on_ne}
use Rattle.charset.specs.Finals.{named_of}
use Rattle.charset.proofs.finals.named.Statement.{statement}
use Rattle.charset.proofs.finals.named.Tie as tie

pub named_spec : {M : Type 1} → statement M
unfolding named_of
named_spec =
    tie.close
    (tie.spec
    (λ c. search (on_eq, on_eq_key, on_ne) depth 14)
    (λ c. search (on_eq, on_eq_key, on_ne) depth 14)
    (λ c. search (on_eq, on_eq_key, on_ne) depth 14)
    (λ c. search (on_eq, on_eq_key, on_ne) depth 14)
    (λ c. search (on_eq, on_eq_key, on_ne) depth 14)
    (λ c. search (on_eq, on_eq_key, on_ne) depth 14)
    (λ c. search (on_eq, on_eq_key, on_ne) depth 14)
    (λ c. search (on_eq, on_eq_key, on_ne) depth 14)
    (λ c. search (on_eq, on_eq_key, on_ne) depth 14)
    (λ c. search (on_eq, on_eq_key, on_ne) depth 14)
    (λ c. search (on_eq, on_eq_key, on_ne) depth 14)
    (λ c. search (on_eq, on_eq_key, on_ne) depth 14))
