-- `finals::gr_96` meets its contract, arm by arm.
use Rattle.base.proofs.Ladder.{ladder}
use Rattle.charset.specs.Finals.{after_gr96}
use Rattle.charset.proofs.finals.gr_96.Statement.{statement}
use Rattle.charset.proofs.finals.gr_96.Tie as tie

pub gr_96_spec : {M : Type 1} → statement M
unfolding after_gr96
gr_96_spec =
    tie.close
    (tie.spec (λ c. search ladder depth 12) (λ c. search ladder depth 12) (λ c. search ladder depth 12) (λ c. search ladder depth 12)
    (λ c. search ladder depth 12) (λ c. search ladder depth 12) (λ c. search ladder depth 12) (λ c. search ladder depth 12)
    (λ c. search ladder depth 12) (λ c. search ladder depth 12))
