-- `finals::gr_94` meets its contract, arm by arm.
use Rattle.base.proofs.Ladder.{ladder}
use Rattle.charset.specs.Finals.{after_gr94}
use Rattle.charset.proofs.finals.gr_94.Statement.{statement}
use Rattle.charset.proofs.finals.gr_94.Tie as tie

pub gr_94_spec : {M : Type 1} → statement M
unfolding after_gr94
gr_94_spec =
    tie.close
    (tie.spec (λ c. search ladder depth 12) (λ c. search ladder depth 12))
