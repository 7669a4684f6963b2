-- `charset::named_by` meets its contract: it answers what `finals::named` does.
use native.Mathlib.Omega.{arith}
use Rattle.charset.proofs.named_by.Statement.{statement}
use Rattle.charset.proofs.named_by.Tie as tie

pub named_by_spec : {M : Type 1} → statement M
named_by_spec = tie.close (tie.spec (search arith) (λ c. c.named.ensures))
