-- `charset::final_of` meets its contract: it answers `final_by`, which is the table's.
use native.Mathlib.Omega.{arith}
use Rattle.base.proofs.Ladder.{ladder, after}
use Rattle.charset.specs.Finals.{final_by}
use Rattle.charset.proofs.Lookup.{final_rule}
use Rattle.charset.proofs.final_of.Statement.{statement}
use Rattle.charset.proofs.final_of.Tie as tie

pub final_of_spec : {M : Type 1} → statement M
unfolding final_by
final_of_spec =
    tie.close
    (tie.spec (λ c. after (final_rule c.before.args.set) (search ladder)) (search arith) (search arith) (search arith) (search arith) (search arith)
    (λ c. after (final_rule c.before.args.set) (search ladder)))
