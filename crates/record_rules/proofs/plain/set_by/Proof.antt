-- `record_rules::plain::set_by` meets its contract.
use Rattle.element.proofs.Names.{ladder}
use Rattle.record_rules.specs.Plain.{set_by}
use Rattle.record_rules.proofs.plain.set_by.Statement.{statement}
use Rattle.record_rules.proofs.plain.set_by.Tie as tie

pub set_by_spec : {M : Type 1} → statement M
unfolding set_by
set_by_spec = tie.close (tie.spec (λ c. search ladder depth 9) (λ c. search ladder depth 9))
