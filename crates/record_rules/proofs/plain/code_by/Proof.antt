-- `record_rules::plain::code_by` meets its contract.
use Rattle.element.proofs.Names.{ladder}
use Rattle.record_rules.specs.Plain.{code_by}
use Rattle.record_rules.proofs.plain.code_by.Statement.{statement}
use Rattle.record_rules.proofs.plain.code_by.Tie as tie

pub code_by_spec : {M : Type 1} → statement M
unfolding code_by
code_by_spec = tie.close (tie.spec (λ c. search ladder depth 9) (λ c. search ladder depth 9))
