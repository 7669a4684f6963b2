-- `record_rules::plain::settled` meets its contract.
use Rattle.element.proofs.Names.{ladder}
use Rattle.record_rules.specs.Plain.{settled_by_text}
use Rattle.record_rules.proofs.plain.settled.Statement.{statement}
use Rattle.record_rules.proofs.plain.settled.Tie as tie

pub settled_spec : {M : Type 1} → statement M
unfolding settled_by_text
settled_spec = tie.close (tie.spec (λ c. search ladder depth 9) (λ c. search ladder depth 9))
