-- `record_rules::plain::plain` meets its contract.
use Rattle.element.proofs.Names.{ladder}
use Rattle.record_rules.specs.Plain.{plain_of}
use Rattle.record_rules.proofs.plain.plain.Goals as goal

pub returns-then-kind-le-SPACE : goal.returns-then-kind-le-SPACE
unfolding plain_of
returns-then-kind-le-SPACE c = rw (← c.code_by.ensures, ← c.set_by.ensures) (search ladder depth 9)

pub returns : goal.returns
unfolding plain_of
returns c = search ladder depth 9
