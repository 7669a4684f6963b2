-- `check_string::answer` meets its contract, by what `check` ensures.
use Rattle.element.proofs.Names.{ap}
use Rattle.check_string.specs.declared.Checked.{Checked}
use Rattle.check_string.proofs.answer.Goals as goal

pub returns : goal.returns
returns c = ap (λ (x : Checked). x.answer) c.check.ensures
