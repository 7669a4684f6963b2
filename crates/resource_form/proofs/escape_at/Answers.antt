-- `resource_form::escape_at` meets its contract, octet by octet.
use Rattle.base.proofs.Ladder.{ladder}
use Rattle.resource_form.proofs.Steps.{on_escape, no_escape}
use Rattle.resource_form.proofs.escape_at.Goals as goal

pub returns-in_err-get : goal.returns-in_err-get
returns-in_err-get c = no_escape _ _ _ c.in_err-get.ensures.lookup.3 c.from_residual.ensures

pub returns-in-92 : goal.returns-in-92
returns-in-92 c = on_escape _ _ _ _ c.in_ok-get.ensures.lookup.3 (search ladder depth 9)

pub returns-in-110 : goal.returns-in-110
returns-in-110 c = on_escape _ _ _ _ c.in_ok-get.ensures.lookup.3 (search ladder depth 9)

pub returns-in-48 : goal.returns-in-48
returns-in-48 c = on_escape _ _ _ _ c.in_ok-get.ensures.lookup.3 (search ladder depth 9)

pub returns-in_default : goal.returns-in_default
returns-in_default c = on_escape _ _ _ _ c.in_ok-get.ensures.lookup.3 (search ladder depth 9)
