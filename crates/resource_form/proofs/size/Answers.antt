-- `resource_form::size` meets its contract: each test counts 1 or nothing.
use Rattle.resource_form.proofs.Steps.{form_size}
use Rattle.resource_form.proofs.size.Goals as goal

pub returns : goal.returns
returns c = form_size _
