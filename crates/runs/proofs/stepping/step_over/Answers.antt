-- `stepping::step_over` meets its contract, by what it calls.
use Rattle.element.proofs.Names.{ap, ◌∙◌}
use Rattle.runs.specs.Steps.{run_step_to}
use Rattle.runs.proofs.stepping.step_over.Goals as goal

pub returns : goal.returns
returns c = c.step_to.ensures ∙ ap (run_step_to _ _) c.shown.ensures
