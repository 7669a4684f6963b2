-- `stepping::stop_at` meets its contract, by the answer that it is given.
use Rattle.runs.proofs.Steps.{stop_as}
use Rattle.runs.proofs.stepping.stop_at.Goals as goal

pub returns : goal.returns
returns c = rw (c.step_to.ensures, c.no_run.ensures, c.stopped.ensures) (stop_as _ _ _)
