-- `stepping::run_from` meets its contract: at each turn the first run from the place that is reached is that from the start.
use Rattle.element.proofs.Names.{◌-◌, ◌≡◌, length}
use Rattle.runs.specs.Steps.{run_from}
use Rattle.runs.proofs.stepping.run_from.Given as goal

abbrev pub invariant-loop-at : goal.invariant-loop-at
invariant-loop-at l = run_from l.s l.at l.st ≡ run_from l.s l.place l.initial.st

abbrev pub decreases-loop-at : goal.decreases-loop-at
decreases-loop-at l = length l.s - l.at
