-- `stepping::stopped` meets its contract, element by element; the place of a refusal lies in the string.
use Rattle.element.proofs.Names.{arith, refl}
use Rattle.grammar.proofs.Places.{refused_within}
use Rattle.runs.specs.Steps.{stop_at}
use Rattle.runs.proofs.Steps.{stopped_as, stopped_found}
use Rattle.runs.proofs.stepping.stopped.Goals as goal

pub overflow_add-at : goal.overflow_add-at
overflow_add-at c = let h = refused_within _ _ _ _ c.in-Err.ensures refl in omega arith

pub returns-in-Err : goal.returns-in-Err
unfolding stop_at
returns-in-Err c = stopped_as _ _ _ _ _ _ c.in-Err.ensures refl c.at.ensures

pub returns-in-Ok : goal.returns-in-Ok
unfolding stop_at
returns-in-Ok c = stopped_found _ _ _ _ c.in-Ok.ensures c.at-in-Ok.ensures
