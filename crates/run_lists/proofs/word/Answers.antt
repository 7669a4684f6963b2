-- `run_lists::word` meets its contract: its parts are the set, width and direction that are shown of the run.
use Rattle.element.proofs.Names.{refl}
use Rattle.pieces.specs.Pieces.{set_in}
use Rattle.runs.specs.Runs.{shown_of}
use Rattle.run_lists.proofs.word.Goals as goal

pub returns : goal.returns
unfolding set_in shown_of
returns c = rw (c.joined.ensures, c.upper-part.ensures.0, c.in_force.ensures, c.set_in-set.ensures, c.number.ensures) refl
