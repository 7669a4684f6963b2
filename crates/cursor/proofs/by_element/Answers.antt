-- `cursor::by_element` meets its contract, by the case of what it calls.
use Rattle.element.proofs.Names.{ap, ◌∙◌}
use Rattle.cursor.specs.Cursor.{outcome_turn, element_turn}
use Rattle.units.specs.Next.{next_of}
use Rattle.cursor.proofs.by_element.Goals as goal

pub returns-in-Ok : goal.returns-in-Ok
unfolding outcome_turn element_turn
returns-in-Ok c = rw c.cursor_at.ensures (ap (outcome_turn _) (c.in-Ok.ensures ∙ ap (next_of _ _) c.state.ensures))

pub returns-in-Err : goal.returns-in-Err
unfolding outcome_turn element_turn
returns-in-Err c = ap (outcome_turn _) (c.in-Err.ensures ∙ ap (next_of _ _) c.state.ensures)
