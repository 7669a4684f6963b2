-- `marks::mark_turn` meets its contract, by the case of the step.
use Rattle.element.proofs.Names.{refl}
use Rattle.cursor.specs.Cursor.{step_turn}
use Rattle.cursor.proofs.Marked.{mark_goes, mark_stops}
use Rattle.cursor.proofs.marks.mark_turn.Goals as goal

pub returns-in-Ok : goal.returns-in-Ok
unfolding step_turn
returns-in-Ok c = mark_goes _ _ _ _ _ _ _ c.state-st.ensures c.in-Ok.ensures _ refl (rw (c.in_force.ensures, c.cursor_at.ensures, c.directed.ensures))

pub returns-in-Err : goal.returns-in-Err
returns-in-Err c = mark_stops _ _ _ _ _ _ _ c.state-st.ensures c.in-Err.ensures _ refl c.by_element.ensures
