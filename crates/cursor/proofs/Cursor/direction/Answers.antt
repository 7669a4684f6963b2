-- `cursor::Cursor::direction` meets its contract, by what it calls.
use Rattle.cursor.proofs.Cursor.direction.Goals as goal

pub returns : goal.returns
returns c = rw (c.in_force.ensures, c.state.ensures)
