-- `cursor::double_turn` meets its contract, by what it calls.
use Rattle.cursor.proofs.double_turn.Goals as goal

pub returns : goal.returns
returns c = rw (c.two_octets.ensures, c.direction.ensures, c.placed_at.ensures)
