-- `cursor::single_turn` meets its contract, by what it calls.
use Rattle.cursor.proofs.single_turn.Goals as goal

pub returns : goal.returns
returns c = rw (c.one_octet.ensures, c.direction.ensures, c.placed_at.ensures)
