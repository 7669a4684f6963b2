-- `spans::any_unit` meets its contract. Assumes nothing.
use Rattle.spans.proofs.any_unit.Goals as goal

pub returns : goal.returns
returns c = rw (c.placed_at.ensures, c.advance-t.ensures)
