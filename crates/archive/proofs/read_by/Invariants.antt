-- `archive::read_by` meets its contract: after i units the cursor is that after i units of the elements (`cur` in `Filled`), and of the part of the list
-- that is written the first i records are theirs; at the end the list is that of the contract (`filled`).
use Rattle.std.proofs.Common.{◌≡◌}
use Rattle.cursor.specs.Cursor.{first, element_turn}
use Rattle.read.proofs.Filled.{filled_by}
use Rattle.archive.specs.Turns.{rowed}
use Rattle.archive.proofs.Filled.{cur}
use Rattle.archive.proofs.read_by.Given as goal

abbrev pub invariant-loop-unit : goal.invariant-loop-unit
invariant-loop-unit l = record {
  cursor : l.c ≡ rowed (cur l.s l.fn.units l.unit-index);
  list : l.unit-items ≡ filled_by element_turn l.s l.unit-index first l.initial.unit-items;
}
