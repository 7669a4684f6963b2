-- `rewrite::stow` meets its contract. The invariant is `Head`, each turn is `head_next`, there is always a next unit (`head_more`), and no record
-- offends (`fine_at`).
use Rattle.rewrite.proofs.Turns.{Head}
use Rattle.rewrite.proofs.stow.Given as goal

abbrev pub invariant-loop-i : goal.invariant-loop-i
invariant-loop-i l = Head l.s l.initial.work l.i l.at l.st l.work
