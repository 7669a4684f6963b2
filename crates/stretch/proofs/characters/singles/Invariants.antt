-- `characters::singles` meets its contract. The invariant: only units of one octet stand from `at` to `i`.
use Rattle.element.proofs.Names.{◌-◌, length}
use Rattle.stretch.specs.Characters.{one_at, Along}
use Rattle.stretch.proofs.characters.singles.Given as goal

abbrev pub invariant-loop-i : goal.invariant-loop-i
invariant-loop-i l = Along (one_at l.left l.right) 0 l.s l.at l.i

abbrev pub decreases-loop-i : goal.decreases-loop-i
decreases-loop-i l = length l.s - l.i
