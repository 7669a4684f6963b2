-- `characters::pairs` meets its contract. The invariant: only two-octet characters stand from `at` to `i`.
use Rattle.element.proofs.Names.{◌-◌, length}
use Rattle.stretch.specs.Characters.{number, two_at, Along}
use Rattle.stretch.proofs.characters.pairs.Given as goal

abbrev pub invariant-loop-i : goal.invariant-loop-i
invariant-loop-i l = Along (two_at (number l.side)) 1 l.s l.at l.i

abbrev pub decreases-loop-i : goal.decreases-loop-i
decreases-loop-i l = length l.s - l.i
