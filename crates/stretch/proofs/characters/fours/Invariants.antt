-- `characters::fours` meets its contract. The invariant: only octets of the span stand from `at` to `i`.
use Rattle.element.proofs.Names.{◌-◌, length}
use Rattle.stretch.specs.Characters.{Filled}
use Rattle.stretch.proofs.characters.fours.Given as goal

abbrev pub invariant-loop-i : goal.invariant-loop-i
invariant-loop-i l = Filled l.first l.last l.s l.at l.i

abbrev pub decreases-loop-i : goal.decreases-loop-i
decreases-loop-i l = length l.s - l.i
