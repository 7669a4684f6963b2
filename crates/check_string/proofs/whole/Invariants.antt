-- `check_string::whole` meets its contract: at each turn of the loop what is left answers what the whole string does (`Head`), and the turns are
-- those of `Turn`.
use Rattle.element.proofs.Names.{◌-◌, length}
use Rattle.check_string.proofs.Turn.{Head}
use Rattle.check_string.proofs.whole.Given as goal

abbrev pub invariant-loop-at : goal.invariant-loop-at
invariant-loop-at l = Head l.s l.at l.count l.st

abbrev pub decreases-loop-at : goal.decreases-loop-at
decreases-loop-at l = length l.s - l.at
