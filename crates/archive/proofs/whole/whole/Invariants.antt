-- `archive::whole::whole` meets its contract: at each turn of the loop what is left answers what the whole string does (`Head`). What is passed at
-- once leads on (`turn_on`), so this holds where the two ways meet, of a mark and of anything else (`ahead`); and the element there is a turn of the
-- first reader's check.
use Rattle.element.proofs.Names.{◌-◌, length}
use Rattle.archive_laws.proofs.Turn.{HeadBy}
use Rattle.archive.proofs.whole.whole.Given as goal

abbrev pub invariant-loop-at : goal.invariant-loop-at
invariant-loop-at l = HeadBy l.t l.s l.at l.count l.st

abbrev pub decreases-loop-at : goal.decreases-loop-at
decreases-loop-at l = length l.s - l.at
