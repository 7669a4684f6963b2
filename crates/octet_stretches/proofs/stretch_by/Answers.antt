-- `octet_stretches::stretch_by` meets its contract: the stretch that is found, and else nothing.
use Rattle.element.proofs.Names.{arith, refl}
use Rattle.octet_stretches.specs.Stretched.{none}
use Rattle.octet_stretches.proofs.Laws.{by_numbers, stretched_whole}
use Rattle.octet_stretches.proofs.stretch_by.Goals as goal

pub returns-in_default : goal.returns-in_default
returns-in_default c = by_numbers (omega arith) refl none

pub returns-then-at-s : goal.returns-then-at-s
returns-then-at-s c = stretched_whole c.in-Some.ensures.cases.same c.found.ensures

pub returns-else-at-s : goal.returns-else-at-s
returns-else-at-s c = by_numbers (omega arith) refl none
