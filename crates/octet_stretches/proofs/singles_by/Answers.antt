-- `octet_stretches::singles_by` meets its contract: before the place only units of one octet stand.
use Rattle.octet_stretches.proofs.Laws.{ones_both, ones_whole}
use Rattle.octet_stretches.proofs.singles_by.Goals as goal

pub returns-then-at-s : goal.returns-then-at-s
returns-then-at-s c = ones_whole c.in-Some.ensures.cases.same (ones_both c.fours.ensures c.singles.ensures)
