-- `run_parts::run_octet` meets its contract, by what it calls; the run lies in the string.
use Rattle.run_parts.proofs.Lies.{lies_as}
use Rattle.run_parts.proofs.run_octet.Goals as goal

pub part-requires : goal.part-requires
part-requires c = lies_as _ _ c.run_at-b.ensures

pub returns : goal.returns
returns c = rw (c.octet.ensures, c.part.ensures.0, c.run_at-b.ensures)
