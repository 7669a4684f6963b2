-- `run_parts::run` meets its contract: the bounds that `run_at` answers lie in the string.
use Rattle.run_parts.proofs.Lies.{lies_as}
use Rattle.run_parts.proofs.run.Goals as goal

pub part-requires : goal.part-requires
part-requires c = lies_as _ _ c.run_at-b.ensures
