-- `positions::running::reader_of` meets its contract, flag by flag.
use Rattle.positions.specs.Running.{packed_runs}
use Rattle.positions.proofs.Flags.{flag_is}
use Rattle.positions.proofs.running.reader_of.Goals as goal

pub returns : goal.returns
unfolding packed_runs
returns c = simp (c.from.ensures, c.from-2.ensures, c.from-3.ensures, flag_is)
