-- `run_parts::run_at` meets its contract: the run of the step after k steps is the k-th run.
use Rattle.std.proofs.Common.{◌-◌}
use Rattle.runs.proofs.InOrder.{Numbered}
use Rattle.run_parts.proofs.run_at.Given as goal

abbrev pub invariant-loop : goal.invariant-loop
invariant-loop l = Numbered l.s l.k l.at l.st (l.k - l.counter)
