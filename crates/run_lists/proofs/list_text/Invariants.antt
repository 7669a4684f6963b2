-- `run_lists::list_text` meets its contract: each turn shows and stores a run, or passes a designation, and the end stays the same.
use Rattle.element.proofs.Names.{◌-◌, length}
use Rattle.run_lists.specs.Listed.{stand}
use Rattle.run_lists.proofs.Lists.{Texts}
use Rattle.run_lists.proofs.list_text.Given as goal

abbrev pub invariant-loop-k : goal.invariant-loop-k
invariant-loop-k l = Texts l.s (stand l.initial.at l.initial.k l.initial.st) l.initial.out l.direction l.at l.k l.st l.left l.right l.out

abbrev pub decreases-loop-k : goal.decreases-loop-k
decreases-loop-k l = length l.s - l.at
