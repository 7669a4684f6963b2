-- `run_lists::list_from` meets its contract: each turn goes on from where the list has come to, and the end stays the same.
use Rattle.element.proofs.Names.{◌-◌, length}
use Rattle.run_lists.specs.Listed.{Onward}
use Rattle.run_lists.proofs.list_from.Given as goal

abbrev pub invariant-loop-out : goal.invariant-loop-out
invariant-loop-out l = Onward l.s l.initial.l l.initial.out l.l l.out

abbrev pub decreases-loop-out : goal.decreases-loop-out
decreases-loop-out l = length l.s - l.l.place
