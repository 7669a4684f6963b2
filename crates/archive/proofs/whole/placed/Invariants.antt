-- `archive::whole::placed` meets its contract: each designation leads on, under the sets that it leaves.
use Rattle.element.proofs.Names.{◌-◌, length}
use Rattle.archive_laws.specs.Passes.{Places}
use Rattle.archive.proofs.whole.placed.Given as goal

abbrev pub invariant-loop-place : goal.invariant-loop-place
invariant-loop-place l = Places l.s l.at l.fn.start l.place l.sets

abbrev pub decreases-loop-place : goal.decreases-loop-place
decreases-loop-place l = length l.s - l.place
