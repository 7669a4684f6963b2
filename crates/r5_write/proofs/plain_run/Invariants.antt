-- The invariant of `r5_write::plain_run`'s loop: from i on, the records that pass end where they are to.
use Rattle.element.proofs.Names.{◌-◌, ◌≤◌, ◌≡◌}
use Rattle.write.specs.Stowed.{quick_run}
use Rattle.r5_write.proofs.plain_run.Given as goal

abbrev pub invariant-loop-i : goal.invariant-loop-i
invariant-loop-i l = (l.i ≤ l.n) × (quick_run l.units (l.n - l.i) l.i ≡ quick_run l.units l.n 0)

abbrev pub decreases-loop-i : goal.decreases-loop-i
decreases-loop-i l = l.n - l.i
