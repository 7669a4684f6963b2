-- The invariant of `write::write`'s loop: the first i records are checked, and stand in their rows.
use Rattle.element.proofs.Names.{◌-◌, ◌≤◌, ◌≡◌}
use Rattle.write.specs.Stowed.{reached, Stowed}
use Rattle.write.proofs.write.Given as goal

abbrev pub invariant-loop-i : goal.invariant-loop-i
invariant-loop-i l = (l.i ≤ l.n) × (l.progress ≡ reached l.segments l.units l.i) × Stowed l.segments l.units l.i l.initial.work l.work

abbrev pub decreases-loop-i : goal.decreases-loop-i
decreases-loop-i l = l.n - l.i
