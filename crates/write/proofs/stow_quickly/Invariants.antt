-- The invariant of `write::stow_quickly`'s loop: the records from the first place to before i have passed, and the quick check, from i on and
-- to the end, ends where it is to.
use Rattle.element.proofs.Names.{ℕ, ◌-◌, ◌≤◌, ◌<◌, ◌≡◌, true, List, UnitRecord}
use Rattle.check_list.specs.Turn.{quick_after}
use Rattle.check_list.specs.Turn.{Progress}
use Rattle.write.specs.Stowed.{quick_run, quick_end, Passed}
use Rattle.write.proofs.stow_quickly.Given as goal

pub record Known (p : Progress) (us : List UnitRecord) (from n : ℕ) (before : List ℕ) (end i : ℕ) (after : List ℕ) : Type 0 where
  pub most : end ≤ n
  pub quick : i < end → quick_after p ≡ true
  pub ends : quick_run us (end - i) i ≡ quick_end p us from n
  pub passed : Passed p us from i before after

abbrev pub invariant-loop-i : goal.invariant-loop-i
invariant-loop-i l = Known l.fn.progress l.units l.from l.n l.initial.work l.end l.i l.work

abbrev pub decreases-loop-i : goal.decreases-loop-i
decreases-loop-i l = l.end - l.i
