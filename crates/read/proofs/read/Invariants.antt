-- `read::read` meets its contract: after i units the cursor and the list are those after i steps of the definition (`cur` and `got` in
-- `Spanned`), and at the end the list is `list_after` (`filled`).
use Rattle.std.proofs.Common.{◌-◌, ◌≡◌, ◌≤◌}
use Rattle.read.proofs.Spanned.{cur, got}
use Rattle.read.proofs.read.Given as goal

abbrev pub invariant-loop-i : goal.invariant-loop-i
invariant-loop-i l = record {
  within : l.i ≤ l.n;
  cursor : l.c ≡ cur l.s l.initial.units l.i;
  list : l.units ≡ got l.s l.initial.units l.i;
}

abbrev pub decreases-loop-i : goal.decreases-loop-i
decreases-loop-i l = l.n - l.i
