-- `read::fill` meets its contract: of a span, j units are passed and r.most - j may follow; the number and the list at the end are what they
-- were to be at the start (`Fills`).
use Rattle.std.proofs.Common.{◌-◌, ◌≡◌, ◌≤◌}
use Rattle.read.specs.Stores.{count_from, stored_from}
use Rattle.read.proofs.fill.Given as goal

abbrev pub invariant-loop-j : goal.invariant-loop-j
invariant-loop-j l = record {
  within : l.j ≤ l.r.most;
  count : count_from l.s l.r (l.r.most - l.j) l.j ≡ count_from l.s l.r l.r.most 0;
  stored : stored_from l.s l.r l.start (l.r.most - l.j) l.j l.units ≡ stored_from l.s l.r l.start l.r.most 0 l.initial.units;
}

abbrev pub decreases-loop-j : goal.decreases-loop-j
decreases-loop-j l = l.r.most - l.j
