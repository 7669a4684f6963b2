-- `escape::intermediates` meets its contract. The invariant: the octets from `i` on are answered as those from `k` on are.
use mathlib.Core.Path.{◌≡◌}
use Rattle.base.specs.Choice.{from}
use Rattle.control.specs.Escape.{intermediates_of}
use Rattle.control.proofs.escape.intermediates.Given as goal

abbrev pub invariant-loop-i : goal.invariant-loop-i
invariant-loop-i l = intermediates_of l.i (from l.i l.t) ≡ intermediates_of l.fn.k (from l.fn.k l.t)
