-- `by_value::nth` meets its contract: after i items the reader is the one after i steps, which hands out item i (`opened_items`).
use Rattle.std.proofs.Common.{◌≡◌}
use Rattle.reader.specs.Reader.{reader_after}
use Rattle.by_value.proofs.nth.Given as goal

abbrev pub invariant-loop : goal.invariant-loop
invariant-loop l = l.r ≡ reader_after l.counter l.initial.r
