-- What is stored of a span. Nothing has to be believed of it, as of the spans.
use Rattle.std.specs.Prelude.{ℕ, zero, suc, ◌+◌, List, set}
use Rattle.base.specs.Choice.{pick}
use Rattle.base.specs.declared.Unit.{Unit as UnitRecord}
use Rattle.spans.specs.Spans.{stands_after, unit_after}
use Rattle.spans.specs.declared.Span.{Span}

-- of a span, of which j units are passed and m more may follow: how many there are
unfoldable pub count_from : List ℕ → Span → ℕ → ℕ → ℕ
count_from s r zero j = j
count_from s r (suc m) j = pick (stands_after s r j) (count_from s r m (suc j)) j

-- and the list, with those that follow stored to it
unfoldable pub stored_from : List ℕ → Span → ℕ → ℕ → ℕ → List UnitRecord → List UnitRecord
stored_from s r start zero j l = l
stored_from s r start (suc m) j l = pick (stands_after s r j) (stored_from s r start m (suc j) (set l (start + j) (unit_after s r j))) l
