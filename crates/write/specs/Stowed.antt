-- The check of a whole list, record by record, and what the work room holds after it; and the answer from there.
use Rattle.std.specs.Prelude.{ℕ, zero, suc, ◌+◌, ◌-◌, ◌*◌, ◌≤◌, ◌<◌, ◌≡◌, List, ltb, length, get_or, Ok, Err}
use Rattle.base.specs.Answers.{refused_at}
use Rattle.base.specs.Choice.{pick}
use Rattle.base.specs.Limit as limit
use Rattle.base.specs.Refusal as refusal
use Rattle.base.specs.declared.Answer.{Answer}
use Rattle.base.specs.declared.Unit.{Unit as UnitRecord}
use Rattle.state.specs.declared.directions.Directions.{Directions}
use Rattle.shortest.specs.Offence.{no_record}
use Rattle.rows.specs.Rows.{seven_octets}
use Rattle.record_rules.specs.Plain.{plain_of}
use Rattle.check_list.specs.Turn.{Progress, begun, turn_of, quick_until}
use Rattle.emit.specs.Emit.{rows_answer, rows_output}

-- how far the list is checked after k records
unfoldable pub reached : List ℕ → List UnitRecord → ℕ → Progress
reached o rs zero = begun
reached o rs (suc k) = turn_of o (get_or rs k no_record) k (reached o rs k)

-- row i holds a record
abbrev pub HoldsRecord : List ℕ → ℕ → UnitRecord → Type 0
HoldsRecord w i r = (q : ℕ) → q < 7 → get_or w (72 * i + 65 + q) 0 ≡ get_or (seven_octets r) q 0

-- where none of the first k records offends, each of them stands in its row, if the room has that row
pub record Stowed (o : List ℕ) (rs : List UnitRecord) (k : ℕ) (before after : List ℕ) : Type 0 where
  pub same : length after ≡ length before
  pub rows : (d : Directions) → reached o rs k ≡ Ok d → (i : ℕ) → i < k → 72 * i + 72 ≤ length before
      → HoldsRecord after i (get_or rs i no_record)

-- ---- the quick check

-- the place of the first of m records from a place on that the quick check does not let through, or of the record after them
unfoldable pub quick_run : List UnitRecord → ℕ → ℕ → ℕ
quick_run rs zero i = i
quick_run rs (suc m) i = pick (plain_of (get_or rs i no_record)) (quick_run rs m (suc i)) i

abbrev pub quick_end : Progress → List UnitRecord → ℕ → ℕ → ℕ
quick_end p rs from n = quick_run rs (quick_until p from n - from) from

-- the records from a place to before another change nothing in the progress p, and stand in their rows as those before them do
pub record Passed (p : Progress) (rs : List UnitRecord) (from to : ℕ) (before after : List ℕ) : Type 0 where
  pub onwards : from ≤ to
  pub same : length after ≡ length before
  pub stays : (o : List ℕ) → reached o rs from ≡ p → reached o rs to ≡ p
  pub stowed : (o room : List ℕ) → reached o rs from ≡ p → Stowed o rs from room before → Stowed o rs to room after

-- ---- the answer

-- the answer for a list of n records that is checked so far, and for an output of m octets; and the output after
abbrev pub on_progress : {X : Type 0} → Progress → X → (ℕ → ℕ → X) → X
on_progress (Ok d) x f = x
on_progress (Err e) x f = f e.number e.place

unfoldable pub finish_answer : Progress → ℕ → List ℕ → List ℕ → ℕ → Answer
finish_answer p n o w m =
    pick (ltb limit.units n) (refused_at refusal.too_long 0) (on_progress p (rows_answer o w n m) (λ k i. refused_at k i))

unfoldable pub finish_output : Progress → ℕ → List ℕ → List ℕ → List ℕ → List ℕ
finish_output p n o w out = pick (ltb limit.units n) out (on_progress p (rows_output o w n out) (λ k i. out))
