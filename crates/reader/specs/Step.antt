-- One step of a reader that stands at a place of a string, after so many units, under a state: the item that it hands out, and where it
-- stands then.
use Rattle.std.specs.Prelude.{ℕ, ◌+◌, Bool, false, List, length, eqb, leb, ltb, Result, Ok, Err}
use Rattle.std.proofs.Math.Option.{Option, none, some}
use Rattle.base.specs.Answers.{answer, refused_at}
use Rattle.base.specs.Choice.{pick}
use Rattle.base.specs.Limit as limit
use Rattle.base.specs.Refusal as refusal
use Rattle.base.specs.declared.Answer.{Answer}
use Rattle.base.specs.declared.Unit.{Unit as UnitRecord}
use Rattle.charset.specs.declared.Side.TheVariants.{GL, GR}
use Rattle.charset.specs.Charsets.{allowed}
use Rattle.state.specs.declared.State.{State}
use Rattle.units.specs.Next.{next_of}
use Rattle.units.specs.Next.{Outcome}
use Rattle.units.specs.Next.{Gives, Stops}
use Rattle.reader.specs.declared.Stepped.{Stepped}

-- what an item says: a unit, with its kind, set, code, start and length; or an answer, with its number, place and count
abbrev pub unit_in : Result UnitRecord Answer → Option UnitRecord
unit_in (Ok u) = some u
unit_in (Err a) = none

abbrev pub answer_in : Result UnitRecord Answer → Option Answer
answer_in (Ok u) = none
answer_in (Err a) = some a

abbrev pub stepped : Result UnitRecord Answer → ℕ → ℕ → State → Stepped
stepped i place count st = record { place = place; count = count; state = st; item = i }

-- whether a reader may stand so: its place lies in the string, its sets on their sides, its depth within the limit (rule U9)
unfoldable pub may_stand : ℕ → ℕ → State → Bool
may_stand octets place st =
    pick (ltb octets place) false
    (pick (allowed GL st.sets.gl) (pick (allowed GR st.sets.gr) (leb st.directions.depth limit.depth) false) false)

-- the largest number of the machine
abbrev pub largest : ℕ
largest = 18446744073709551615

-- the units handed out, with one more; the count stays at the machine's largest number (rule U9)
unfoldable pub counted_of : ℕ → ℕ
counted_of count = pick (ltb count largest) (count + 1) count

-- the answer at the end or at a refusal (rule N1)
unfoldable pub ended_of : ℕ → ℕ → ℕ → Answer
ended_of number place count =
    pick (eqb number refusal.accepted) (answer refusal.accepted place count) (refused_at number place)

-- a unit, and the reader stands after it; or the answer, and it stands where the reading stops, at the end or at the start of the refused
-- element: designations before it are passed, the count stays, and the answer repeats (rule U7)
unfoldable pub after_of : ℕ → Outcome → Stepped
after_of count (Gives u next to) = stepped (Ok u) next (counted_of count) to
after_of count (Stops number at start to) = stepped (Err (ended_of number at count)) start count to

-- a step from any place, count and state: 1 for the string comes first (rule U8), then 11 for a reader that may not stand so (rule U9), and
-- with either it stays
unfoldable pub step_at : List ℕ → ℕ → ℕ → State → Stepped
step_at s place count st =
    pick (ltb limit.octets (length s)) (stepped (Err (refused_at refusal.too_long 0)) place count st)
    (pick (may_stand (length s) place st) (after_of count (next_of s place st))
    (stepped (Err (refused_at refusal.bad_unit 0)) place count st))
