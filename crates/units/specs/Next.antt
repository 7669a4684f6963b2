-- The next unit of a string, from a place and a state on.
use Rattle.std.specs.Prelude.{ℕ, ◌+◌, List, length, ltb, Result, Ok, Err}
use Rattle.base.specs.Choice.{pick, from}
use Rattle.base.specs.Limit as limit
use Rattle.base.specs.Refusal as refusal
use Rattle.state.specs.declared.State.{State}
use Rattle.grammar.specs.Reading.{Elements, end_at, stopped_at, silent_at, found_at, size, elements}
use Rattle.units.specs.Records.{record_of}
use Rattle.base.specs.declared.Unit.{Unit as UnitRecord}
use Rattle.units.specs.declared.Given.{Given}
use Rattle.units.specs.declared.Stopped.{Stopped}

-- a unit, and the place and the state after it; or no further unit: the number and the place of the end, or of the refusal, and where the reading stops,
-- with the state there
pub data Outcome : Type 0 where
  Gives : UnitRecord → ℕ → State → Outcome
  Stops : ℕ → ℕ → ℕ → State → Outcome

-- an outcome as the code answers it
abbrev pub outcome_seen : Result Given Stopped → Outcome
outcome_seen (Ok g) = Gives g.unit g.place g.state
outcome_seen (Err e) = Stops (refusal.number_if e.refusal) e.place e.start e.state

-- the first unit of elements under a state, with the place and the state after it; or the number and the place of the end or of the refusal
-- that comes first, and where the reading stops: the end, or the start of the refused element, with the state there
unfoldable pub outcome_of : State → Elements → Outcome
outcome_of st (end_at at) = Stops refusal.accepted at at st
outcome_of st (stopped_at at n o) = Stops n (at + o) at st
outcome_of st (silent_at at k next es) = outcome_of next es
outcome_of st (found_at at p next es) = Gives (record_of p at next.directions) (at + size p) next

-- the same from a place of a string on; of a string over the limit 1 comes first, and nothing is read (rule U8)
unfoldable pub next_of : List ℕ → ℕ → State → Outcome
next_of s at st = pick (ltb limit.octets (length s)) (Stops refusal.too_long 0 at st) (outcome_of st (elements (from at s) 0 at st))
