-- The check of a list of unit records, record by record.
use Rattle.std.specs.Prelude.{ℕ, Bool, false, List, leb, Result, Ok, Err}
use Rattle.base.specs.Answers.{refused_at}
use Rattle.base.specs.Choice.{pick}
use Rattle.base.specs.Limit as limit
use Rattle.base.specs.declared.Answer.{Answer}
use Rattle.base.specs.declared.Unit.{Unit as UnitRecord}
use Rattle.state.specs.Directions.{undirected}
use Rattle.state.specs.Directions.{Step}
use Rattle.state.specs.Directions.{Goes, Stops}
use Rattle.state.specs.declared.directions.Directions.{Directions}
use Rattle.grammar.specs.Records.{unit_read}
use Rattle.shortest.specs.Records.{fault}
use Rattle.rows.specs.Rows.{with_record}
use Rattle.record_rules.specs.Plain.{settled_by_text}

-- how far a list is checked: what the directions are, or the answer by the first record that offends
abbrev pub Progress : Type 0
Progress = Result Directions Answer

abbrev pub offends : ℕ → ℕ → Progress
offends n i = Err (refused_at n i)

-- before the first record
abbrev pub begun : Progress
begun = Ok undirected

abbrev pub on_fault : Step → ℕ → Progress
on_fault (Goes d) i = Ok d
on_fault (Stops n) i = offends n i

-- after record i: its refusal, where there was none before it
unfoldable pub turn_of : List ℕ → UnitRecord → ℕ → Progress → Progress
turn_of o r i (Ok d) = on_fault (fault (unit_read o r) d) i
turn_of o r i (Err f) = Err f

-- the work room after it: a record that is not refused stands in its row, where the room has that row
unfoldable pub room_after : Progress → UnitRecord → ℕ → List ℕ → List ℕ
room_after (Ok d) r i w = with_record w i r
room_after (Err f) r i w = w

-- whether a record that the quick check lets through changes nothing but its row
abbrev pub quick_after : Progress → Bool
quick_after (Ok d) = settled_by_text d
quick_after (Err f) = false

-- the end of the records from a place on that the quick check may look at
unfoldable pub quick_until : Progress → ℕ → ℕ → ℕ
quick_until p from n = pick (quick_after p) n from

-- how many records are looked at: all, but none of a list that is too long
unfoldable pub looked_at : ℕ → ℕ
looked_at n = pick (leb n limit.units) n 0
