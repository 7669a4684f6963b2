-- A reader that steps, for C: its position is a place, a count and a state of `reader`'s, with the state's fields laid out for C.
use Rattle.std.specs.Prelude.{ℕ, Bool, not, List, eqb, Result, Ok, Err}
use Rattle.base.specs.Answers.{answer}
use Rattle.base.specs.Choice.{pick}
use Rattle.base.specs.Refusal as refusal
use Rattle.base.specs.declared.Answer.{Answer}
use Rattle.base.specs.declared.Unit.{Unit as UnitRecord}
use Rattle.reader.specs.Step.{step_at}
use Rattle.state.specs.Directions.{directions}
use Rattle.state.specs.State.{sets, state, fresh}
use Rattle.state.specs.declared.State.{State}
use Rattle.units.specs.Records.{blank}
use Rattle.positions.specs.declared.stepping.Position.{Position}
use Rattle.positions.specs.declared.stepping.Handed.{Handed}

-- a flag is 1 for yes and 0 for no, and read as yes wherever it is not 0
unfoldable pub flag_of : Bool → ℕ
flag_of b = pick b 1 0

unfoldable pub state_unpacked : Position → State
state_unpacked p =
    state (sets p.gl p.gr) (directions p.depth p.levels (not (eqb p.marked 0)) (not (eqb p.texted 0)))

unfoldable pub packed_reader : ℕ → ℕ → State → Position
packed_reader place count st =
    record {
      levels = st.directions.levels;
      place = place;
      count = count;
      gl = st.sets.gl;
      gr = st.sets.gr;
      depth = st.directions.depth;
      marked = flag_of st.directions.marked;
      texted = flag_of st.directions.texted;
    }

-- a reader at the start of a string
abbrev pub opened_reader : Position
opened_reader = packed_reader 0 0 fresh

-- an item, and the position after it
unfoldable pub item_handed : Position → Result UnitRecord Answer → Handed
item_handed p (Ok u) = record { position = p; answer = answer refusal.accepted 0 0; unit = u; given = 1 }
item_handed p (Err a) = record { position = p; answer = a; unit = blank; given = 0 }

-- the step of a reader that stands at a position
unfoldable pub next_handed : List ℕ → Position → Handed
next_handed s p =
    let t = step_at s p.place p.count (state_unpacked p) in
    item_handed (packed_reader t.place t.count t.state) t.item
