-- The unit records of a string.
use Rattle.std.specs.Prelude.{ℕ, ◌+◌, List, [], ◌∷◌}
use Rattle.base.specs.declared.Unit.{Unit as UnitRecord}
use Rattle.state.specs.Directions.{in_force_of}
use Rattle.state.specs.declared.directions.Directions.{Directions}
use Rattle.state.specs.declared.elements.Part.{Part}
use Rattle.element.specs.Meant.{Meant}
use Rattle.grammar.specs.Reading.{Elements, end_at, stopped_at, silent_at, found_at, elements_of}

-- a record with nothing in it
abbrev pub blank : UnitRecord
blank = record { kind = 0; set = 0; code = 0; start = 0; length = 0; direction = 0; depth = 0 }

-- the record of a unit whose element starts at a place: its start and length are those of the unit's own octets (rule U2), its direction is the
-- one in force after the element, and its depth how many are then open (rule U10)
abbrev pub record_of : Part → ℕ → Directions → UnitRecord
record_of p at d =
    record {
      kind = p.kind;
      set = p.set;
      code = p.code;
      start = at + p.skip;
      length = p.octets;
      direction = in_force_of d;
      depth = d.depth;
    }

-- the records of elements
unfoldable pub records_from : Elements → List UnitRecord
records_from (end_at at) = []
records_from (stopped_at at n o) = []
records_from (silent_at at k st es) = records_from es
records_from (found_at at p st es) = record_of p at st.directions ∷ records_from es

-- the units of a string up to its end or to the element that is refused
unfoldable pub records_of : List ℕ → List UnitRecord
records_of s = records_from (elements_of s)

-- records whose fields that mean nothing are 0 (rule U1)
pub data AllMeant : List UnitRecord → Type 0 where
  none_left : AllMeant []
  one_more : {r : UnitRecord} {rs : List UnitRecord} → Meant r.kind r.set r.code → AllMeant rs → AllMeant (r ∷ rs)
