-- The place of the first offending unit, said of each record by itself (rules N2, N6).
use Rattle.std.specs.Prelude.{ℕ, ◌+◌, ◌≤◌, ◌<◌, ◌≡◌, false, List, [], ◌∷◌, ◌⊎◌, length, get_or, take, drop}
use Rattle.std.proofs.Math.Option.{some}
use Rattle.base.specs.Kind as kind
use Rattle.base.specs.Refusal as refusal
use Rattle.base.specs.declared.Unit.{Unit as UnitRecord}
use Rattle.state.specs.declared.directions.Directions.{Directions}
use Rattle.state.specs.Directions.{Step, Goes, Stops}
use Rattle.state.specs.Directions.{undirected}
use Rattle.state.specs.State.{fresh}
use Rattle.charset.specs.Charsets.{no_set, form_of}
use Rattle.grammar.specs.Units.{TextUnit, code_used, segment, most_of_segment}
use Rattle.grammar.specs.Grammar.{Reads, Lawful}
use Rattle.grammar.specs.Reading.{Octets}
use Rattle.grammar.specs.Records.{unit_read, list_reading}
use Rattle.shortest.specs.Records.{fault}

-- the directions after a step; where it stops they stay
abbrev pub step_to : Step → Directions → Directions
step_to (Goes next) d = next
step_to (Stops n) d = d

-- the directions after records, one after the other
unfoldable pub directions_after : List ℕ → List UnitRecord → Directions → Directions
directions_after o [] d = d
directions_after o (r ∷ rs) d = directions_after o rs (step_to (fault (unit_read o r) d) d)

-- what stands past a list's end
abbrev pub no_record : UnitRecord
no_record = record { kind = 0; set = 0; code = 0; start = 0; length = 0; direction = 0; depth = 0 }

-- what record i does after those before it
unfoldable pub fault_at : List ℕ → List UnitRecord → Directions → ℕ → Step
fault_at o rs d i = fault (unit_read o (get_or rs i no_record)) (directions_after o (take i rs) d)

-- record i is the first that offends, with the number n, from directions d
pub record FirstFrom (o : List ℕ) (rs : List UnitRecord) (d : Directions) (n i : ℕ) : Type 0 where
  pub inside : i < length rs
  pub offends : fault_at o rs d i ≡ Stops n
  pub before : (j : ℕ) → j < i → (m : ℕ) → fault_at o rs d j ≡ Stops m → ⊥

abbrev pub FirstOffends : List ℕ → List UnitRecord → ℕ → ℕ → Type 0
FirstOffends o rs n i = FirstFrom o rs undirected n i

-- no record offends
abbrev pub NoneFrom : List ℕ → List UnitRecord → Directions → Type 0
NoneFrom o rs d = (i : ℕ) → i < length rs → (n : ℕ) → fault_at o rs d i ≡ Stops n → ⊥

abbrev pub NoneOffends : List ℕ → List UnitRecord → Type 0
NoneOffends o rs = NoneFrom o rs undirected

-- a segment whose part lies in its octets and whose d is one of 30 to 34
pub record Placed (o : List ℕ) (r : UnitRecord) : Type 0 where
  pub kinds : r.kind ≡ kind.segment
  pub inside : r.start + r.length ≤ length o
  pub low : 0x30 ≤ r.code
  pub high : r.code ≤ 0x34

-- a record that offends by itself, case by case, and the number that refuses it (rule N9)
pub data Bad (o : List ℕ) (r : UnitRecord) : ℕ → Type 0 where
  bad_kind : kind.segment < r.kind → Bad o r refusal.bad_unit
  bad_set : r.kind ≡ kind.character → no_set ≤ r.set → Bad o r refusal.bad_unit
  bad_code : r.kind ≡ kind.character → code_used (form_of r.set) r.code ≡ false → Bad o r refusal.bad_unit
  bad_part : r.kind ≡ kind.segment → length o < r.start + r.length → Bad o r refusal.bad_unit
  bad_d : r.kind ≡ kind.segment → (r.code < 0x30) ⊎ (0x34 < r.code) → Bad o r refusal.bad_unit
  bad_length : Placed o r → most_of_segment < r.length → Bad o r refusal.bad_segment
  bad_content : Placed o r → segment r.code 0 (take r.length (drop r.start o)) ≡ false → Bad o r refusal.bad_segment

-- a string of octets that is of the grammar and reads as the units, its length aside (rule N8)
pub record Grammatical (t : List ℕ) (us : List TextUnit) : Type 0 where
  pub octets : Octets t
  pub reads : Reads fresh.sets t us
  pub rule : Lawful us 0 0 0

-- the numbers that refuse a unit (rule N2)
abbrev pub Number : ℕ → Type 0
Number n = (n ≡ refusal.bad_unit) ⊎ (n ≡ refusal.bad_segment) ⊎ (n ≡ refusal.direction) ⊎ (n ≡ refusal.too_deep)

-- the records are of a reading that some string of the grammar has (rule N8)
abbrev pub SomeString : List ℕ → List UnitRecord → Type 0
SomeString o rs = (us : List TextUnit) × (t : List ℕ) × (list_reading o rs ≡ some us) × Grammatical t us
