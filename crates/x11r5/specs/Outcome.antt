-- What the X11R5 writer answers, case by case, each with what must not have applied before it (rules X5 to X7). That `r5_writer_answer` gives exactly this is
-- proved in proofs/Outcome.antt.
use Rattle.std.specs.Prelude.{ℕ, ◌+◌, ◌-◌, ◌≤◌, ◌<◌, ◌≡◌, cond, List, ◌++◌, ◌⊎◌, eqb, length, get_or, take, drop}
use Rattle.std.proofs.Math.Option.{some}
use Rattle.base.specs.Answers.{answer}
use Rattle.base.specs.Kind as kind
use Rattle.base.specs.Limit as limit
use Rattle.base.specs.Refusal as refusal
use Rattle.base.specs.declared.Answer.{Answer}
use Rattle.base.specs.declared.Unit.{Unit as UnitRecord}
use Rattle.grammar.specs.Reading.{ReadAs}
use Rattle.grammar.specs.Records.{unit_read, list_reading}
use Rattle.grammar.specs.Units.{TextUnit}
use Rattle.shortest.specs.Offence.{no_record, Bad}
use Rattle.shortest.specs.Records.{Finding, faulty}
use Rattle.shortest.specs.Writing.{Good}
use Rattle.x11r5.specs.Records.{record_refusal, r5_writer_answer, r5_writer_output}
use Rattle.x11r5.specs.Theorems.{Supported, NullReadAs}
use Rattle.x11r5.specs.Writing.{unended_of, null_ended_of}

-- what record i of a list is refused for, 0 where it is not
abbrev pub refusal_at : List ℕ → List UnitRecord → ℕ → ℕ
refusal_at o rs i = record_refusal (unit_read o (get_or rs i no_record))

-- record i is the first that is refused, by the number n
pub record FirstRefused (o : List ℕ) (rs : List UnitRecord) (n i : ℕ) : Type 0 where
  pub inside : i < length rs
  pub number : (n ≡ refusal.bad_unit) ⊎ (n ≡ refusal.unsupported)
  pub refused : refusal_at o rs i ≡ n
  pub before : (j : ℕ) → j < i → refusal_at o rs j ≡ refusal.accepted

-- a list that is not too long, of a reading of good units that X11R5 has
pub record Served (rs : List UnitRecord) (o : List ℕ) (us : List TextUnit) : Type 0 where
  pub list : length rs ≤ limit.units
  pub reading : list_reading o rs ≡ some us
  pub good_ones : Good us
  pub supported : Supported us

-- the octets of a string with its 00
abbrev pub ended_count : List TextUnit → ℕ
ended_count us = length (unended_of us) + 1

-- number, place and count of the answer, for an output of m octets
pub data Outcome (rs : List UnitRecord) (o : List ℕ) (m : ℕ) : ℕ → ℕ → ℕ → Type 0 where
  long_list : limit.units < length rs → Outcome rs o m refusal.too_long 0 0
  offending : {n i : ℕ} → length rs ≤ limit.units → FirstRefused o rs n i → Outcome rs o m n i 0
  long_writing : (us : List TextUnit) → Served rs o us → limit.octets < length (unended_of us) → Outcome rs o m refusal.too_long 0 0
  short_output : (us : List TextUnit) → Served rs o us → length (unended_of us) ≤ limit.octets → m < ended_count us
      → Outcome rs o m refusal.no_room 0 (ended_count us)
  written : (us : List TextUnit) → Served rs o us → length (unended_of us) ≤ limit.octets → ended_count us ≤ m
      → Outcome rs o m refusal.accepted (length rs) (ended_count us)

-- where the answer is 0
abbrev pub Accepts : List UnitRecord → List ℕ → ℕ → Type 0
Accepts rs o m = (us : List TextUnit) × Served rs o us × (length (unended_of us) ≤ limit.octets) × (ended_count us ≤ m)

-- the numbers of the answers: 0, 1, 10, 11, 15
abbrev pub Number : ℕ → Type 0
Number n =
    (n ≡ refusal.accepted) ⊎ (n ≡ refusal.too_long) ⊎ (n ≡ refusal.no_room) ⊎ (n ≡ refusal.bad_unit) ⊎ (n ≡ refusal.unsupported)

-- what an answer of 0 gives: the string with its 00 at the start of the output, and the rest of the output as it was
pub record Given (rs : List UnitRecord) (o out : List ℕ) : Type 0 where
  pub units : List TextUnit
  pub served : Served rs o units
  pub answers : r5_writer_answer rs o (length out) ≡ answer refusal.accepted (length rs) (ended_count units)
  pub short : length (unended_of units) ≤ limit.octets
  pub fits : ended_count units ≤ length out
  pub holds : r5_writer_output rs o out ≡ null_ended_of units ++ drop (ended_count units) out

-- what stands in the output after an answer of 0 is read back as the units: by the X11R5 reader, the octets that the answer counts and the whole output
-- alike, and, less the 00, by the base reader
pub record ReadBack (us : List TextUnit) (a : Answer) (after : List ℕ) : Type 0 where
  pub counted : NullReadAs (take a.count after) us
  pub whole : NullReadAs after us
  pub unended : ReadAs (take (a.count - 1) after) us

-- the number in the place of one by which the base writer refuses a record: 11 stays, and 7, 8 and 9 become 15
abbrev pub in_place_of : ℕ → ℕ
in_place_of n = cond (eqb n refusal.bad_unit) refusal.bad_unit refusal.unsupported

-- a record that is refused, case by case of its fields, and the number: one that the base writer refuses by itself, a direction mark, an extended segment
pub data Offends (o : List ℕ) (r : UnitRecord) : ℕ → Type 0 where
  bad : {n : ℕ} → Bad o r n → Offends o r (in_place_of n)
  late : ((n : ℕ) → Bad o r n → ⊥) → kind.left_to_right ≤ r.kind → Offends o r refusal.unsupported

-- beside a refusal of the base writer, by n at record j: the same record in this way, or one before it by 15
pub data Beside (n j : ℕ) : Finding → Type 0 where
  same : Beside n j (faulty (in_place_of n) j)
  sooner : {i : ℕ} → i < j → Beside n j (faulty refusal.unsupported i)
