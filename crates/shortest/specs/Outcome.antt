-- What the writer answers, case by case, each with what must not have applied before it (rule N6). That `writer_answer` gives exactly this
-- is proved in proofs/Outcome.antt.
use Rattle.std.specs.Prelude.{ℕ, ◌≤◌, ◌<◌, ◌≡◌, List, ◌++◌, ◌⊎◌, length, drop}
use Rattle.std.proofs.Math.Option.{some}
use Rattle.base.specs.Answers.{answer}
use Rattle.base.specs.Limit as limit
use Rattle.base.specs.Refusal as refusal
use Rattle.base.specs.declared.Unit.{Unit as UnitRecord}
use Rattle.grammar.specs.Units.{TextUnit}
use Rattle.shortest.specs.Writing.{shortest_of, shortest_count, Good}
use Rattle.grammar.specs.Records.{list_reading}
use Rattle.shortest.specs.Records.{work_room, writer_answer, writer_output}
use Rattle.shortest.specs.Offence.{FirstOffends, NoneOffends}

-- a list that is not too long, with no offending unit, of a reading, and with the work room that it needs
pub record Served (rs : List UnitRecord) (o : List ℕ) (work : ℕ) (us : List TextUnit) : Type 0 where
  pub list : length rs ≤ limit.units
  pub none : NoneOffends o rs
  pub room : work_room (length rs) ≤ work
  pub reading : list_reading o rs ≡ some us

-- number, place and count of the answer, for an output of m octets
pub data Outcome (rs : List UnitRecord) (o : List ℕ) (work m : ℕ) : ℕ → ℕ → ℕ → Type 0 where
  long_list : limit.units < length rs → Outcome rs o work m refusal.too_long 0 0
  offending : {n i : ℕ} → length rs ≤ limit.units → FirstOffends o rs n i → Outcome rs o work m n i 0
  short_work : length rs ≤ limit.units → NoneOffends o rs → work < work_room (length rs) → Outcome rs o work m refusal.no_work_room 0 0
  long_writing : (us : List TextUnit) → Served rs o work us → limit.octets < shortest_count us → Outcome rs o work m refusal.too_long 0 0
  short_output : (us : List TextUnit) → Served rs o work us → shortest_count us ≤ limit.octets → m < shortest_count us
      → Outcome rs o work m refusal.no_room 0 (shortest_count us)
  written : (us : List TextUnit) → Served rs o work us → shortest_count us ≤ limit.octets → shortest_count us ≤ m
      → Outcome rs o work m refusal.accepted (length rs) (shortest_count us)

-- where the answer is 0: a reading, every condition met, and a count that fits
abbrev pub Accepts : List UnitRecord → List ℕ → ℕ → ℕ → Type 0
Accepts rs o work m = (us : List TextUnit) × Served rs o work us × (shortest_count us ≤ limit.octets) × (shortest_count us ≤ m)

-- where it is 12: too little work room, and no earlier refusal (rule N4)
abbrev pub LacksWorkRoom : List UnitRecord → List ℕ → ℕ → Type 0
LacksWorkRoom rs o work = (length rs ≤ limit.units) × NoneOffends o rs × (work < work_room (length rs))

-- where it is 1: the list or its shortest writing is over the limit (rules J2, N3)
abbrev pub TooLong : List UnitRecord → List ℕ → ℕ → Type 0
TooLong rs o work = (limit.units < length rs) ⊎ ((us : List TextUnit) × Served rs o work us × (limit.octets < shortest_count us))

-- where it is 10: the output has fewer octets
abbrev pub LacksRoom : List UnitRecord → List ℕ → ℕ → ℕ → Type 0
LacksRoom rs o work m = (us : List TextUnit) × Served rs o work us × (shortest_count us ≤ limit.octets) × (m < shortest_count us)

-- what an answer of 0 gives: the writing of the units at the start of the output, and the rest of the output as it was (rule W5)
pub record Given (rs : List UnitRecord) (o : List ℕ) (work : ℕ) (out : List ℕ) : Type 0 where
  pub units : List TextUnit
  pub reading : list_reading o rs ≡ some units
  pub good_ones : Good units
  pub answers : writer_answer rs o work (length out) ≡ answer refusal.accepted (length rs) (shortest_count units)
  pub short : shortest_count units ≤ limit.octets
  pub fits : shortest_count units ≤ length out
  pub holds : writer_output rs o work out ≡ shortest_of units ++ drop (shortest_count units) out
