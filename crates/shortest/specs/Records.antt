-- The writer over unit records: their reading, the refusals in their order, the answer and the output.
use Rattle.std.specs.Prelude.{ℕ, suc, ◌+◌, ◌*◌, cond, ◌&&◌, List, [], ◌∷◌, length, eqb, leb, ltb}
use Rattle.std.proofs.Math.Option.{Option, none, some}
use Rattle.base.specs.Answers.{refused_at}
use Rattle.base.specs.Limit as limit
use Rattle.base.specs.Refusal as refusal
use Rattle.base.specs.declared.Answer.{Answer}
use Rattle.base.specs.declared.Unit.{Unit as UnitRecord}
use Rattle.state.specs.Directions.{undirected}
use Rattle.state.specs.declared.directions.Directions.{Directions}
use Rattle.state.specs.Directions.{Step, Goes, Stops}
use Rattle.grammar.specs.Units.{TextUnit, char, space, control, ext, good}
use Rattle.grammar.specs.Reading.{direct}
use Rattle.grammar.specs.Records.{unit_read, list_reading}
use Rattle.shortest.specs.Demand.{write_answer, output_after}

-- the refusal of a unit that is not good: 7 for a segment whose d is one of 30 to 34, and 11 for any other (rule N9)
abbrev pub own : TextUnit → ℕ
own (char c k) = refusal.bad_unit
own space = refusal.bad_unit
own (control x) = refusal.bad_unit
own (ext e xs) = cond (leb 0x30 e && leb e 0x34) refusal.bad_segment refusal.bad_unit

-- what a record does: 11 where it stands for no unit, its own refusal, or its step by the direction rule (rule N6)
abbrev pub fault : Option TextUnit → Directions → Step
fault none d = Stops refusal.bad_unit
fault (some u) d = cond (good u) (direct d u) (Stops (own u))

-- the first offending record: its number and index
pub data Finding : Type 0 where
  fine : Finding
  faulty : ℕ → ℕ → Finding

abbrev pub on_step : Step → ℕ → (Directions → Finding) → Finding
on_step (Goes d) i f = f d
on_step (Stops n) i f = faulty n i

-- of records that are counted from i
unfoldable pub check_records : List ℕ → List UnitRecord → ℕ → Directions → Finding
check_records o [] i d = fine
check_records o (r ∷ rs) i d = on_step (fault (unit_read o r) d) i (λ next. check_records o rs (suc i) next)

abbrev pub after_check : Finding → Answer → Answer
after_check fine a = a
after_check (faulty n i) a = refused_at n i

abbrev pub of_reading : Option (List TextUnit) → ℕ → Answer
of_reading none m = refused_at refusal.bad_unit 0
of_reading (some us) m = write_answer us m

-- the octets of work room that a list of n units needs (rule N4)
abbrev pub work_room : ℕ → ℕ
work_room n = 72 * (n + 1)

-- the writer's answer, in its order (rule N6); work and out are the octets of the work room and of the output
unfoldable pub writer_answer : List UnitRecord → List ℕ → ℕ → ℕ → Answer
writer_answer rs o work out =
    cond (ltb limit.units (length rs)) (refused_at refusal.too_long 0)
    (after_check (check_records o rs 0 undirected)
    (cond (ltb work (work_room (length rs))) (refused_at refusal.no_work_room 0) (of_reading (list_reading o rs) out)))

abbrev pub output_of : Option (List TextUnit) → List ℕ → List ℕ
output_of none out = out
output_of (some us) out = output_after us out

-- the output after the call; a refusal leaves it (rule N7)
unfoldable pub writer_output : List UnitRecord → List ℕ → ℕ → List ℕ → List ℕ
writer_output rs o work out =
    cond (eqb (writer_answer rs o work (length out)).number refusal.accepted) (output_of (list_reading o rs) out) out
