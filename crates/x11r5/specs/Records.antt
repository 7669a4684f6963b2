-- The writer of X11R5 over unit records: the refusals in their order, the answer and the output (rules X5 to X7).
use Rattle.std.specs.Prelude.{ℕ, suc, ◌+◌, cond, List, [], ◌∷◌, eqb, ltb, length}
use Rattle.std.proofs.Math.Option.{Option, none, some}
use Rattle.base.specs.Answers.{answer, refused_at}
use Rattle.base.specs.Limit as limit
use Rattle.base.specs.Output.{stored_in}
use Rattle.base.specs.Refusal as refusal
use Rattle.base.specs.declared.Answer.{Answer}
use Rattle.base.specs.declared.Unit.{Unit as UnitRecord}
use Rattle.grammar.specs.Records.{unit_read, list_reading}
use Rattle.grammar.specs.Units.{TextUnit, good}
use Rattle.shortest.specs.Records.{own, Finding, fine, faulty, after_check}
use Rattle.x11r5.specs.Writing.{unsupported_unit, unended_of, null_ended_of}

-- what a record is refused for: 11 where it stands for no unit; a unit that is not good by its own refusal in the base writer, with 15 in the place
-- of 7; and one that X11R5 does not have by 15, so that the direction rule, 8 and 9, is never asked (rule X6)
unfoldable pub record_refusal : Option TextUnit → ℕ
record_refusal none = refusal.bad_unit
record_refusal (some u) =
    cond (good u) (cond (unsupported_unit u) refusal.unsupported refusal.accepted)
    (cond (eqb (own u) refusal.bad_segment) refusal.unsupported refusal.bad_unit)

abbrev pub on_refusal : ℕ → ℕ → Finding → Finding
on_refusal n i f = cond (eqb n refusal.accepted) f (faulty n i)

-- the first offending record, of records that are counted from i
unfoldable pub first_refused : List ℕ → List UnitRecord → ℕ → Finding
first_refused o [] i = fine
first_refused o (r ∷ rs) i = on_refusal (record_refusal (unit_read o r)) i (first_refused o rs (suc i))

-- the answer for units and an output of m octets: 1 for the octets without the 00 comes before 10; the count, written or needed, has the 00
-- (rules X5, X7)
unfoldable pub null_ended_answer : List TextUnit → ℕ → Answer
null_ended_answer us m =
    let n = length (unended_of us) in
    cond (ltb limit.octets n) (refused_at refusal.too_long 0)
    (cond (ltb m (n + 1)) (answer refusal.no_room 0 (n + 1)) (answer refusal.accepted (length us) (n + 1)))

abbrev pub of_units : Option (List TextUnit) → ℕ → Answer
of_units none m = refused_at refusal.bad_unit 0
of_units (some us) m = null_ended_answer us m

-- the writer's answer, in its order (rule X7); no work room is lent, so 12 is none of its numbers
unfoldable pub r5_writer_answer : List UnitRecord → List ℕ → ℕ → Answer
r5_writer_answer rs o out =
    cond (ltb limit.units (length rs)) (refused_at refusal.too_long 0)
    (after_check (first_refused o rs 0) (of_units (list_reading o rs) out))

abbrev pub ended_in : Option (List TextUnit) → List ℕ → List ℕ
ended_in none out = out
ended_in (some us) out = stored_in (null_ended_of us) out

-- the output after the call: the string with its 00 at the start, and the rest as it was; a refusal leaves all of it (rule X7)
unfoldable pub r5_writer_output : List UnitRecord → List ℕ → List ℕ → List ℕ
r5_writer_output rs o out =
    cond (eqb (r5_writer_answer rs o (length out)).number refusal.accepted) (ended_in (list_reading o rs) out) out
