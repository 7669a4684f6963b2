-- What the reader of X11R5 answers, and the list that it leaves (rules X1 to X3): as `read` does, of the elements that X11R5 has.
use Rattle.std.specs.Prelude.{ℕ, List, ◌++◌, length, drop, eqb, ltb}
use Rattle.base.specs.Answers.{answer}
use Rattle.base.specs.Choice.{pick}
use Rattle.base.specs.Refusal as refusal
use Rattle.base.specs.declared.Answer.{Answer}
use Rattle.base.specs.declared.Unit.{Unit as UnitRecord}
use Rattle.units.specs.Records.{records_from}
use Rattle.x11r5.specs.Reading.{before_null, supported_of, null_ended_check_of}

-- the units of the octets before the 00, up to their end or to the element that is refused
abbrev pub r5_records_of : List ℕ → List UnitRecord
r5_records_of s = records_from (supported_of (before_null s))

-- the string's own refusal comes before 10, which has the count needed
unfoldable pub r5_read_answer : List ℕ → ℕ → Answer
r5_read_answer s room =
    let a = null_ended_check_of s in
    pick (eqb a.number refusal.accepted)
    (pick (ltb room a.count) (answer refusal.no_room 0 a.count) a)
    a

-- the records stand at the list's start and the rest stays; after a refusal all of it
unfoldable pub r5_list_after : List ℕ → List UnitRecord → List UnitRecord
r5_list_after s old =
    pick (eqb (r5_read_answer s (length old)).number refusal.accepted)
    (r5_records_of s ++ drop (length (r5_records_of s)) old)
    old
