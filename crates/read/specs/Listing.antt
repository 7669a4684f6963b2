-- What `read` answers, and the list that it leaves.
use Rattle.std.specs.Prelude.{ℕ, List, ◌++◌, length, drop, eqb, ltb}
use Rattle.base.specs.Answers.{answer}
use Rattle.base.specs.Choice.{pick}
use Rattle.base.specs.Refusal as refusal
use Rattle.base.specs.declared.Answer.{Answer}
use Rattle.base.specs.declared.Unit.{Unit as UnitRecord}
use Rattle.grammar.specs.Reading.{check_of}
use Rattle.units.specs.Records.{records_of}

-- for a list of so many records: the string's own refusal comes before 10, which has the count needed (rules N1, N5)
unfoldable pub read_answer : List ℕ → ℕ → Answer
read_answer s room =
    let a = check_of s in
    pick (eqb a.number refusal.accepted)
    (pick (ltb room a.count) (answer refusal.no_room 0 a.count) a)
    a

-- the list after: the records stand at its start and the rest stays (rule U6); after a refusal all of it (rule N7)
unfoldable pub list_after : List ℕ → List UnitRecord → List UnitRecord
list_after s old =
    pick (eqb (read_answer s (length old)).number refusal.accepted)
    (records_of s ++ drop (length (records_of s)) old)
    old

-- how many records an answer stores: none where it refuses
unfoldable pub stored_of : Answer → ℕ
stored_of a = pick (eqb a.number refusal.accepted) a.count 0
