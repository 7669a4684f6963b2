-- The shortest form of a string: the writer's, of the string's own units, with the string as the octets of its segments.
use Rattle.std.specs.Prelude.{ℕ, List, eqb}
use Rattle.base.specs.Choice.{pick}
use Rattle.base.specs.Refusal as refusal
use Rattle.base.specs.declared.Answer.{Answer}
use Rattle.grammar.specs.Reading.{check_of}
use Rattle.units.specs.Records.{records_of}
use Rattle.shortest.specs.Records.{writer_answer, writer_output}

-- for a work room of so many octets and an output of m: the string's own refusal, or the writer's answer for its records (rules P2, P3)
unfoldable pub shortest_answer : List ℕ → ℕ → ℕ → Answer
shortest_answer s work m =
    pick (eqb (check_of s).number refusal.accepted) (writer_answer (records_of s) s work m) (check_of s)

-- the output after
unfoldable pub shortest_output : List ℕ → ℕ → List ℕ → List ℕ
shortest_output s work out =
    pick (eqb (check_of s).number refusal.accepted) (writer_output (records_of s) s work out) out
