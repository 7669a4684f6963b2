-- What the program prints for an input: its shortest form, or a line with the refusal (rules P2 to P4).
use Rattle.std.specs.Prelude.{ℕ, List, eqb}
use Rattle.base.specs.Choice.{pick}
use Rattle.base.specs.Limit as limit
use Rattle.base.specs.Refusal as refusal
use Rattle.grammar.specs.Reading.{reading_of}
use Rattle.refusal_line.specs.Line.{refusal_line}
use Rattle.rewrite.specs.Shortest.{shortest_answer}
use Rattle.shortest.specs.Records.{work_room}
use Rattle.shortest.specs.Writing.{writing}
use Rattle.state.specs.State.{fresh}

-- the work room of the program: that of 909 units (rule P3)
abbrev pub room : ℕ
room = work_room 909

-- the octets that are printed, for an output of as many octets as a string may have
unfoldable pub printed_of : List ℕ → List ℕ
printed_of s =
    let a = shortest_answer s room limit.octets in
    pick (eqb a.number refusal.accepted) (writing (reading_of s) fresh.sets) (refusal_line a.number a.place)
