-- Strings of X11R5 with their answers, and units with their writing (rules X1 to X7), as tables of the definitions.
use Rattle.std.specs.Prelude.{ℕ, List, [], ◌∷◌}
use Rattle.base.specs.Answers.{answer, refused_at}
use Rattle.base.specs.Refusal as refusal
use Rattle.base.specs.declared.Answer.{Answer}
use Rattle.grammar.specs.Units.{TextUnit, char, space, control, tab}
use Rattle.x11r5.specs.Reading.{null_ended_check_of}
use Rattle.x11r5.specs.Writing.{unended_of}

-- a string and its answer
pub record Checked : Type 0 where
  pub string : List ℕ
  pub answers : Answer

abbrev checked : List ℕ → Answer → Checked
checked s a = record { string = s; answers = a }

abbrev pub strings : List Checked
strings =
    checked [] (refused_at refusal.not_ended 0)
    ∷ checked (0x41 ∷ []) (refused_at refusal.not_ended 1)
    ∷ checked (0x00 ∷ []) (answer refusal.accepted 0 0)
    ∷ checked (0x41 ∷ 0x00 ∷ 0x9B ∷ 0x5D ∷ []) (answer refusal.accepted 1 1)
    ∷ checked (0x1B ∷ 0x24 ∷ 0x29 ∷ 0x42 ∷ 0xB0 ∷ 0xA1 ∷ 0x00 ∷ []) (answer refusal.accepted 6 1)
    ∷ checked (0x9B ∷ 0x5D ∷ 0x00 ∷ []) (refused_at refusal.unsupported 0)
    ∷ checked (0x41 ∷ 0x9B ∷ 0x32 ∷ 0x5D ∷ 0x00 ∷ []) (refused_at refusal.unsupported 1)
    ∷ checked (0x9B ∷ 0x31 ∷ 0x00 ∷ []) (refused_at refusal.cut 2)
    ∷ checked (0x9B ∷ 0x33 ∷ 0x5D ∷ 0x00 ∷ []) (refused_at refusal.unknown 1)
    ∷ checked (0x1B ∷ 0x25 ∷ 0x2F ∷ 0x30 ∷ 0x00 ∷ []) (refused_at refusal.unsupported 0)
    ∷ checked (0x1B ∷ 0x25 ∷ 0x2F ∷ 0x34 ∷ 0x7F ∷ 0x00 ∷ []) (refused_at refusal.unsupported 0)
    ∷ checked (0x1B ∷ 0x25 ∷ 0x2F ∷ 0x35 ∷ 0x00 ∷ []) (refused_at refusal.unknown 3)
    ∷ checked (0x1B ∷ 0x25 ∷ 0x2F ∷ 0x00 ∷ []) (refused_at refusal.cut 3)
    ∷ checked (0x1B ∷ 0x23 ∷ 0x20 ∷ 0x30 ∷ 0x00 ∷ []) (refused_at refusal.version 1)
    ∷ []

-- units and their string without the 00
pub record Written : Type 0 where
  pub units : List TextUnit
  pub string : List ℕ

abbrev written : List TextUnit → List ℕ → Written
written us t = record { units = us; string = t }

abbrev pub writings : List Written
writings =
    written [] []
    ∷ written (char 0 0x41 ∷ control tab ∷ char 3 0x69 ∷ []) (0x41 ∷ 0x09 ∷ 0xE9 ∷ [])
    ∷ written (char 13 0x3021 ∷ []) (0x1B ∷ 0x24 ∷ 0x28 ∷ 0x42 ∷ 0x30 ∷ 0x21 ∷ [])
    ∷ written (char 13 0x3021 ∷ space ∷ []) (0x1B ∷ 0x24 ∷ 0x28 ∷ 0x42 ∷ 0x30 ∷ 0x21 ∷ 0x1B ∷ 0x28 ∷ 0x42 ∷ 0x20 ∷ [])
    ∷ written (char 2 0x5C ∷ space ∷ []) (0x1B ∷ 0x28 ∷ 0x4A ∷ 0x5C ∷ 0x20 ∷ [])
    ∷ []

-- what the definitions say
abbrev pub answers_of : List Checked → List Answer
answers_of [] = []
answers_of (c ∷ cs) = null_ended_check_of c.string ∷ answers_of cs

abbrev pub strings_of : List Written → List (List ℕ)
strings_of [] = []
strings_of (w ∷ ws) = unended_of w.units ∷ strings_of ws

-- and what the tables say
abbrev pub answers_told : List Checked → List Answer
answers_told [] = []
answers_told (c ∷ cs) = c.answers ∷ answers_told cs

abbrev pub strings_told : List Written → List (List ℕ)
strings_told [] = []
strings_told (w ∷ ws) = w.string ∷ strings_told ws
