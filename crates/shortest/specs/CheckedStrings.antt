-- The checked strings marked * in rule P1, as one table of the definitions. An accepted string stands with its answer, the units that it
-- reads as and what these are written as; a refused one with its answer.
use Rattle.std.specs.Prelude.{ℕ, List, [], ◌∷◌, ◌++◌, length}
use Rattle.base.specs.Answers.{answer, refused_at}
use Rattle.base.specs.Refusal as refusal
use Rattle.base.specs.declared.Answer.{Answer}
use Rattle.grammar.specs.Units.{TextUnit, char, space, control, tab, ltr, revert, ext}
use Rattle.grammar.specs.Reading.{check_of, reading_of}
use Rattle.shortest.specs.Writing.{shortest_of}

-- a string, the units that it reads as, and what they are written as
pub record Example : Type 0 where
  pub string : List ℕ
  pub units : List TextUnit
  pub written : List ℕ

-- the units of rule P1
abbrev X : TextUnit
X = char 13 0x3021

abbrev A : TextUnit
A = char 0 0x41

abbrev E9 : TextUnit
E9 = char 3 0x69

-- direction marks; an extended segment with text, one without, and a bad one
abbrev pub begin_mark : List ℕ
begin_mark = 0x9B ∷ 0x31 ∷ 0x5D ∷ []

abbrev pub revert_mark : List ℕ
revert_mark = 0x9B ∷ 0x5D ∷ []

abbrev pub segment_with_text : List ℕ
segment_with_text = 0x1B ∷ 0x25 ∷ 0x2F ∷ 0x31 ∷ 0x80 ∷ 0x84 ∷ 0x61 ∷ 0x62 ∷ 0x02 ∷ 0xFF ∷ []

abbrev segment_without : List ℕ
segment_without = 0x1B ∷ 0x25 ∷ 0x2F ∷ 0x32 ∷ 0x80 ∷ 0x83 ∷ 0x61 ∷ 0x62 ∷ 0x02 ∷ []

abbrev bad_segment : List ℕ
bad_segment = 0x1B ∷ 0x25 ∷ 0x2F ∷ 0x32 ∷ 0x80 ∷ 0x84 ∷ 0x61 ∷ 0x62 ∷ 0x02 ∷ 0xFF ∷ []

abbrev example : List ℕ → List TextUnit → List ℕ → Example
example s us w = record { string = s; units = us; written = w }

-- a string that is its own shortest form
abbrev itself : List ℕ → List TextUnit → Example
itself s us = example s us s

abbrev pub table : List Example
table =
    itself [] []
    ∷ itself (0x48 ∷ 0x09 ∷ 0xE9 ∷ []) (char 0 0x48 ∷ control tab ∷ E9 ∷ [])
    ∷ example (0x1B ∷ 0x28 ∷ 0x42 ∷ 0x41 ∷ []) (A ∷ []) (0x41 ∷ [])
    ∷ itself (0x1B ∷ 0x24 ∷ 0x28 ∷ 0x42 ∷ 0x30 ∷ 0x21 ∷ []) (X ∷ [])
    ∷ example (0x1B ∷ 0x24 ∷ 0x28 ∷ 0x42 ∷ 0x30 ∷ 0x21 ∷ 0x1B ∷ 0x28 ∷ 0x42 ∷ 0x41 ∷ []) (X ∷ A ∷ [])
    (0x1B ∷ 0x24 ∷ 0x29 ∷ 0x42 ∷ 0xB0 ∷ 0xA1 ∷ 0x41 ∷ [])
    ∷ itself (0x41 ∷ 0x1B ∷ 0x24 ∷ 0x28 ∷ 0x42 ∷ 0x30 ∷ 0x21 ∷ 0xE9 ∷ 0x1B ∷ 0x28 ∷ 0x42 ∷ 0x41 ∷ []) (A ∷ X ∷ E9 ∷ A ∷ [])
    ∷ itself (0x1B ∷ 0x24 ∷ 0x28 ∷ 0x42 ∷ 0x30 ∷ 0x21 ∷ 0xE9 ∷ 0x30 ∷ 0x21 ∷ 0x1B ∷ 0x28 ∷ 0x4A ∷ 0x20 ∷ 0x5C ∷ [])
    (X ∷ E9 ∷ X ∷ space ∷ char 2 0x5C ∷ [])
    ∷ itself (0x9B ∷ 0x31 ∷ 0x5D ∷ 0x41 ∷ []) (control ltr ∷ A ∷ [])
    ∷ itself segment_with_text (ext 0x31 (0x61 ∷ 0x62 ∷ 0x02 ∷ 0xFF ∷ []) ∷ [])
    ∷ itself (begin_mark ++ segment_with_text) (control ltr ∷ ext 0x31 (0x61 ∷ 0x62 ∷ 0x02 ∷ 0xFF ∷ []) ∷ [])
    ∷ itself (segment_without ++ begin_mark ++ revert_mark ++ segment_without)
    (ext 0x32 (0x61 ∷ 0x62 ∷ 0x02 ∷ []) ∷ control ltr ∷ control revert ∷ ext 0x32 (0x61 ∷ 0x62 ∷ 0x02 ∷ []) ∷ [])
    ∷ []

-- a string and the number and place of its refusal
pub record RefusedString : Type 0 where
  pub string : List ℕ
  pub number : ℕ
  pub place : ℕ

abbrev refused_string : List ℕ → ℕ → ℕ → RefusedString
refused_string s n p = record { string = s; number = n; place = p }

abbrev pub refusals : List RefusedString
refusals =
    refused_string (0x41 ∷ 0x9B ∷ 0x31 ∷ 0x5D ∷ []) refusal.direction 1
    ∷ refused_string (0x9B ∷ 0x31 ∷ 0x5D ∷ 0x9B ∷ 0x5D ∷ 0x41 ∷ []) refusal.direction 5
    ∷ refused_string (segment_with_text ++ begin_mark) refusal.direction 10
    ∷ refused_string (begin_mark ++ revert_mark ++ segment_with_text) refusal.direction 5
    ∷ refused_string (begin_mark ++ revert_mark ++ bad_segment) refusal.bad_segment 14
    ∷ refused_string bad_segment refusal.bad_segment 9
    ∷ refused_string (0x1B ∷ 0x24 ∷ 0x42 ∷ []) refusal.unknown 2
    ∷ refused_string (0x1B ∷ 0x28 ∷ []) refusal.cut 2
    ∷ refused_string (0x1B ∷ 0x29 ∷ 0x42 ∷ []) refusal.not_approved 2
    ∷ refused_string (0x1B ∷ 0x28 ∷ 0x21 ∷ 0x42 ∷ []) refusal.not_approved 3
    ∷ refused_string (0x1B ∷ 0x24 ∷ 0x28 ∷ 0x42 ∷ 0x20 ∷ []) refusal.unused 4
    ∷ refused_string (0x1B ∷ 0x24 ∷ 0x28 ∷ 0x42 ∷ 0x30 ∷ []) refusal.cut 5
    ∷ []

-- what each refusal points at, case by case (rule N2): a segment after 1B 25 2F d, where `61` may be in a name and `20` may not
abbrev segment : ℕ → List ℕ → List ℕ
segment d t = 0x1B ∷ 0x25 ∷ 0x2F ∷ d ∷ t

abbrev pub places : List RefusedString
places =
    refused_string (0x1B ∷ 0x24 ∷ 0x28 ∷ 0x42 ∷ 0x30 ∷ 0xA1 ∷ []) refusal.unused 5
    ∷ refused_string (0x1B ∷ 0x41 ∷ []) refusal.unknown 1
    ∷ refused_string (0x1B ∷ 0x28 ∷ 0x24 ∷ 0x42 ∷ []) refusal.unknown 2
    ∷ refused_string (0x1B ∷ 0x28 ∷ 0x21 ∷ 0x20 ∷ 0x3F ∷ []) refusal.unknown 4
    ∷ refused_string (segment 0x35 []) refusal.unknown 3
    ∷ refused_string (0x9B ∷ 0x31 ∷ 0x31 ∷ []) refusal.unknown 2
    ∷ refused_string (0x1B ∷ 0x24 ∷ 0x29 ∷ 0x21 ∷ 0x20 ∷ 0x42 ∷ []) refusal.not_approved 5
    ∷ refused_string (0x41 ∷ 0x1B ∷ 0x23 ∷ []) refusal.version 2
    ∷ refused_string (segment 0x31 (0x7F ∷ 0x7F ∷ [])) refusal.bad_segment 4
    ∷ refused_string (segment 0x31 (0x80 ∷ 0x7F ∷ [])) refusal.bad_segment 5
    ∷ refused_string (segment 0x31 (0x80 ∷ 0x80 ∷ [])) refusal.bad_segment 5
    ∷ refused_string (segment 0x31 (0x80 ∷ 0x82 ∷ 0x61 ∷ 0x61 ∷ 0x41 ∷ [])) refusal.bad_segment 7
    ∷ refused_string (segment 0x31 (0x80 ∷ 0x83 ∷ 0x61 ∷ 0x20 ∷ 0x61 ∷ [])) refusal.bad_segment 7
    ∷ refused_string (segment 0x32 (0x80 ∷ 0x84 ∷ 0x61 ∷ 0x20 ∷ 0x02 ∷ 0xFF ∷ [])) refusal.bad_segment 7
    ∷ refused_string (segment 0x32 (0x80 ∷ 0x82 ∷ 0x02 ∷ 0xFF ∷ [])) refusal.bad_segment 6
    ∷ refused_string (segment 0x31 (0x80 ∷ 0x84 ∷ 0x20 ∷ 0x02 ∷ [])) refusal.cut 8
    ∷ []

-- what the definitions say of an example: the string's answer, its reading, and its units' writing
pub record Said : Type 0 where
  pub said : Answer
  pub reading : List TextUnit
  pub writes : List ℕ

abbrev saying : Answer → List TextUnit → List ℕ → Said
saying a us w = record { said = a; reading = us; writes = w }

abbrev pub defined : List Example → List Said
defined [] = []
defined (r ∷ rs) = saying (check_of r.string) (reading_of r.string) (shortest_of r.units) ∷ defined rs

-- what rule P1 says of it
abbrev pub expected : List Example → List Said
expected [] = []
expected (r ∷ rs) =
    saying (answer refusal.accepted (length r.string) (length r.units)) r.units r.written ∷ expected rs

-- the same of a refused string
abbrev pub answers_defined : List RefusedString → List Answer
answers_defined [] = []
answers_defined (r ∷ rs) = check_of r.string ∷ answers_defined rs

abbrev pub answers_expected : List RefusedString → List Answer
answers_expected [] = []
answers_expected (r ∷ rs) = refused_at r.number r.place ∷ answers_expected rs
