-- What an octet starts, by the forms of the sets in GL and GR, and what each class of octets starts: the one definition of it (rules E1a to
-- E1d). The functions of `element`, `text`, `stretch`, `cursor` and `runs` ask it in words of their own, each of which is proved to be this.
use Rattle.std.specs.Prelude.{ℕ, ◌%◌, Bool, true, List, eqb, ltb}
use Rattle.base.specs.Choice.{pick}
use Rattle.base.specs.Kind as kind
use Rattle.base.specs.Refusal as refusal
use Rattle.charset.specs.Charsets.{form_96, form_94x94, form_of}
use Rattle.charset.specs.declared.Side.{Side, TheVariants.GL, TheVariants.GR}
use Rattle.control.specs.Escape.{escape_of}
use Rattle.control.specs.Mark.{csi_of}
use Rattle.state.specs.Elements.{unit}
use Rattle.state.specs.State.{get}
use Rattle.state.specs.declared.Sets.{Sets}
use Rattle.state.specs.Elements.{Shape, Refuses}
use Rattle.text.specs.Text.{graphic_of, one_octet_of, second_octet_of, space_of}

-- the classes: `one` and `two` are a character of one octet and the first octet of one of two, of the set on a side
pub data Start : Type 0 where
  escape mark tab newline space unused : Start
  one two : Side → Start

-- whether a set of a form uses an octet of its side: one of 96 uses all 96, any other all but the first and the last (rules E1b, E1c)
unfoldable pub used_in : ℕ → ℕ → Bool
used_in form b = pick (eqb form form_96) true (graphic_of (b % 128))

unfoldable pub character_start : Side → ℕ → ℕ → Start
character_start d form b = pick (used_in form b) (pick (eqb form form_94x94) (two d) (one d)) unused

-- a GL octet: 20 is a space under a set of one octet, and not used under one of two; 7F is never used (rule E1b)
unfoldable pub left_start : ℕ → ℕ → Start
left_start form b =
    pick (eqb b 0x20) (pick (eqb form form_94x94) unused space) (pick (eqb b 0x7F) unused (character_start GL form b))

-- an octet, where the sets in GL and GR are of these forms: C0, GL, C1, GR (rules E1a, E1b, E1c)
unfoldable pub start_of : ℕ → ℕ → ℕ → Start
start_of left right b =
    pick (eqb b 0x1B) escape
    (pick (eqb b 0x9B) mark
    (pick (eqb b 0x09) tab
    (pick (eqb b 0x0A) newline
    (pick (ltb b 0x20) unused
    (pick (ltb b 0x80) (left_start left b) (pick (ltb b 0xA0) unused (character_start GR right b)))))))

abbrev pub start_in : Sets → ℕ → Start
start_in s b = start_of (form_of s.gl) (form_of s.gr) b

-- the shape that starts with an octet b of a class and goes on with t
unfoldable pub begun_by : Start → ℕ → List ℕ → Sets → Shape
begun_by escape b t s = escape_of t
begun_by mark b t s = csi_of t
begun_by tab b t s = unit kind.tab 0 0 1
begun_by newline b t s = unit kind.newline 0 0 1
begun_by space b t s = space_of
begun_by (one d) b t s = one_octet_of (get d s) b
begun_by (two d) b t s = second_octet_of (get d s) b t
begun_by unused b t s = Refuses refusal.unused 0
