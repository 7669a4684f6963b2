-- The units of a reading, and the octets of units and designations.
use Rattle.std.specs.Prelude.{ℕ, suc, ◌+◌, ◌/◌, ◌%◌, Bool, true, false, cond, ◌&&◌, List, [], ◌∷◌, eqb, leb, ltb, length}
use Rattle.base.specs.Kind as kind
use Rattle.charset.specs.declared.Side.{Side, TheVariants.GL, TheVariants.GR}
use Rattle.charset.specs.Charsets.{form_96, form_94x94, no_set, row_of, form_of}
use Rattle.segment.specs.Segment.{name_octet_of, text_width_of}
use Rattle.state.specs.Directions.{counts_as_text}
use Rattle.state.specs.State.{Standing}
use Rattle.text.specs.Text.{graphic_of}

-- the units that have neither set nor code and need no set
pub data Control : Type 0 where
  tab newline ltr rtl revert : Control

-- a unit of a reading: a character by its set and code, an extended segment by d and its n octets (rule U3)
pub data TextUnit : Type 0 where
  char : ℕ → ℕ → TextUnit
  space : TextUnit
  control : Control → TextUnit
  ext : ℕ → List ℕ → TextUnit

-- ---- numbers

abbrev pub control_kind : Control → ℕ
control_kind tab = kind.tab
control_kind newline = kind.newline
control_kind ltr = kind.left_to_right
control_kind rtl = kind.right_to_left
control_kind revert = kind.revert

abbrev pub kind_of : TextUnit → ℕ
kind_of (char c k) = kind.character
kind_of space = kind.space
kind_of (control x) = control_kind x
kind_of (ext e xs) = kind.segment

-- the control of a kind that is none of the other three
abbrev pub control_of : ℕ → Control
control_of k =
    cond (eqb k kind.tab) tab
    (cond (eqb k kind.newline) newline (cond (eqb k kind.left_to_right) ltr (cond (eqb k kind.right_to_left) rtl revert)))

-- the unit of a kind, set and code, with the octets of an extended segment; what a kind does not use is ignored
unfoldable pub unit_of : ℕ → ℕ → ℕ → List ℕ → TextUnit
unit_of k c code xs =
    cond (eqb k kind.character) (char c code)
    (cond (eqb k kind.space) space (cond (ltb k kind.segment) (control (control_of k)) (ext code xs)))

-- the octets of an extended segment's text: what follows the first 02
unfoldable pub text_octets : List ℕ → ℕ
text_octets [] = 0
text_octets (x ∷ xs) = cond (eqb x 2) (length xs) (text_octets xs)

abbrev pub text_in : TextUnit → ℕ
text_in (char c k) = 0
text_in space = 0
text_in (control x) = 0
text_in (ext e xs) = text_octets xs

-- whether a unit counts as text for the direction rule (rule E9)
abbrev pub counts : TextUnit → Bool
counts u = counts_as_text (kind_of u) (text_in u)

-- ---- octets

-- 94 by 94: a character has two octets
unfoldable pub wide : ℕ → Bool
wide c = eqb (form_of c) form_94x94

-- GR octets have their top bit set
abbrev pub top : Side → ℕ
top GL = 0
top GR = 128

abbrev pub shown : Bool → ℕ → ℕ → List ℕ
shown false h k = (h + k) ∷ []
shown true h k = (h + k / 256) ∷ (h + k % 256) ∷ []

abbrev pub control_octets : Control → List ℕ
control_octets tab = 0x09 ∷ []
control_octets newline = 0x0A ∷ []
control_octets ltr = 0x9B ∷ 0x31 ∷ 0x5D ∷ []
control_octets rtl = 0x9B ∷ 0x32 ∷ 0x5D ∷ []
control_octets revert = 0x9B ∷ 0x5D ∷ []

-- the octets of a unit on a side; only a character's depend on it
unfoldable pub octets : Side → TextUnit → List ℕ
octets d (char c k) = shown (wide c) (top d) k
octets d space = 0x20 ∷ []
octets d (control x) = control_octets x
octets d (ext e xs) = 0x1B ∷ 0x25 ∷ 0x2F ∷ e ∷ (128 + length xs / 128) ∷ (128 + length xs % 128) ∷ xs

-- the octets of a designation before its final, by form and side (rule S1)
abbrev pub lead : ℕ → Side → List ℕ → List ℕ
lead form GL t = cond (eqb form form_94x94) (0x1B ∷ 0x24 ∷ 0x28 ∷ t) (0x1B ∷ 0x28 ∷ t)
lead form GR t =
    cond (eqb form form_94x94) (0x1B ∷ 0x24 ∷ 0x29 ∷ t) (cond (eqb form form_96) (0x1B ∷ 0x2D ∷ t) (0x1B ∷ 0x29 ∷ t))

unfoldable pub designation : Standing → List ℕ
designation p = lead (form_of p.set) p.side ((row_of p.set).last ∷ [])

-- ---- which units there are

-- the codes that a set of a form uses (rule N9)
unfoldable pub code_used : ℕ → ℕ → Bool
code_used form k =
    cond (eqb form form_94x94) (graphic_of (k / 256) && graphic_of (k % 256))
    (cond (eqb form form_96) (leb 0x20 k && leb k 0x7F) (graphic_of k))

-- octets of a segment: a name that has n octets before these and ends at the first 02, and a text (rule E1g)
unfoldable pub segment : ℕ → ℕ → List ℕ → Bool
segment e n [] = false
segment e n (x ∷ xs) =
    cond (eqb x 2) (leb 1 n && eqb (length xs % text_width_of e) 0) (name_octet_of x && segment e (suc n) xs)

-- n is at most (255 - 128) × 128 + (255 - 128)
abbrev pub most_of_segment : ℕ
most_of_segment = 16383

unfoldable pub good : TextUnit → Bool
good (char c k) = ltb c no_set && code_used (form_of c) k
good space = true
good (control x) = true
good (ext e xs) = leb 0x30 e && leb e 0x34 && leb (length xs) most_of_segment && segment e 0 xs
