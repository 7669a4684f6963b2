-- Stretches of units of one width, as the reading's code passes them. That they are the reader's elements is proved (`stretch_ahead`),
-- so that nothing here has to be believed.
use Rattle.std.specs.Prelude.{ℕ, zero, suc, ◌+◌, ◌*◌, ◌-◌, ◌%◌, ◌/◌, ◌≤◌, ◌≡◌, Bool, true, false, List, [], ◌∷◌, eqb, leb, ltb, length, get_or}
use Rattle.base.specs.Choice.{pick, from}
use Rattle.charset.specs.Charsets.{form_94, form_96, form_94x94, form_of}
use Rattle.charset.specs.declared.Side.{Side}
use Rattle.charset.specs.declared.Side.TheVariants.{GL, GR}
use Rattle.state.specs.declared.State.{State}
use Rattle.state.specs.declared.directions.Directions.{Directions}
use Rattle.text.specs.Text.{graphic_of}
use Rattle.stretch.specs.declared.characters.Stretch.{Stretch}

-- the half of the octets that a side has: 0 those below 128
abbrev pub number : Side → ℕ
number GL = 0
number GR = 1

-- an octet of a two-octet character on a side, 0 for GL and 1 for GR
unfoldable pub graphic_on : ℕ → ℕ → Bool
graphic_on side b = pick (eqb (b / 128) side) (graphic_of (b % 128)) false

-- a space or a GL octet of a character
unfoldable pub gl_octet : ℕ → Bool
gl_octet b = pick (ltb b 0x20) false (ltb b 0x7F)

-- a GR octet that is a character by itself, by the form of the set in GR
unfoldable pub gr_octet : ℕ → ℕ → Bool
gr_octet right b = pick (ltb b 0xA0) false (pick (eqb right form_96) true (pick (eqb right form_94) (graphic_on 1 b) false))

-- an octet that is a unit by itself: a space or character, a tab or newline
unfoldable pub single_of : ℕ → ℕ → ℕ → Bool
single_of left right b =
    pick (gl_octet b) (pick (eqb left form_94x94) false true) (pick (ltb b 0x0B) (leb 0x09 b) (gr_octet right b))

-- how many times the octets at the start of a list pass a test, where each time takes w octets more than one; k octets are passed first
unfoldable pub lead_of : (List ℕ → Bool) → ℕ → List ℕ → ℕ → ℕ
lead_of f w [] k = 0
lead_of f w (b ∷ t) zero = pick (f (b ∷ t)) (suc (lead_of f w t w)) 0
lead_of f w (b ∷ t) (suc k) = lead_of f w t k

unfoldable pub one_at : ℕ → ℕ → List ℕ → Bool
one_at left right [] = false
one_at left right (b ∷ t) = single_of left right b

unfoldable pub two_at : ℕ → List ℕ → Bool
two_at side [] = false
two_at side (b ∷ []) = false
two_at side (b ∷ d ∷ t) = pick (graphic_on side b) (graphic_on side d) false

abbrev pub singles_of : ℕ → ℕ → List ℕ → ℕ
singles_of left right t = lead_of (one_at left right) 0 t 0

abbrev pub pairs_of : ℕ → List ℕ → ℕ
pairs_of side t = lead_of (two_at side) 1 t 0

-- text leaves the directions as they are
unfoldable pub settled_of : Directions → Bool
settled_of d = pick d.texted (pick d.marked (pick (eqb d.depth 0) false true) true) false

abbrev pub stretch : ℕ → ℕ → Stretch
stretch octets units = record { octets = octets; units = units }

abbrev pub twos_of : ℕ → ℕ → List ℕ → Stretch
twos_of form side t = pick (eqb form form_94x94) (stretch (2 * pairs_of side t) (pairs_of side t)) (stretch 0 0)

unfoldable pub by_forms_of : ℕ → ℕ → List ℕ → Stretch
by_forms_of left right t =
    pick (ltb 0 (twos_of left 0 t).units) (twos_of left 0 t)
    (pick (ltb 0 (twos_of right 1 t).units) (twos_of right 1 t) (stretch (singles_of left right t) (singles_of left right t)))

-- tabs and newlines, which leave every state as it is: the units of one octet where neither side has characters of one
abbrev pub blanks_of : List ℕ → ℕ
blanks_of t = singles_of form_94x94 0 t

unfoldable pub stretch_at : List ℕ → State → Stretch
stretch_at t st =
    pick (settled_of st.directions) (by_forms_of (form_of st.sets.gl) (form_of st.sets.gr) t) (stretch (blanks_of t) (blanks_of t))

-- an octet of a span
pub record Within (first last b : ℕ) : Type 0 where
  pub low : first ≤ b
  pub high : b ≤ last

-- four octets from a place on are of a span
pub record Four (first last : ℕ) (s : List ℕ) (at : ℕ) : Type 0 where
  pub one : Within first last (get_or s at 0)
  pub two : Within first last (get_or s (at + 1) 0)
  pub three : Within first last (get_or s (at + 1 + 1) 0)
  pub four : Within first last (get_or s (at + 1 + 1 + 1) 0)

-- only units that pass a test stand from a place to another: what starts at the one ends where what starts at the other does
pub record Along (f : List ℕ → Bool) (w : ℕ) (s : List ℕ) (at i : ℕ) : Type 0 where
  pub since : at ≤ i
  pub within : i ≤ length s
  pub same : i + suc w * lead_of f w (from i s) 0 ≡ at + suc w * lead_of f w (from at s) 0

-- four octets of a span are units that pass a test, each of w octets more than one
pub record Spans (f : List ℕ → Bool) (w first last : ℕ) : Type 0 where
  pub four : (s : List ℕ) (i : ℕ) → 4 ≤ length s - i → Four first last s i
      → 4 + (i + suc w * lead_of f w (from (i + 4) s) 0) ≡ i + suc w * lead_of f w (from i s) 0

-- only octets of a span stand from a place to another, four by four: they are units of every test that such octets pass
pub record Filled (first last : ℕ) (s : List ℕ) (at i : ℕ) : Type 0 where
  pub since : at ≤ i
  pub within : i ≤ length s
  pub along : (f : List ℕ → Bool) (w : ℕ) → Spans f w first last → Along f w s at i
