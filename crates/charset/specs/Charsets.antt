-- The fifteen sets, and the set that a designation names (rule S1).
use Rattle.std.specs.Prelude.{ℕ, suc, ◌≡◌, Bool, true, false, List, [], ◌∷◌, get_or, eqb}
use Rattle.base.specs.Choice.{pick}
use Rattle.charset.specs.declared.Side.{Side, TheVariants.GL, TheVariants.GR}
use Rattle.charset.specs.declared.approved.Charset.{Charset}

-- the forms: a set of 94, of 96, of 94 by 94
abbrev pub form_94 : ℕ
form_94 = 1

abbrev pub form_96 : ℕ
form_96 = 2

abbrev pub form_94x94 : ℕ
form_94x94 = 3

-- a row of the table: its form, its final octet F, and whether it may stand in GL, and in GR
pub record Row : Type 0 where
  pub form : ℕ
  pub last : ℕ
  pub left : Bool
  pub right : Bool

abbrev pub row : ℕ → ℕ → Bool → Bool → Row
row f x l r = record { form = f; last = x; left = l; right = r }

-- ASCII; JIS X0201 right and left; the right halves of ISO 8859-1, 2, 3, 4, 7, 6, 8, 5, 9; GB 2312, JIS X0208, KS C5601
abbrev pub rows : List Row
rows =
    row form_94 0x42 true false
    ∷ row form_94 0x49 false true
    ∷ row form_94 0x4A true false
    ∷ row form_96 0x41 false true
    ∷ row form_96 0x42 false true
    ∷ row form_96 0x43 false true
    ∷ row form_96 0x44 false true
    ∷ row form_96 0x46 false true
    ∷ row form_96 0x47 false true
    ∷ row form_96 0x48 false true
    ∷ row form_96 0x4C false true
    ∷ row form_96 0x4D false true
    ∷ row form_94x94 0x41 true true
    ∷ row form_94x94 0x42 true true
    ∷ row form_94x94 0x43 true true
    ∷ []

-- how many there are, and the number that stands for none
abbrev pub no_set : ℕ
no_set = 15

-- the first of the sets of two octets: each set below it has one, each from it on has two (`narrow_form` and `Wide-Form` in proofs/Laws)
abbrev pub first_double : ℕ
first_double = 12

-- the row of a set, and of no set
abbrev pub row_of : ℕ → Row
row_of c = get_or rows c (row 0 0 false false)

-- whether the set of a row may stand on a side
unfoldable pub may_use : Side → Row → Bool
may_use GL w = w.left
may_use GR w = w.right

unfoldable pub allowed : Side → ℕ → Bool
allowed d c = may_use d (row_of c)

-- the form of a set, 0 where there is no such set
unfoldable pub form_of : ℕ → ℕ
form_of c = (row_of c).form

-- the octets of a character of a set of this form: two of 94 by 94, one of 94 and of 96, and none of form 0, which is no set's
unfoldable pub width_of_form : ℕ → ℕ
width_of_form f = pick (eqb f 0) 0 (pick (eqb f form_94x94) 2 1)

-- the row of a set as the code has it: form, final octet, whether it may stand in GL and in GR, and the octets of a character
unfoldable pub charset_of : ℕ → Charset
charset_of c =
    let w = row_of c in
    record { 0 = w.form; 1 = w.last; 2 = w.left; 3 = w.right; 4 = width_of_form w.form }

-- a row is that of a designation of this form, side and final octet
unfoldable pub fits_of : Row → ℕ → Side → ℕ → Bool
fits_of w f d x = pick (eqb w.form f) (pick (eqb w.last x) (may_use d w) false) false

-- the number of the first row that fits, counted from i
unfoldable pub find : List Row → ℕ → Side → ℕ → ℕ → ℕ
find [] f d x i = i
find (w ∷ ws) f d x i = pick (fits_of w f d x) i (find ws f d x (suc i))

-- the set of a designation, `no_set` where there is none
unfoldable pub set_of : ℕ → Side → ℕ → ℕ
set_of f d x = find rows f d x 0

-- a row has this form and final octet and may stand on this side
pub record Named (w : Row) (f : ℕ) (s : Side) (x : ℕ) : Type 0 where
  pub form : w.form ≡ f
  pub last : w.last ≡ x
  pub side : may_use s w ≡ true
