-- Octets stored one after the other: where they stand after, and the octet of a designation that says the side.
use Rattle.std.specs.Prelude.{ℕ, ◌+◌, ◌≡◌, Bool, cond, List, eqb, leb, length}
use Rattle.std.proofs.lemmas.List.Edits.{sets}
use Rattle.base.specs.Choice.{pick}
use Rattle.charset.specs.Charsets.{form_96, form_of}
use Rattle.charset.specs.declared.Side.{Side}
use Rattle.charset.specs.declared.Side.TheVariants.{GL, GR}

-- xs are stored from a place on, the next place is r, and the rest is as it was
pub record Written (before : List ℕ) (at : ℕ) (xs : List ℕ) (r : ℕ) (after : List ℕ) : Type 0 where
  pub next : r ≡ at + length xs
  pub now : after ≡ sets before at xs

-- the same where all of xs have room there, and else nothing is stored
pub record Stored (before : List ℕ) (at : ℕ) (xs : List ℕ) (r : ℕ) (after : List ℕ) : Type 0 where
  pub next : r ≡ pick (leb (at + length xs) (length before)) (at + length xs) at
  pub now : after ≡ pick (leb (at + length xs) (length before)) (sets before at xs) before

abbrev pub side_of : Bool → Side
side_of left = cond left GL GR

-- the octet after 1B, or after 1B 24, of a designation: it says the side and the form
unfoldable pub sign_of : Bool → ℕ → ℕ
sign_of left set = pick left 0x28 (pick (eqb (form_of set) form_96) 0x2D 0x29)
