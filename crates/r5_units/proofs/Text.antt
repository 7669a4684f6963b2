-- A character's octets by tests.
use Rattle.element.proofs.Names.{ℕ, ◌/◌, ◌%◌, ◌≤◌, ◌<◌, ◌≡◌, Bool, [], ◌∷◌, le-leb, lt-leb, pick}
use Rattle.charset.specs.Charsets.{first_double}
use Rattle.r5_units.specs.Unit.{half, text_octets}

module _ (c k : ℕ) (left : Bool) where
  pub text_double : (x y : ℕ) → x ≡ half left (k / 256) → y ≡ half left (k % 256) → first_double ≤ c → text_octets c k left ≡ x ∷ y ∷ []
  unfolding text_octets pick
  text_double x y ex ey h = rw (le-leb first_double c h, ex, ey)

  pub text_single : (y : ℕ) → y ≡ half left (k % 256) → c < first_double → text_octets c k left ≡ y ∷ []
  unfolding text_octets pick
  text_single y ey h = rw (lt-leb first_double c h, ey)
