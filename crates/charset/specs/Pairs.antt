-- What is asked of finding a set directly by a designation's form and final octet (rule S3): over all 315 pairs of a form and a final octet.
use Rattle.std.specs.Prelude.{ℕ, zero, suc, ◌+◌, ◌<◌, ◌≡◌, cond, List, [], ◌∷◌, get_or, ltb}
use Rattle.charset.specs.Charsets.{form_94, form_96, form_94x94, no_set, set_of}
use Rattle.charset.specs.declared.Side.{Side, TheVariants.GL, TheVariants.GR}

-- a designation's form: the form of the set that it names, and the side that it puts it on
pub record FormSide : Type 0 where
  pub form : ℕ
  pub side : Side

abbrev pub form_side : ℕ → Side → FormSide
form_side f d = record { form = f; side = d }

-- 1B 28, 1B 29, 1B 2D, 1B 24 28, 1B 24 29
abbrev pub forms : List FormSide
forms = form_side form_94 GL ∷ form_side form_94 GR ∷ form_side form_96 GR ∷ form_side form_94x94 GL ∷ form_side form_94x94 GR ∷ []

abbrev pub nth_form : ℕ → FormSide
nth_form i = get_or forms i (form_side 0 GL)

-- what a lookup finds for form i and the final octet 40 + k
abbrev pub at_pair : (ℕ → Side → ℕ → ℕ) → ℕ → ℕ → ℕ
at_pair lookup i k = lookup (nth_form i).form (nth_form i).side (0x40 + k)

abbrev pub sum_to : ℕ → (ℕ → ℕ) → ℕ
sum_to zero f = 0
sum_to (suc n) f = f n + sum_to n f

-- how many of the 5 × 63 pairs name a set
abbrev pub named : (ℕ → Side → ℕ → ℕ) → ℕ
named lookup = sum_to 5 (λ i. sum_to 63 (λ k. cond (ltb (at_pair lookup i k) no_set) 1 0))

-- a lookup finds at each pair what the search through the table finds, a set at eighteen of them, and none where the final octet is not
-- one of 40-7E or the form not one of the five
pub record Direct (lookup : ℕ → Side → ℕ → ℕ) : Type 0 where
  pub pairs : (i k : ℕ) → i < 5 → k < 63 → at_pair lookup i k ≡ at_pair set_of i k
  pub eighteen : named lookup ≡ 18
  pub below : (f : ℕ) (d : Side) (x : ℕ) → x < 0x40 → lookup f d x ≡ no_set
  pub above : (f : ℕ) (d : Side) (x : ℕ) → 0x7E < x → lookup f d x ≡ no_set
  pub no_form : (f : ℕ) (d : Side) (x : ℕ) → ((i : ℕ) → i < 5 → nth_form i ≡ form_side f d → ⊥) → lookup f d x ≡ no_set
