-- The ladder's rules for what the octets of a form start, and the length of an octet's form.
use Prim.Native.Nat.{ℕ, ◌+◌, ◌*◌, ◌≤◌, ◌<◌}
use native.Mathlib.Omega.{arith}
use mathlib.Core.Path.{◌≡◌, refl, ap, sym, ◌∙◌}
use mathlib.Core.Bool.{Bool, true, false}
use mathlib.Core.List.{List, ◌∷◌}
use lib.Dec.{eqb, ltb}
use lib.ListN.{length, get_or}
use Rattle.std.specs.Prelude.{Option, Some, None}
use Rattle.base.specs.Choice.{pick, from}
use borrow.Author.Tests.{ltb-true, ltb-false, le-ltb}
use mir.Val.{bool_byte}
use Rattle.base.proofs.Bools.{test, off}
use Rattle.base.proofs.Ladder.{from_end, from_from, octet, ended, ladder}
use Rattle.resource_form.specs.Form.{backslash, newline, nul, letter_n, digit_0, octet_form, zero_first, form_zeros, form_escape, form_first, stands}
use Rattle.resource_form.specs.declared.First.{First}
use Rattle.resource_form.proofs.Readings.{each_octet}

-- a test as a number
byte_few : (t : Bool) → bool_byte t ≤ 1
byte_few true = omega arith
byte_few false = omega arith

pub tests_few : (b : ℕ) → (bool_byte (eqb b backslash) ≤ 1) × (bool_byte (eqb b newline) ≤ 1) × (bool_byte (eqb b nul) ≤ 1)
tests_few b = (byte_few (eqb b backslash), byte_few (eqb b newline), byte_few (eqb b nul))

-- the length of a form, by the three tests, of which at most one holds
pub form_size : (b : ℕ) → 1 + bool_byte (eqb b backslash) + bool_byte (eqb b newline) + bool_byte (eqb b nul) * 3 ≡ length (octet_form b)
unfolding octet_form pick
form_size =
    each_octet (λ b. 1 + bool_byte (eqb b backslash) + bool_byte (eqb b newline) + bool_byte (eqb b nul) * 3 ≡ length (octet_form b)) refl refl refl
    (λ b e f g. rw (e, f, g))

-- the octet that stands at a place, as `get` answers it
abbrev pub StandsAt : List ℕ → ℕ → ℕ → Type 0
StandsAt s at b = (at < length s) × ((d : ℕ) → b ≡ get_or s at d)

-- a function of the octets from a place on, by the octet there
here : {X : Type 0} (f : List ℕ → X) (s : List ℕ) (at b : ℕ) (r : X) → StandsAt s at b → r ≡ f (b ∷ from (at + 1) s) → r ≡ f (from at s)
here f s at b r h e = octet f s at r h.0 (e ∙ ap (λ (x : ℕ). f (x ∷ from (at + 1) s)) (h.1 0))

module _ (s : List ℕ) (at : ℕ) (r : Option First) where
  pub on_first_lem : (b : ℕ) → StandsAt s at b
      → r ≡ pick (eqb b backslash) (form_escape (from (at + 1) s)) (pick (eqb b newline) None (pick (eqb b nul) None (Some (stands b 1))))
      → r ≡ form_first (from at s)
  unfolding form_first
  on_first_lem b h e = here form_first s at b r h e

  pub no_first : length s ≤ at → r ≡ None → r ≡ form_first (from at s)
  unfolding form_first
  no_first h e = ended form_first s at r h e

  pub on_escape : (b : ℕ) → StandsAt s at b
      → r ≡ pick (eqb b backslash) (Some (stands backslash 2))
      (pick (eqb b letter_n) (Some (stands newline 2)) (pick (eqb b digit_0) (form_zeros (from (at + 1) s)) None))
      → r ≡ form_escape (from at s)
  unfolding form_escape
  on_escape b h e = here form_escape s at b r h e

  pub no_escape : length s ≤ at → r ≡ None → r ≡ form_escape (from at s)
  unfolding form_escape
  no_escape h e = ended form_escape s at r h e

  pub on_zeros : r ≡ pick (zero_first (from at s)) (pick (zero_first (from (at + 1) s)) (Some (stands nul 4)) None) None → r ≡ form_zeros (from at s)
  unfolding form_zeros
  on_zeros e = e ∙ ap (λ (t : List ℕ). pick (zero_first (from at s)) (pick (zero_first t) (Some (stands nul 4)) None) None) (sym (from_from s at 1))

module _ (s : List ℕ) (at : ℕ) (r : Bool) where
  pub on_zero : at < length s → r ≡ eqb (get_or s at 0) digit_0 → r ≡ zero_first (from at s)
  unfolding zero_first
  on_zero h e = octet zero_first s at r h e

  pub no_zero : length s ≤ at → r ≡ false → r ≡ zero_first (from at s)
  unfolding zero_first
  no_zero h e = ended zero_first s at r h e

  -- whether there is an octet
  pub no_octet : length s ≤ at → r ≡ ltb at (length s) → r ≡ zero_first (from at s)
  no_octet h e = no_zero h (e ∙ le-ltb at (length s) h)

-- where a digit 0 stands there is an octet
pub zero_within : (s : List ℕ) (at : ℕ) (r : Bool) → r ≡ zero_first (from at s) → r ≡ true → at < length s
unfolding zero_first
zero_within s at r e f =
    test (ltb at (length s)) (λ q. ltb-true at (length s) q)
    (λ q. off (sym (ap zero_first (from_end s at (ltb-false at (length s) q))) ∙ sym e ∙ f))

pub ruleset form_steps = (on_zeros, on_zero, no_octet, ladder)
