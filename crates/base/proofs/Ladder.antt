-- Rules that take a chain of tests down to the case that holds, one test at a time, and a list's place to its octet.
use Prim.Native.Nat.{ℕ, ◌+◌, ◌-◌, ◌<◌, ◌≤◌}
use native.Mathlib.Numerals.{add-one}
use mathlib.Core.Path.{◌≡◌, ap, ◌∙◌, sym}
use mathlib.Core.Bool.{Bool, true, false}
use mathlib.Core.List.{List, [], ◌∷◌}
use lib.Dec.{eqb, leb, ltb}
use lib.ListN.{length, get_or, drop, drop_of_length-le, length-drop}
use lib.Seq.{drop-cons, drop-drop}
use borrow.Author.Tests.{lt-ltb, le-ltb, le-leb, lt-leb, eq-eqb, ne_eqb}
use Rattle.base.specs.Choice.{pick, from}

module _ {X : Type 0} where
  pub on_true : (t : Bool) (r x y : X) → t ≡ true → r ≡ x → r ≡ pick t x y
  unfolding pick
  on_true t r x y e h = rw e h

  pub on_false : (t : Bool) (r x y : X) → t ≡ false → r ≡ y → r ≡ pick t x y
  unfolding pick
  on_false t r x y e h = rw e h

  pub on_eq : (a b : ℕ) (r x y : X) → a ≡ b → r ≡ x → r ≡ pick (eqb a b) x y
  on_eq a b r x y e h = on_true _ r x y (eq-eqb a b e) h

  pub on_ne : (a b : ℕ) (r x y : X) → (a ≡ b → ⊥) → r ≡ y → r ≡ pick (eqb a b) x y
  on_ne a b r x y e h = on_false _ r x y (ne_eqb a b e) h

  pub on_lt : (a b : ℕ) (r x y : X) → a < b → r ≡ x → r ≡ pick (ltb a b) x y
  on_lt a b r x y e h = on_true _ r x y (lt-ltb a b e) h

  pub on_ge : (a b : ℕ) (r x y : X) → b ≤ a → r ≡ y → r ≡ pick (ltb a b) x y
  on_ge a b r x y e h = on_false _ r x y (le-ltb a b e) h

  pub on_le : (a b : ℕ) (r x y : X) → a ≤ b → r ≡ x → r ≡ pick (leb a b) x y
  on_le a b r x y e h = on_true _ r x y (le-leb a b e) h

  pub on_gt : (a b : ℕ) (r x y : X) → b < a → r ≡ y → r ≡ pick (leb a b) x y
  on_gt a b r x y e h = on_false _ r x y (lt-leb a b e) h

  -- a test that a call answered: q is what it answered
  pub on_yes : (q t : Bool) (r x y : X) → q ≡ t → q ≡ true → r ≡ x → r ≡ pick t x y
  on_yes q t r x y s e h = on_true t r x y (sym s ∙ e) h

  pub on_no : (q t : Bool) (r x y : X) → q ≡ t → q ≡ false → r ≡ y → r ≡ pick t x y
  on_no q t r x y s e h = on_false t r x y (sym s ∙ e) h

  -- a test of a number that a call answered
  pub on_eq_of : (q a b : ℕ) (r x y : X) → q ≡ a → q ≡ b → r ≡ x → r ≡ pick (eqb a b) x y
  on_eq_of q a b r x y s e h = on_eq a b r x y (sym s ∙ e) h

  pub on_ne_of : (q a b : ℕ) (r x y : X) → q ≡ a → (q ≡ b → ⊥) → r ≡ y → r ≡ pick (eqb a b) x y
  on_ne_of q a b r x y s e h = on_ne a b r x y (λ k. e (s ∙ k)) h

  pub on_lt_of : (q a b : ℕ) (r x y : X) → q ≡ a → q < b → r ≡ x → r ≡ pick (ltb a b) x y
  on_lt_of q a b r x y s e h = on_lt a b r x y (rw s at e) h

  pub on_ge_of : (q a b : ℕ) (r x y : X) → q ≡ a → b ≤ q → r ≡ y → r ≡ pick (ltb a b) x y
  on_ge_of q a b r x y s e h = on_ge a b r x y (rw s at e) h

  -- a test of a number that is known
  pub on_eq_key : (a b k : ℕ) (r x y : X) → a ≡ k → eqb k b ≡ false → r ≡ y → r ≡ pick (eqb a b) x y
  on_eq_key a b k r x y s e h = on_false (eqb a b) r x y (rw s e) h

  pub on_lt_key : (a b k : ℕ) (r x y : X) → a ≡ k → ltb k b ≡ false → r ≡ y → r ≡ pick (ltb a b) x y
  on_lt_key a b k r x y s e h = on_false (ltb a b) r x y (rw s e) h

  -- what is left after a part that is known
  pub after : {x y z : X} → y ≡ z → x ≡ y → x ≡ z
  after p q = q ∙ p

pub ruleset ladder = (on_eq, on_ne, on_lt, on_ge, on_le, on_gt, on_true, on_false, on_yes, on_no, on_eq_of, on_ne_of, on_lt_of, on_ge_of, on_eq_key, on_lt_key)

pub from_octet : (s : List ℕ) (at : ℕ) → at < length s → from at s ≡ get_or s at 0 ∷ from (at + 1) s
unfolding from
from_octet s at h = rw (add-one, drop-cons s at 0)

pub from_end : (s : List ℕ) (at : ℕ) → length s ≤ at → from at s ≡ []
unfolding from
from_end s at h = drop_of_length-le s h

pub from_from : (s : List ℕ) (at k : ℕ) → drop k (from at s) ≡ from (at + k) s
unfolding from
from_from s at k = drop-drop k at s

pub from_length : (s : List ℕ) (at : ℕ) → length (from at s) ≡ length s - at
unfolding from
from_length s at = length-drop at s

-- a function of the octets from a place on, where there is an octet, and where there is none
pub octet : {X : Type 0} (f : List ℕ → X) (s : List ℕ) (at : ℕ) (r : X) → at < length s → r ≡ f (get_or s at 0 ∷ from (at + 1) s)
    → r ≡ f (from at s)
octet f s at r h e = e ∙ ap f (sym (from_octet s at h))

pub ended : {X : Type 0} (f : List ℕ → X) (s : List ℕ) (at : ℕ) (r : X) → length s ≤ at → r ≡ f [] → r ≡ f (from at s)
ended f s at r h e = e ∙ ap f (sym (from_end s at h))
