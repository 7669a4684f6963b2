-- A list that is filled from its first place with what stands at a cursor that moves on.
--     iter       the cursor after so many steps
--     fillFrom   the list with so many of its first places filled
--     fill_suc   one more place is filled by a store to it
use Rattle.walks.proofs.Names.{◌≡◌, refl, ap, ℕ, suc, ◌<◌, List, [], ◌∷◌, length, set}
use Prim.Native.Nat.{zero}
use native.Mathlib.Nat.{not-suc-le-zero, le_of_suc-le-suc}

module _ {X S : Type 0} (unit : S → X) (next : S → S) where
  -- the cursor after i steps
  abbrev pub iter : ℕ → S → S
  iter zero c = c
  iter (suc i) c = iter i (next c)

  -- the list with its first n places filled
  abbrev pub fill_from : ℕ → S → List X → List X
  fill_from zero c ys = ys
  fill_from (suc n) c [] = []
  fill_from (suc n) c (y ∷ ys) = unit c ∷ fill_from n (next c) ys

  pub iter_suc : (i : ℕ) (c : S) → iter (suc i) c ≡ next (iter i c)
  iter_suc zero c = refl
  iter_suc (suc i) c = iter_suc i (next c)

  pub length_fill : (n : ℕ) (c : S) (ys : List X) → length (fill_from n c ys) ≡ length ys
  length_fill zero c ys = refl
  length_fill (suc n) c [] = refl
  length_fill (suc n) c (y ∷ ys) = ap suc (length_fill n (next c) ys)

  pub fill_suc : (i : ℕ) (c : S) (ys : List X) → i < length ys → set (fill_from i c ys) i (unit (iter i c)) ≡ fill_from (suc i) c ys
  fill_suc i c [] h = absurd (not-suc-le-zero h)
  fill_suc zero c (y ∷ ys) h = refl
  fill_suc (suc i) c (y ∷ ys) h = ap (λ (l : List X). unit c ∷ l) (fill_suc i (next c) ys (le_of_suc-le-suc h))
