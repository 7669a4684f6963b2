-- The seven octets of a row, stored with the four of the start first: stores at different places may change their order.
use Rattle.element.proofs.Names.{ℕ, zero, suc, ◌+◌, ◌/◌, ◌%◌, ◌<◌, arith, ◌≡◌, refl, ap, List, [], ◌∷◌, set, sets, UnitRecord}
use native.Mathlib.Numerals.{towards_suc}
use Rattle.rows.specs.Rows.{tag_of, number_of, seven_octets}

-- two stores at different places may change their order
set_swap : (l : List ℕ) (i j x y : ℕ) → (i ≡ j → ⊥) → set (set l i x) j y ≡ set (set l j y) i x
set_swap [] i j x y n = refl
set_swap (a ∷ l) zero zero x y n = absurd (n refl)
set_swap (a ∷ l) zero (suc j) x y n = refl
set_swap (a ∷ l) (suc i) zero x y n = refl
set_swap (a ∷ l) (suc i) (suc j) x y n = ap (λ (t : List ℕ). a ∷ t) (set_swap l i j x y (λ e. n (ap suc e)))

-- the four octets of a start
abbrev four_stores : List ℕ → ℕ → ℕ → List ℕ
four_stores l at n = set (set (set (set l (at + 3) (n / 16777216)) (at + 4) (n / 65536 % 256)) (at + 5) (n / 256 % 256)) (at + 6) (n % 256)

past_four : (l : List ℕ) (at n j y : ℕ) → j < at + 3 → set (four_stores l at n) j y ≡ four_stores (set l j y) at n
past_four l at n j y h =
    rw (
      set_swap _ (at + 6) j _ _ (λ e. omega arith),
      set_swap _ (at + 5) j _ _ (λ e. omega arith),
      set_swap _ (at + 4) j _ _ (λ e. omega arith),
      set_swap _ (at + 3) j _ _ (λ e. omega arith),
    )

-- the seven octets of a row, the four of the start stored first
pub seven_stores : (l : List ℕ) (at t n : ℕ) (r : UnitRecord) → t ≡ tag_of r → n ≡ number_of r
    → set (set (set (four_stores l at r.start) at t) (at + 1) (n / 256)) (at + 2) (n % 256) ≡ sets l at (seven_octets r)
seven_stores l at t n r et en =
    rw (past_four _ at _ at _ (omega arith), past_four _ at _ (at + 1) _ (omega arith), past_four _ at _ (at + 2) _ (omega arith), et, en)
    (simp towards_suc)
