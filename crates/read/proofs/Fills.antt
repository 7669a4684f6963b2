-- The loop of `fill`, turn by turn: where no unit of the form stands, the number and the list are what they are (`count_stops`,
-- `stored_stops`); where one stands, they are those of the next turn (`count_goes`, `stored_goes`).
use Rattle.element.proofs.Names.{ℕ, zero, suc, ◌+◌, ◌≤◌, arith, ◌≡◌, refl, Bool, true, false, List, set, pick, UnitRecord}
use Rattle.spans.specs.Spans.{stands_after, unit_after}
use Rattle.read.specs.Stores.{count_from, stored_from}
use Rattle.spans.specs.declared.Span.{Span}

module _ (s : List ℕ) (r : Span) where
  pub count_over : (m j : ℕ) → m ≡ 0 → count_from s r m j ≡ j
  unfolding count_from
  count_over zero j e = refl
  count_over (suc m) j e = absurd (omega (arith, e))

  pub count_stops : (m j : ℕ) → stands_after s r j ≡ false → count_from s r m j ≡ j
  unfolding count_from pick
  count_stops zero j e = refl
  count_stops (suc m) j e = rw e

  pub count_goes : (m j k : ℕ) → m ≡ suc k → stands_after s r j ≡ true → count_from s r k (suc j) ≡ count_from s r m j
  unfolding count_from pick
  count_goes m j k i e = rw (i, e)

  pub count_least : (m j : ℕ) → j ≤ count_from s r m j
  unfolding count_from pick
  count_least zero j = omega arith
  count_least (suc m) j = by (stands_after s r j) (count_least m (suc j))
    where
      by : (b : Bool) → suc j ≤ count_from s r m (suc j) → j ≤ pick b (count_from s r m (suc j)) j
      by true h = omega (arith, h)
      by false h = omega arith

  pub count_most : (m j : ℕ) → count_from s r m j ≤ j + m
  unfolding count_from pick
  count_most zero j = omega arith
  count_most (suc m) j = by (stands_after s r j) (count_most m (suc j))
    where
      by : (b : Bool) → count_from s r m (suc j) ≤ suc j + m → pick b (count_from s r m (suc j)) j ≤ j + suc m
      by true h = omega (arith, h)
      by false h = omega arith

  module _ (start : ℕ) where
    pub stored_over_lem : (m j : ℕ) (l : List UnitRecord) → m ≡ 0 → stored_from s r start m j l ≡ l
    unfolding stored_from
    stored_over_lem zero j l e = refl
    stored_over_lem (suc m) j l e = absurd (omega (arith, e))

    pub stored_stops : (m j : ℕ) (l : List UnitRecord) → stands_after s r j ≡ false → stored_from s r start m j l ≡ l
    unfolding stored_from pick
    stored_stops zero j l e = refl
    stored_stops (suc m) j l e = rw e

    pub stored_goes : (m j k : ℕ) (l : List UnitRecord) → m ≡ suc k → stands_after s r j ≡ true
        → stored_from s r start k (suc j) (set l (start + j) (unit_after s r j)) ≡ stored_from s r start m j l
    unfolding stored_from pick
    stored_goes m j k l i e = rw (i, e)
