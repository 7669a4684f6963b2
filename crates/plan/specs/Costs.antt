-- The least costs from all numbers, unit by unit from the last to the first: what a unit put before does to them.
use Rattle.std.specs.Prelude.{ℕ, ◌+◌, ◌≤◌, ◌<◌, ◌≡◌, true, false, List, [], ◌∷◌, length, get_or}
use Rattle.numbers.specs.Numbers.{places_in_gl, places_in_gr, after_first, after_second, after_choice, surcharge, price_of_class, changes}
use Rattle.numbers.specs.Class as class
use Rattle.numbers.specs.Size as size

-- a designation's price 31 times, but nothing in the middle, and then the price once more: from 15 - r on nothing stands at place r
abbrev pub surcharges : ℕ → List ℕ
surcharges p =
    p ∷ p ∷ p ∷ p ∷ p ∷ p ∷ p ∷ p ∷ p ∷ p ∷ p ∷ p ∷ p ∷ p ∷ p ∷ 0
    ∷ p ∷ p ∷ p ∷ p ∷ p ∷ p ∷ p ∷ p ∷ p ∷ p ∷ p ∷ p ∷ p ∷ p ∷ p ∷ p ∷ []

-- the classes that GL alone serves: those of sets 0 and 2, and that of a space
abbrev pub OfGL : ℕ → Type 0
OfGL x = (x < class.free) × (size.gr ≤ get_or places_in_gr x 0)

-- a class whose set has a place in GR alone, and on both sides

abbrev pub InGR : ℕ → ℕ → Type 0
InGR x r = (x < class.space) × (r ≡ get_or places_in_gr x 0) × (r < size.gr) × (size.gl ≤ get_or places_in_gl x 0)

abbrev pub OnBoth : ℕ → ℕ → ℕ → Type 0
OnBoth x l r = (x < class.space) × (l ≡ get_or places_in_gl x 0) × (r ≡ get_or places_in_gr x 0) × (l < size.gl) × (r < size.gr)

-- ---- a unit before the rest

-- the least cost from number k, but for the unit's own octets, of a unit of class x where next has what the rest costs from each number
unfoldable pub least_by : ℕ → List ℕ → ℕ → ℕ
least_by x next k =
    let j = after_choice x k (λ i. get_or next i 0) in
    surcharge x k j + get_or next j 0

-- no cost is more than a designation above that after the first designation or the second, and all are small
pub record Smooth (x : ℕ) (next : List ℕ) : Type 0 where
  pub first_near : (k : ℕ) → k < size.numbers → get_or next k 0 ≤ price_of_class x + get_or next (after_first x k) 0
  pub second_near : (k : ℕ) → k < size.numbers → get_or next k 0 ≤ price_of_class x + get_or next (after_second x k) 0
  pub small : (j : ℕ) → get_or next j 0 ≤ 208

-- what the costs are before which a unit of class x may be put: no two of them, nor of those with it, are far apart
pub record CostsAhead (x : ℕ) (cur : List ℕ) : Type 0 where
  pub class_of : x < class.all
  pub low : get_or cur 1 0 ≤ 200
  pub smooth : (y : ℕ) → y < class.all → Smooth y cur
  pub near : (k m : ℕ) → k < size.numbers → m < size.numbers → least_by x cur k ≤ 8 + least_by x cur m
  pub long : length cur ≡ size.numbers

-- the costs after a unit of class x is put before: the same, or the new ones less r
pub record Turned (last x : ℕ) (before : List ℕ) (r last' : ℕ) (after : List ℕ) : Type 0 where
  pub still : changes last x ≡ false → (r ≡ 0) × (last' ≡ last) × (after ≡ before)
  pub moved : changes last x ≡ true → (last' ≡ x) × ((k : ℕ) → k < size.numbers → r + get_or after k 0 ≡ least_by x before k)
  pub low : get_or after 1 0 ≤ 200
  pub small : r ≤ 128
  pub long : length after ≡ length before
