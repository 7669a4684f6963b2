-- A table of costs, five rows by 16 columns, and lists of costs: what is stored in them, and what is read of them.
use Rattle.std.specs.Prelude.{ℕ, ◌+◌, ◌*◌, ◌%◌, ◌≤◌, ◌<◌, min, ◌≡◌, cond, List, [], ◌∷◌, ◌⊎◌, eqb, length, get_or}
use Rattle.numbers.specs.Numbers.{after_first, after_second, second_slot}
use Rattle.numbers.specs.Class as class
use Rattle.numbers.specs.Size as size
use Rattle.rows.specs.Layout as layout

-- the first m of the places that `place` gives hold the numbers that f gives, and all other places what they held
pub record FilledTo (place f : ℕ → ℕ) (m : ℕ) (before after : List ℕ) : Type 0 where
  pub there : (r : ℕ) → r < m → get_or after (place r) 0 ≡ f r
  pub kept : (p : ℕ) → ((r : ℕ) → r < m → p ≡ place r → ⊥) → get_or after p 0 ≡ get_or before p 0
  pub long : length after ≡ length before

-- the places from a place on
abbrev pub PlacesFilled : (ℕ → ℕ) → ℕ → ℕ → List ℕ → List ℕ → Type 0
PlacesFilled f at = FilledTo (λ r. at + r) f

-- those of column r, by row, in a table of five rows by 16
abbrev pub ColumnFilled : (ℕ → ℕ) → ℕ → ℕ → List ℕ → List ℕ → Type 0
ColumnFilled f r = FilledTo (λ g. size.columns * g + r) f

-- the first m columns of such a table hold the numbers that f gives by row and column
pub record Columns (f : ℕ → ℕ → ℕ) (m : ℕ) (table : List ℕ) : Type 0 where
  pub there : (g r : ℕ) → g < size.gl → r < m → get_or table (size.columns * g + r) 0 ≡ f g r
  pub long : length table ≡ size.numbers

-- the same where the other columns hold what they held
pub record Swept (f : ℕ → ℕ → ℕ) (m : ℕ) (before after : List ℕ) : Type 0 where
  pub there : (g r : ℕ) → g < size.gl → r < m → get_or after (size.columns * g + r) 0 ≡ f g r
  pub kept : (g r : ℕ) → m ≤ r → r < size.columns → get_or after (size.columns * g + r) 0 ≡ get_or before (size.columns * g + r) 0
  pub long : length after ≡ length before

-- 16 costs from a place on and a surcharge, whose sums each fit an octet
pub record SumFits (costs : List ℕ) (at added : ℕ) : Type 0 where
  pub inside : at + size.columns ≤ length costs
  pub sums : (r : ℕ) → r < size.columns → get_or costs (at + r) 0 + added ≤ 255

-- the same with each of five surcharges
abbrev pub SumsFit : List ℕ → ℕ → List ℕ → Type 0
SumsFit costs at added = (g : ℕ) → g < size.gl → SumFits costs at (get_or added g 0)

-- five surcharges: a designation's price in each row, but nothing in the row of a place
pub record Charges (price place : ℕ) (added : List ℕ) : Type 0 where
  pub five : length added ≡ size.gl
  pub each : (g : ℕ) → g < size.gl → get_or added g 0 ≡ cond (eqb g place) 0 price

-- the costs of the five rows in a column
pub record ColumnRead (costs : List ℕ) (r : ℕ) (added : List ℕ) : Type 0 where
  pub five : length added ≡ size.gl
  pub each : (g : ℕ) → g < size.gl → get_or added g 0 ≡ get_or costs (size.columns * g + r) 0

-- 16 costs from a place on
pub record RowRead (costs : List ℕ) (from : ℕ) (row : List ℕ) : Type 0 where
  pub sixteen : length row ≡ size.columns
  pub each : (r : ℕ) → r < size.columns → get_or row r 0 ≡ get_or costs (from + r) 0

-- a column before a unit that GL alone serves, from the costs a and b with sets 0 and 2 in GL, and from what each costs more
abbrev pub from_gl : ℕ → ℕ → ℕ → ℕ → ℕ → List ℕ
from_gl a p b q price =
    let other = min (a + p) (b + q) + price in
    min (a + p) (b + price) ∷ min (b + q) (a + price) ∷ other ∷ other ∷ other ∷ []

-- ---- what a row of the work room keeps

-- the classes that have two designations to choose from
abbrev pub TwoStandings : ℕ → Type 0
TwoStandings x = (class.double ≤ x) × (x < class.free)

-- the row that starts at a place keeps the costs that the choice of a unit of class x compares
pub record RowKept (x : ℕ) (costs before : List ℕ) (row : ℕ) (after : List ℕ) : Type 0 where
  pub first_cost : TwoStandings x → (k : ℕ) → k < size.numbers → get_or after (row + k % size.columns) 0 ≡ get_or costs (after_first x k) 0
  pub second_cost : TwoStandings x → (k : ℕ) → k < size.numbers → get_or after (row + second_slot x k) 0 ≡ get_or costs (after_second x k) 0
  pub kept : (p : ℕ) → (p < row) ⊎ (row + layout.tag ≤ p) → get_or after p 0 ≡ get_or before p 0
  pub long : length after ≡ length before

-- the same where the room has that row, and else nothing is kept
pub record Kept (x : ℕ) (costs before : List ℕ) (row : ℕ) (after : List ℕ) : Type 0 where
  pub there : row + layout.tag ≤ length before → RowKept x costs before row after
  pub none : length before < row + layout.tag → after ≡ before
