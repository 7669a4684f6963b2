-- What the plan computes: the octets of the rows' units, the least cost of the rows from one on, and what the rows keep of it.
use Rattle.std.specs.Prelude.{ℕ, suc, ◌+◌, ◌-◌, ◌*◌, ◌%◌, ◌≤◌, ◌<◌, ◌≡◌, List, length, get_or}
use Rattle.state.specs.declared.Sets.{Sets}
use Rattle.rows.specs.Rows.{tag_at, units_in, size_of, part_from}
use Rattle.shortest.specs.Writing.{cost}
use Rattle.numbers.specs.Numbers.{numbered, class_of, after_first, after_second, second_slot}
use Rattle.table.specs.Table.{TwoStandings}
use Rattle.numbers.specs.Size as size
use Rattle.rows.specs.Layout as layout

-- ---- the units of the rows

-- the octets of the unit of row i
abbrev pub size_at : List ℕ → List ℕ → ℕ → ℕ
size_at o w i = size_of (tag_at w i) (part_from (length o) w (layout.row * i))

-- the least cost of the units of rows i to n
abbrev pub rest_from : List ℕ → List ℕ → ℕ → ℕ → Sets → ℕ
rest_from o w n i = cost (units_in o w i (n - i))

-- ---- what the rows keep

-- row j keeps what the rest costs, less a base, after the first designation and after the second
pub record CostsKept (o before : List ℕ) (n j : ℕ) (after : List ℕ) : Type 0 where
  pub base : ℕ
  pub first_cost : (k : ℕ) → k < size.numbers
      → base + get_or after (layout.row * j + k % size.columns) 0 ≡ rest_from o before n (suc j) (numbered (after_first (class_of (tag_at before j)) k))
  pub second_cost : (k : ℕ) → k < size.numbers
      → base + get_or after (layout.row * j + second_slot (class_of (tag_at before j)) k) 0
      ≡ rest_from o before n (suc j) (numbered (after_second (class_of (tag_at before j)) k))

-- rows i to n keep what their choice compares, and all rows hold the units that they held
pub record Planned (o before : List ℕ) (n i : ℕ) (after : List ℕ) : Type 0 where
  pub costs : (j : ℕ) → i ≤ j → j < n → TwoStandings (class_of (tag_at before j)) → CostsKept o before n j after
  pub kept : (j q : ℕ) → layout.tag ≤ q → q < layout.row → get_or after (layout.row * j + q) 0 ≡ get_or before (layout.row * j + q) 0
  pub long : length after ≡ length before
