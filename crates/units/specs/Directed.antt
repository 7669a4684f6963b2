-- What the direction and the depth of a record are (rule U10), said twice without the state that a reader keeps: over the list of the open directions
-- (`Directed`), and of each record by the one before it (`Follows`). Of one unit from any state both are said by `Between`. That the records of every
-- string are so, and the next unit from any state, is proved in proofs/Directed.
use Rattle.std.specs.Prelude.{ℕ, zero, suc, ◌+◌, ◌≤◌, ◌%◌, ◌/◌, ◌≡◌, Bool, false, cond, ◌||◌, List, [], ◌∷◌, ◌↔◌, eqb, length, drop}
use Rattle.base.specs.Direction as direction
use Rattle.base.specs.Kind as kind
use Rattle.base.specs.declared.Unit.{Unit as UnitRecord}
use Rattle.state.specs.Directions.{in_force_of}
use Rattle.state.specs.declared.directions.Directions.{Directions}

-- ---- by the list of the open directions

-- the directions that are open after a unit, by its kind and those that were open before it, the last begun first: a mark that begins a direction
-- puts it in front, a revert takes the first off, and any other unit leaves them (rule U10)
unfoldable pub open_after : ℕ → List ℕ → List ℕ
open_after k ds =
    cond (eqb k kind.left_to_right) (direction.left_to_right ∷ ds)
    (cond (eqb k kind.right_to_left) (direction.right_to_left ∷ ds) (cond (eqb k kind.revert) (drop 1 ds) ds))

-- the direction in force: the one in front, or none where no direction is open (rules R3, U10)
unfoldable pub in_front : List ℕ → ℕ
in_front [] = direction.none
in_front (d ∷ ds) = d

-- records of units that follow one another where the directions ds are open before the first: each has the direction in force after its unit and the
-- number of those then open (rule U10)
pub data Directed : List ℕ → List UnitRecord → Type 0 where
  none_left : {ds : List ℕ} → Directed ds []
  one_more : {ds : List ℕ} {r : UnitRecord} {rs : List UnitRecord}
      → r.direction ≡ in_front (open_after r.kind ds) → r.depth ≡ length (open_after r.kind ds)
      → Directed (open_after r.kind ds) rs → Directed ds (r ∷ rs)

-- ---- by the record before

-- the kinds of the direction marks: two begin a direction, one reverts (rule E1i)
abbrev pub is_mark : ℕ → Bool
is_mark k = eqb k kind.left_to_right || (eqb k kind.right_to_left || eqb k kind.revert)

-- a record after a unit that left a direction in force and so many open: the depth differs by at most 1, and only marks change either (rule U10)
pub record Follows (force depth : ℕ) (r : UnitRecord) : Type 0 where
  -- no more than one more, and no more than one less
  pub rises : r.depth ≤ depth + 1
  pub falls : depth ≤ r.depth + 1
  -- what is no mark keeps both
  pub keeps : is_mark r.kind ≡ false → (r.direction ≡ force) × (r.depth ≡ depth)
  -- a mark that begins a direction puts it in force and opens one more
  pub left : r.kind ≡ kind.left_to_right → (r.direction ≡ direction.left_to_right) × (r.depth ≡ depth + 1)
  pub right : r.kind ≡ kind.right_to_left → (r.direction ≡ direction.right_to_left) × (r.depth ≡ depth + 1)
  -- a revert closes one
  pub reverts : r.kind ≡ kind.revert → r.depth + 1 ≡ depth
  -- there is no direction in force exactly where none is open
  pub none : (r.direction ≡ direction.none) ↔ (r.depth ≡ 0)

-- records one after another, each after the one before it (rule U10)
pub data AllFollow : ℕ → ℕ → List UnitRecord → Type 0 where
  none_follows : {force depth : ℕ} → AllFollow force depth []
  one_follows : {force depth : ℕ} {r : UnitRecord} {rs : List UnitRecord} → Follows force depth r → AllFollow r.direction r.depth rs
      → AllFollow force depth (r ∷ rs)

-- ---- from any state

-- the direction that a binary digit of a state's levels stands for (rules E12, U10)
abbrev pub of_digit : ℕ → ℕ
of_digit b = cond (eqb b 0) direction.left_to_right direction.right_to_left

-- the open directions that a depth and levels stand for, the last begun first: as many as the depth says, each by a digit of the levels, from the lowest
-- on (rules E12, U10)
unfoldable pub open_in : ℕ → ℕ → List ℕ
open_in zero levels = []
open_in (suc n) levels = of_digit (levels % 2) ∷ open_in n (levels / 2)

-- those of a state (rule U10)
abbrev pub open_of : Directions → List ℕ
open_of d = open_in d.depth d.levels

-- the record of a unit between the directions before and after it, which may be any, as those that a reader made by hand holds (rule U9): it
-- follows those before; it has the direction in force and the depth of those after; and open after it are the directions that its kind says
-- (rule U10)
pub record Between (before after : Directions) (r : UnitRecord) : Type 0 where
  pub follows : Follows (in_force_of before) before.depth r
  pub force : r.direction ≡ in_force_of after
  pub count : r.depth ≡ after.depth
  pub opened : open_of after ≡ open_after r.kind (open_of before)
