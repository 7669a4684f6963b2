-- The direction rule, unit by unit (rules E5 to E9, E12).
use Rattle.std.specs.Prelude.{ℕ, ◌+◌, ◌*◌, ◌%◌, ◌/◌, ◌-◌, ◌^◌, Bool, true, false, ◌||◌, ◌&&◌, eqb, ltb, Result, Ok, Err}
use Rattle.base.specs.Choice.{pick}
use Rattle.base.specs.Refusal as refusal
use Rattle.base.specs.declared.refusal.Refusal.{Refusal}
use Rattle.base.specs.Kind as kind
use Rattle.base.specs.Limit as limit
use Rattle.base.specs.Direction as direction
use Rattle.state.specs.declared.directions.Directions.{Directions}

-- what a unit does to the directions, or the number of its refusal
pub data Step : Type 0 where
  Goes : Directions → Step
  Stops : ℕ → Step

-- a step as the code answers it, where each reason has a number
abbrev pub step_by : {R : Type 0} → (R → ℕ) → Result Directions R → Step
step_by number (Ok d) = Goes d
step_by number (Err r) = Stops (number r)

-- and where the reason is a refusal
abbrev pub step_seen : Result Directions Refusal → Step
step_seen = step_by refusal.number_of

-- how many directions are open; their ways, a binary digit for each, the last opened lowest; whether a mark was read, and whether text
abbrev pub directions : ℕ → ℕ → Bool → Bool → Directions
directions depth levels marked texted = record { depth = depth; levels = levels; marked = marked; texted = texted }

-- the directions of the fresh state (rule S2)
abbrev pub undirected : Directions
undirected = directions 0 0 false false

-- what counts as text, by a unit's kind and the octets of an extended segment's text: a character, a space, and a segment whose text is not
-- empty (rule E9). So request No. 2 has it, in the place of document 01's exception, by which no segment counted
abbrev pub counts_as_text : ℕ → ℕ → Bool
counts_as_text k text = ltb k kind.tab || (eqb k kind.segment && ltb 0 text)

-- text: where a mark was read a direction has to be open (rule E7)
unfoldable pub written_of : Directions → Step
written_of d =
    let next = directions d.depth d.levels d.marked true in
    pick d.marked (pick (eqb d.depth 0) (Stops refusal.direction) (Goes next)) (Goes next)

-- one more direction, 0 left-to-right and 1 right-to-left, up to the limit (rule E8)
unfoldable pub deeper_of : ℕ → Directions → Step
deeper_of way d =
    pick (ltb d.depth limit.depth)
    (Goes (directions (d.depth + 1) (d.levels % 2 ^ 63 * 2 + way % 2) true d.texted))
    (Stops refusal.too_deep)

-- a mark that begins a direction: no text may stand before the first of all marks (rule E6)
unfoldable pub begun_of : ℕ → Directions → Step
begun_of way d = pick d.marked (deeper_of way d) (pick d.texted (Stops refusal.direction) (deeper_of way d))

-- a mark that reverts: a direction has to be open (rule E5)
unfoldable pub reverted_of : Directions → Step
reverted_of d =
    pick (eqb d.depth 0) (Stops refusal.direction) (Goes (directions (d.depth - 1) (d.levels / 2) true d.texted))

-- a unit of a kind; text says whether it counts as text
unfoldable pub step_of : Bool → ℕ → Directions → Step
step_of text k d =
    pick text (written_of d)
    (pick (eqb k kind.left_to_right) (begun_of 0 d)
    (pick (eqb k kind.right_to_left) (begun_of 1 d) (pick (eqb k kind.revert) (reverted_of d) (Goes d))))

-- the direction in force: that of the last opened that is open
unfoldable pub in_force_of : Directions → ℕ
in_force_of d =
    pick (eqb d.depth 0) direction.none (pick (eqb (d.levels % 2) 0) direction.left_to_right direction.right_to_left)
