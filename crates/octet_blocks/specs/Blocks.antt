-- Octets of a span in a string.
use Rattle.std.specs.Prelude.{ℕ, ◌<◌, ◌≤◌, List, length, nat_lt, slice_index}
use Rattle.base.specs.Choice.{pick}

-- an octet that is not of a span
unfoldable pub outside_of : ℕ → ℕ → ℕ → ℕ
outside_of first last b = pick (nat_lt b first) 1 (pick (nat_lt last b) 1 0)

-- only octets of a span stand from a place to another
pub record Within (first last : ℕ) (s : List ℕ) (at i : ℕ) : Type 0 where
  pub since : at ≤ i
  pub within : i ≤ length s
  pub each : (j : ℕ) → at ≤ j → j < i → (first ≤ slice_index s j) × (slice_index s j ≤ last)
