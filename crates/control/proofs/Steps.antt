-- The ladder's rules for a designation: its final octet, and the octets after its first intermediate.
use Prim.Native.Nat.{ℕ, ◌+◌, ◌<◌, ◌≤◌}
use mathlib.Core.Path.{◌≡◌, refl}
use mathlib.Core.List.{List, [], ◌∷◌}
use lib.ListN.{length, get_or}
use Rattle.base.specs.Choice.{from}
use Rattle.base.specs.Refusal as refusal
use Rattle.charset.specs.Charsets.{no_set, set_of}
use Rattle.charset.specs.declared.Side.{Side}
use Rattle.base.proofs.Ladder.{octet, ended, on_lt, on_ge}
use Rattle.state.proofs.Steps.{steps}
use Rattle.state.specs.Elements.{Shape, Refuses, Designates}
use Rattle.control.specs.Escape.{intermediates_of, designates_of, final_of}

module _ (s : List ℕ) (at k : ℕ) (r : Shape) where
  pub on_intermediate : at < length s → r ≡ intermediates_of k (get_or s at 0 ∷ from (at + 1) s) → r ≡ intermediates_of k (from at s)
  on_intermediate h e = octet (intermediates_of k) s at r h e

  pub on_intermediates_end : length s ≤ at → r ≡ intermediates_of k [] → r ≡ intermediates_of k (from at s)
  on_intermediates_end h e = ended (intermediates_of k) s at r h e

-- a final octet, whose set was looked up
module _ (k : ℕ) (form : ℕ) (side : Side) (last set : ℕ) (is : set ≡ set_of form side last) where
  pub on_final : set < no_set → Designates (k + 1) side set ≡ final_of k form side last
  unfolding designates_of
  on_final h = rw (← is) (on_lt set no_set _ _ _ h refl)

  pub on_no_final : no_set ≤ set → Refuses refusal.not_approved k ≡ final_of k form side last
  unfolding designates_of
  on_no_final h = rw (← is) (on_ge set no_set _ _ _ h refl)

pub ruleset passing = (on_intermediate, on_intermediates_end, steps)
