-- The ladder's rules for the next octet of an element: there is one, or the string ends there and the element is refused as cut.
use Prim.Native.Nat.{ℕ, ◌+◌, ◌<◌, ◌≤◌}
use mathlib.Core.Path.{◌≡◌, ◌∙◌, ap}
use mathlib.Core.List.{List}
use lib.ListN.{length, get_or}
use Rattle.base.specs.Choice.{from}
use Rattle.base.specs.Refusal as refusal
use Rattle.base.proofs.Ladder.{octet, ended, ladder}
use Rattle.state.specs.Elements.{next}
use Rattle.state.specs.Elements.{Shape, Refuses}

module _ (s : List ℕ) (at k : ℕ) (f : ℕ → List ℕ → Shape) (r : Shape) where
  pub on_next : at < length s → r ≡ f (get_or s at 0) (from (at + 1) s) → r ≡ next k (from at s) f
  unfolding next
  on_next h e = octet (λ (t : List ℕ). next k t f) s at r h e

  pub on_end : length s ≤ at → r ≡ Refuses refusal.cut k → r ≡ next k (from at s) f
  unfolding next
  on_end h e = ended (λ (t : List ℕ). next k t f) s at r h e

  -- where the octet was asked for by `octet_after`
  pub on_octet : (b : ℕ) → at < length s → b ≡ get_or s at 0 → r ≡ f b (from (at + 1) s) → r ≡ next k (from at s) f
  on_octet b h is e = on_next h (e ∙ ap (λ (x : ℕ). f x (from (at + 1) s)) is)

pub ruleset steps = (on_next, on_end, on_octet, ladder)
