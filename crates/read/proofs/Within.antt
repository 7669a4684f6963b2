-- The octets of the unit after j units of a span that fits are in the string.
use Rattle.element.proofs.Names.{ℕ, ◌+◌, ◌*◌, ◌<◌, arith, ◌≡◌, List, length}
use Rattle.spans.specs.Spans.{ones, Fits}
use Rattle.spans.specs.declared.Span.{Span}

module _ {s : List ℕ} {r : Span} {j : ℕ} where
  pub one_within : Fits s r × (j < r.most) → r.form ≡ ones → r.cursor.place + j < length s
  one_within (h, k) e = omega (arith, h.of_ones e)

  pub two_within : Fits s r × (j < r.most) → ones < r.form → r.cursor.place + 2 * j + 1 < length s
  two_within (h, k) e = omega (arith, h.of_twos e)
