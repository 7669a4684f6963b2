-- Octets in one word, the first of them lowest.
use Rattle.std.specs.Prelude.{ℕ, zero, suc, ◌+◌, ◌-◌, ◌*◌, ◌/◌, ◌%◌, Bool, false, List, [], ◌∷◌, length, nat_le, nat_lt, slice_index}
use Rattle.base.specs.Choice.{pick}

-- an octet of 21-7E
unfoldable pub graphic : ℕ → Bool
graphic b = pick (nat_le 0x21 b) (nat_le b 0x7E) false

-- how many of the n lowest octets of a word are of 21-7E, up to the first that is not
unfoldable pub led_of : ℕ → ℕ → ℕ
led_of zero w = 0
led_of (suc n) w = pick (graphic (w % 256)) (suc (led_of n (w / 256))) 0

-- octets as one word
unfoldable pub word_of : List ℕ → ℕ
word_of [] = 0
word_of (b ∷ t) = b + 256 * word_of t

-- the eight octets at a place
abbrev pub eight_at : List ℕ → ℕ → List ℕ
eight_at s at =
    slice_index s at ∷ slice_index s (at + 1) ∷ slice_index s (at + 2) ∷ slice_index s (at + 3)
    ∷ slice_index s (at + 4) ∷ slice_index s (at + 5) ∷ slice_index s (at + 6) ∷ slice_index s (at + 7) ∷ []

-- how many of them are of 21-7E, up to the first that is not; none where eight are not left
unfoldable pub leading_of : List ℕ → ℕ → ℕ
leading_of s at = pick (nat_lt (length s) at) 0 (pick (nat_lt (length s - at) 8) 0 (led_of 8 (word_of (eight_at s at))))
