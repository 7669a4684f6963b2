-- The octets at which a quick look at a string stops. Nothing has to be believed of it: where it finds none before the 00, the string has nothing
-- that X11R5 does not have (`clean` in x11r5/proofs/Clean).
use Rattle.std.specs.Prelude.{ℕ, ◌+◌, ◌*◌, ◌≤◌, ◌<◌, ◌≡◌, List, eqb, length, get_or}
use Rattle.base.specs.Choice.{pick}

-- 1 for an octet that is another
unfoldable pub is_of : ℕ → ℕ → ℕ
is_of b x = pick (eqb b x) 1 0

-- 1 for a 00, a 9B, and a 1B that 25 follows
unfoldable pub stop_by : ℕ → ℕ → ℕ
stop_by b next = is_of b 0x00 + is_of b 0x9B + is_of b 0x1B * is_of next 0x25

-- of the octet at a place
abbrev pub stop_at : List ℕ → ℕ → ℕ
stop_at s i = stop_by (get_or s i 0) (get_or s (i + 1) 0)

-- there is none from a place to another
pub record Free (s : List ℕ) (at i : ℕ) : Type 0 where
  pub since : at ≤ i
  pub within : i ≤ length s
  pub each : (j : ℕ) → at ≤ j → j < i → stop_at s j ≡ 0

-- the first one, or the string's end
pub record FirstStop (s : List ℕ) (i : ℕ) : Type 0 where
  pub free : Free s 0 i
  pub stops : i < length s → stop_at s i ≡ 1

-- the first 00 from a place on, or the string's end
pub record FirstNull (s : List ℕ) (at i : ℕ) : Type 0 where
  pub since : at ≤ i
  pub within : i ≤ length s
  pub each : (j : ℕ) → at ≤ j → j < i → get_or s j 0 ≡ 0 → ⊥
  pub null : i < length s → get_or s i 0 ≡ 0
