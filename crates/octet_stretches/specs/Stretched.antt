-- Stretches by the entries of any row: what may be passed at once by which entries. How far a stretch goes is left to the program. What the entries
-- mean is said where the row is one of the table's (`stretch-leaves` in archive_laws/proofs/Passes), so that nothing here has to be believed.
use Rattle.std.specs.Prelude.{ℕ, ◌+◌, ◌-◌, ◌*◌, ◌≤◌, ◌<◌, ◌≡◌, List, length, get_or}
use Rattle.octet_blocks.specs.Blocks.{Within}

-- the octet at a place has the entry k
pub record Entry (row s : List ℕ) (at k : ℕ) : Type 0 where
  pub inside : at < length s
  pub octet : get_or s at 0 < 256
  pub is : k ≡ get_or row (get_or s at 0) 0

-- the same of any place and any row: an unused octet's class where there is no such octet, or no such row
pub record ClassAt (row s : List ℕ) (at k : ℕ) : Type 0 where
  pub entry : 256 ≤ length row → at < length s → Entry row s at k
  pub short : length row < 256 → k ≡ 9
  pub past : length s ≤ at → k ≡ 9

-- only octets whose entries are classes of one octet stand from a place to another
pub record Ones (row s : List ℕ) (at i : ℕ) : Type 0 where
  pub since : at ≤ i
  pub within : at ≤ length s → i ≤ length s
  pub each : (j : ℕ) → at ≤ j → j < i → (get_or s j 0 < 256) × (get_or row (get_or s j 0) 0 ≤ 4)

-- from a place to another stand so many units: of one octet, by the entry of each or by the span of the first one's class; of two, by the entries of
-- both or by the span
pub data Stretched (row s : List ℕ) : ℕ → ℕ → ℕ → Type 0 where
  none : {at : ℕ} → Stretched row s at at 0
  more : {at i j n m : ℕ} → Stretched row s at i n → Stretched row s i j m → Stretched row s at j (n + m)
  ones : {at i : ℕ} → Ones row s at i → Stretched row s at i (i - at)
  ones_left : {at i k : ℕ} → k ≤ 1 → Entry row s at k → Within 0x20 0x7E s at i → Stretched row s at i (i - at)
  ones_94 : {at i : ℕ} → Entry row s at 4 → Within 0xA1 0xFE s at i → Stretched row s at i (i - at)
  ones_96 : {at i : ℕ} → Entry row s at 4 → get_or row 0xA0 0 ≡ 4 → Within 0xA0 0xFF s at i → Stretched row s at i (i - at)
  two : {at k : ℕ} → 5 ≤ k → k ≤ 6 → Entry row s at k → Entry row s (at + 1) k → Stretched row s at (at + 2) 1
  twos_left : {at n : ℕ} → Entry row s at 5 → Within 0x21 0x7E s at (at + 2 * n) → Stretched row s at (at + 2 * n) n
  twos_right : {at n : ℕ} → Entry row s at 6 → Within 0xA1 0xFE s at (at + 2 * n) → Stretched row s at (at + 2 * n) n
