-- The quick check of a record, as the program makes it: a character or space that changes nothing in the directions. What it says is not
-- to be believed: that such a record is refused for nothing is proved (Quick in proofs).
use Rattle.std.specs.Prelude.{ℕ, ◌+◌, ◌-◌, ◌*◌, ◌/◌, ◌%◌, Bool, false, eqb, leb, ltb}
use Rattle.base.specs.Choice.{pick}
use Rattle.base.specs.Kind as kind
use Rattle.base.specs.declared.Unit.{Unit as UnitRecord}
use Rattle.charset.specs.Charsets.{no_set}
use Rattle.state.specs.declared.directions.Directions.{Directions}

-- 1 for a set of 94 by 94, and for one of 96
abbrev pub is_double : ℕ → ℕ
is_double c = (c + 4) / 16

abbrev pub wider : ℕ → ℕ
wider c = (c + 13) / 16 - is_double c

-- the octets of a code, each from its lowest on, round the 256
abbrev pub low_from : ℕ → ℕ → ℕ
low_from c k = (k % 256 + 223 + wider c) % 256

abbrev pub high_from : ℕ → ℕ → ℕ
high_from c k = (k / 256 + 256 - 0x21 * is_double c) % 256

-- both octets of a code of 16 bits lie in their bounds
unfoldable pub used_by : ℕ → ℕ → Bool
used_by c k =
    pick (leb 0x10000 k) false
    (pick (leb no_set c) false (pick (ltb (0x5D + 2 * wider c) (low_from c k)) false (leb (high_from c k) (0x5D * is_double c))))

-- a space is looked at as the first character of set 0
unfoldable pub set_by : ℕ → ℕ → ℕ
set_by k c = pick (eqb k kind.space) 0 c

unfoldable pub code_by : ℕ → ℕ → ℕ
code_by k n = pick (eqb k kind.space) 0x21 n

unfoldable pub plain_of : UnitRecord → Bool
plain_of r = pick (leb r.kind kind.space) (used_by (set_by r.kind r.set) (code_by r.kind r.code)) false

-- no mark was read, and text was
unfoldable pub settled_by_text : Directions → Bool
settled_by_text d = pick d.marked false d.texted
