-- A row of the work room: its octets, and the places in it where the seven of a unit stand. Those before are left to the plan.
use Rattle.std.specs.Prelude.{ℕ}

abbrev pub row : ℕ
row = 72

-- the unit's tag
abbrev pub tag : ℕ
tag = 65

-- the code of a character, or the n of a segment: the higher octet and the lower
abbrev pub high : ℕ
high = 66

abbrev pub low : ℕ
low = 67

-- where a segment's octets start: four octets, the highest first
abbrev pub start : ℕ
start = 68
