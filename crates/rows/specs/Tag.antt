-- The tags of units. Below `space` a character of the set of that number.
use Rattle.std.specs.Prelude.{ℕ}
use Rattle.charset.specs.Charsets.{first_double}

-- the first set of two octets
abbrev pub double : ℕ
double = first_double

abbrev pub space : ℕ
space = 15

abbrev pub tab : ℕ
tab = 16

abbrev pub newline : ℕ
newline = 17

abbrev pub left_to_right : ℕ
left_to_right = 18

abbrev pub right_to_left : ℕ
right_to_left = 19

abbrev pub revert : ℕ
revert = 20

-- an extended segment with d of 30 hexadecimal; the next four are those of 31 to 34
abbrev pub segment : ℕ
segment = 21

-- no unit's tag, and any above; it stands for a revert
abbrev pub spare : ℕ
spare = 26

-- d less the tag of its segment
abbrev pub d : ℕ
d = 27

-- the tag of a unit of kinds 1 to 6, less its kind
abbrev pub kind : ℕ
kind = 14
