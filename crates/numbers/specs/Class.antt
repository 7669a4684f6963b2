-- The classes of units by what they need: below `space` a character of the set of that number.
use Rattle.std.specs.Prelude.{ℕ}
use Rattle.charset.specs.Charsets.{first_double}

-- the first set of two octets
abbrev pub double : ℕ
double = first_double

abbrev pub space : ℕ
space = 15

-- a unit that needs no set
abbrev pub free : ℕ
free = 16

-- how many there are
abbrev pub all : ℕ
all = 17
