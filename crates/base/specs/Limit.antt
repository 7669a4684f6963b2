-- The limits: octets of a string, units of a list, directions open at once, octets of a resource form (rules J1, J2, J3, J4).
use Rattle.std.specs.Prelude.{ℕ}

abbrev pub octets : ℕ
octets = 65535

abbrev pub units : ℕ
units = 65535

abbrev pub depth : ℕ
depth = 16

abbrev pub form : ℕ
form = 262140
