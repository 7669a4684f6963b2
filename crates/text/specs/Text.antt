-- Characters and spaces: functions of a GL or GR octet, of the octets t after it and of the set.
use Rattle.std.specs.Prelude.{ℕ, ◌+◌, ◌*◌, ◌%◌, ◌/◌, Bool, false, List, eqb, leb, ltb}
use Rattle.base.specs.Choice.{pick}
use Rattle.base.specs.Refusal as refusal
use Rattle.base.specs.Kind as kind
use Rattle.state.specs.Elements.{unit, next}
use Rattle.state.specs.Elements.{Shape, Refuses}

-- an octet less its top bit that a set of 94 uses, and either octet of a set of 94 by 94: 21 to 7E (rules E1b, E1c)
unfoldable pub graphic_of : ℕ → Bool
graphic_of c = pick (ltb c 0x21) false (leb c 0x7E)

-- characters of one and of two octets; their codes are made of the octets without the top bits (rule U1)
abbrev pub one_octet_of : ℕ → ℕ → Shape
one_octet_of set b = unit kind.character set (b % 128) 1

abbrev pub two_octets_of : ℕ → ℕ → ℕ → Shape
two_octets_of set b d = unit kind.character set (b % 128 * 256 + d % 128) 2

-- a space, which has neither set nor code (rule U1)
abbrev pub space_of : Shape
space_of = unit kind.space 0 0 1

-- the second octet, on the side of the first; a bad one is refused where it stands (rules E1d, N2)
unfoldable pub second_octet_of : ℕ → ℕ → List ℕ → Shape
second_octet_of set b t =
    next 1 t
    (λ d _.
    pick (eqb (d / 128) (b / 128)) (pick (graphic_of (d % 128)) (two_octets_of set b d) (Refuses refusal.unused 1)) (Refuses refusal.unused 1))
