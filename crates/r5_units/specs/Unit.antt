-- One record as the program looks at it: its refusal, its set and code, and its octets. These serve the code alone: that the octets are those of
-- `home_octets` where the record is refused for nothing is proved (Homes in r5_write/proofs).
use Rattle.std.specs.Prelude.{ℕ, ◌+◌, ◌/◌, ◌%◌, Bool, true, false, List, [], ◌∷◌, eqb, leb, ltb, length}
use Rattle.std.proofs.lemmas.List.Edits.{sets}
use Rattle.base.specs.Choice.{pick}
use Rattle.base.specs.Kind as kind
use Rattle.base.specs.Refusal as refusal
use Rattle.base.specs.declared.Unit.{Unit as UnitRecord}
use Rattle.charset.specs.Charsets.{first_double, allowed}
use Rattle.charset.specs.declared.Side.TheVariants.{GL}
use Rattle.grammar.specs.Units.{top, designation}
use Rattle.state.specs.State.{on}
use Rattle.state.specs.Directions.{Step, Goes, Stops}
use Rattle.unit_octets.specs.Octets.{side_of}

-- ---- its refusal, by its kind and by what the base writer does of it where no direction is open

unfoldable pub refusal_by_kind : ℕ → ℕ
refusal_by_kind k = pick (ltb k kind.left_to_right) refusal.accepted refusal.unsupported

unfoldable pub refusal_by : Step → ℕ → ℕ
refusal_by (Goes d) k = refusal_by_kind k
refusal_by (Stops n) k = pick (eqb n refusal.bad_unit) refusal.bad_unit (refusal_by_kind k)

-- ---- a character, or a space, which is looked at as one: its set, where gl is the set in GL, and its code

unfoldable pub space_set : ℕ → ℕ
space_set gl = pick (eqb gl 2) 2 0

unfoldable pub text_set : UnitRecord → ℕ → ℕ
text_set r gl = pick (eqb r.kind kind.space) (space_set gl) r.set

unfoldable pub text_code : UnitRecord → ℕ
text_code r = pick (eqb r.kind kind.space) 0x20 r.code

-- a quick check: a space, or a character of one octet with a code that sets of 94 and of 96 use
unfoldable pub single_of : UnitRecord → Bool
single_of r =
    pick (ltb kind.space r.kind) false
    (pick (leb first_double (text_set r 0)) false
    (pick (ltb (text_code r + r.kind) 0x21) false (leb (text_code r + r.kind) 0x7E)))

-- whether its set stands, on a side
unfoldable pub stands_on : ℕ → ℕ → ℕ → Bool
stands_on c gl gr = pick (eqb gl c) true (eqb gr c)

-- ---- octets

abbrev pub half : Bool → ℕ → ℕ
half left b = top (side_of left) + b % 128

-- of a character on a side, of a tab or newline
unfoldable pub text_octets : ℕ → ℕ → Bool → List ℕ
text_octets c k left = pick (leb first_double c) (half left (k / 256) ∷ half left (k % 256) ∷ []) (half left (k % 256) ∷ [])

unfoldable pub control_octet : ℕ → ℕ
control_octet k = pick (eqb k kind.tab) 0x09 0x0A

-- of a designation, in GL where the set may stand there
abbrev pub is_left : ℕ → Bool
is_left c = allowed GL c

abbrev pub naming : ℕ → List ℕ
naming c = designation (on (side_of (is_left c)) c)

-- how many a character has, and how many with the designation of its set
unfoldable pub width_of : ℕ → ℕ
width_of c = pick (leb first_double c) 2 1

unfoldable pub designated_width : ℕ → ℕ
designated_width c = pick (leb first_double c) 6 4

-- ---- octets stored from a place on where they have room: the next place in an output of m octets, and the output

unfoldable pub stored_to : ℕ → List ℕ → ℕ → ℕ
stored_to at xs m = pick (leb (at + length xs) m) (at + length xs) at

unfoldable pub stored_over : List ℕ → ℕ → List ℕ → List ℕ
stored_over l at xs = pick (leb (at + length xs) (length l)) (sets l at xs) l
