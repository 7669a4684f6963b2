-- Units of one form, one after another. Nothing has to be believed of them: that they are the units that `advance` gives one by one is proved
-- (`span_turns`).
use Rattle.std.specs.Prelude.{ℕ, ◌+◌, ◌-◌, ◌*◌, ◌/◌, ◌≤◌, ◌<◌, Bool, true, false, ◌≡◌, List, eqb, leb, ltb, length, get_or}
use Rattle.base.specs.Choice.{pick}
use Rattle.base.specs.declared.Unit.{Unit as UnitRecord}
use Rattle.charset.specs.Charsets.{no_set, first_double}
use Rattle.state.specs.Directions.{in_force_of}
use Rattle.state.specs.declared.Sets.{Sets}
use Rattle.units.specs.Records.{blank}
use Rattle.cursor.specs.Cursor.{placed_at, state_in, set_at, one_of, two_of, advance_of}
use Rattle.cursor.specs.declared.Cursor.{Cursor}
use Rattle.spans.specs.declared.Span.{Span}

-- ---- the forms: any one unit, units of one octet, characters of two octets in GL, and in GR

abbrev pub any : ℕ
any = 0

abbrev pub ones : ℕ
ones = 1

abbrev pub left_twos : ℕ
left_twos = 2

abbrev pub right_twos : ℕ
right_twos = 3

-- ---- what an octet begins

-- a tab, a newline, a space, or a character of one octet
unfoldable pub single_under : ℕ → Sets → Bool
single_under b s =
    pick (ltb b 0x20) (pick (ltb b 0x09) false (leb b 0x0A))
    (pick (ltb b 0x7F) (ltb s.gl first_double) (pick (ltb b 0xA0) false (ltb s.gr first_double)))

-- the first octet of a character of two in GL
unfoldable pub left_first : ℕ → Bool
left_first b = pick (leb b 0x20) false (ltb b 0x7F)

-- a set of two octets
unfoldable pub has_two : ℕ → Bool
has_two set = pick (ltb set first_double) false (ltb set no_set)

unfoldable pub form_at : ℕ → Sets → ℕ
form_at b s =
    pick (single_under b s) ones
    (pick (left_first b) (pick (has_two s.gl) left_twos any)
    (pick (ltb b 0xA0) any (pick (has_two s.gr) right_twos any)))

-- ---- the span at a cursor

unfoldable pub lesser_of : ℕ → ℕ → ℕ
lesser_of m n = pick (ltb m n) m n

abbrev pub any_of : List ℕ → Cursor → Span
any_of s c = record { cursor = (advance_of s c).cursor; most = 1; unit = (advance_of s c).unit; form = any }

abbrev pub of_form : Cursor → ℕ → ℕ → Span
of_form c form most = record { cursor = c; most = most; unit = blank; form = form }

-- by the form of its first unit, where so many octets are left
unfoldable pub by_form : List ℕ → Cursor → ℕ → ℕ → ℕ → Span
by_form s c n form octets =
    pick (eqb form any) (any_of s c)
    (pick (eqb form ones) (of_form c form (lesser_of octets n))
    (pick (ltb octets 2) (any_of s c) (of_form c form (lesser_of (octets / 2) n))))

unfoldable pub span_of : List ℕ → Cursor → ℕ → Span
span_of s c n =
    pick (leb (length s) c.place) (any_of s c)
    (by_form s c n (form_at (get_or s c.place 0) (state_in c).sets) (length s - c.place))

-- the octets of its units are in the string
pub record Fits (s : List ℕ) (r : Span) : Type 0 where
  pub of_ones : r.form ≡ ones → r.cursor.place + r.most ≤ length s
  pub of_twos : ones < r.form → r.cursor.place + 2 * r.most ≤ length s

-- the cursor after j of its units
unfoldable pub moved_of : Span → ℕ → Cursor
moved_of r j =
    pick (eqb r.form ones) (placed_at (r.cursor.place + j) r.cursor)
    (pick (ltb ones r.form) (placed_at (r.cursor.place + 2 * j) r.cursor) r.cursor)

-- ---- the units of a span

-- whether the unit after j units is of its form
unfoldable pub stands_after : List ℕ → Span → ℕ → Bool
stands_after s r j =
    pick (eqb r.form ones) (single_under (get_or s (r.cursor.place + j) 0) (state_in r.cursor).sets)
    (pick (eqb r.form left_twos) (left_first (get_or s (r.cursor.place + 2 * j) 0))
    (pick (eqb r.form right_twos) (leb 0xA0 (get_or s (r.cursor.place + 2 * j) 0)) true))

-- the octet at a place, as a unit by itself in the state of a cursor
abbrev pub one_unit_at : List ℕ → ℕ → Cursor → UnitRecord
one_unit_at s at c = one_of at (get_or s at 0) (set_at (get_or s at 0) (state_in c).sets) (in_force_of (state_in c).directions) c.depth

-- the two octets at a place, as a character of a set
abbrev pub two_octet_unit_at : List ℕ → ℕ → ℕ → Cursor → UnitRecord
two_octet_unit_at s at set c = two_of at (get_or s at 0) (get_or s (at + 1) 0) set (in_force_of (state_in c).directions) c.depth

-- the unit after j units
unfoldable pub unit_after : List ℕ → Span → ℕ → UnitRecord
unit_after s r j =
    pick (eqb r.form ones) (one_unit_at s (r.cursor.place + j) r.cursor)
    (pick (eqb r.form left_twos) (two_octet_unit_at s (r.cursor.place + 2 * j) r.cursor.gl r.cursor)
    (pick (eqb r.form right_twos) (two_octet_unit_at s (r.cursor.place + 2 * j) r.cursor.gr r.cursor) r.unit))
