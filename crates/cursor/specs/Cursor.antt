-- The record at a cursor of an accepted string. Nothing has to be believed of it: that the units so read are those of the string's elements
-- is proved (`advance_ahead`).
use Rattle.std.specs.Prelude.{ℕ, ◌+◌, ◌*◌, ◌%◌, ◌^◌, Bool, true, false, List, [], ◌∷◌, eqb, leb, ltb, length}
use Rattle.base.specs.Choice.{pick, from}
use Rattle.base.specs.Kind as kind
use Rattle.base.specs.Limit as limit
use Rattle.base.specs.declared.Unit.{Unit as UnitRecord}
use Rattle.state.specs.Directions.{directions, step_of, in_force_of}
use Rattle.state.specs.State.{sets, state, fresh, designated_of, directed_to}
use Rattle.state.specs.Directions.{Step, Goes, Stops}
use Rattle.state.specs.declared.Sets.{Sets}
use Rattle.state.specs.declared.State.{State}
use Rattle.designations.specs.Designation.{designation_at}
use Rattle.designations.specs.declared.Designation.{Designation}
use Rattle.charset.specs.Charsets.{no_set, first_double}
use Rattle.units.specs.Records.{blank}
use Rattle.units.specs.Next.{next_of}
use Rattle.units.specs.Next.{Outcome}
use Rattle.units.specs.Next.{Gives, Stops}
use Rattle.cursor.specs.declared.Cursor.{Cursor}
use Rattle.cursor.specs.declared.Turn.{Turn}

-- a state with its sets and its open directions, and other flags: whether a mark was read, and whether text
abbrev pub flagged : Bool → Bool → State → State
flagged marked texted st = state st.sets (directions st.directions.depth st.directions.levels marked texted)

-- as if neither had been read: nothing is refused that is accepted with the flags of the state itself
abbrev pub kept : State → State
kept st = flagged false false st

-- a cursor keeps the sets and the open directions of a state
abbrev pub cursor : ℕ → State → Cursor
cursor place st =
    record { place = place; levels = st.directions.levels; gl = st.sets.gl; gr = st.sets.gr; depth = st.directions.depth }

abbrev pub state_in : Cursor → State
state_in c = state (sets c.gl c.gr) (directions c.depth c.levels false false)

-- another place, in the same state
abbrev pub placed_at : ℕ → Cursor → Cursor
placed_at place c = cursor place (state_in c)

-- the start of a string
abbrev pub first : Cursor
first = cursor 0 fresh

abbrev pub turn : UnitRecord → Cursor → Turn
turn u c = record { unit = u; cursor = c }

-- ---- any element

-- the next unit and the cursor after it; where there is none, nothing and the same cursor
unfoldable pub outcome_turn : Cursor → Outcome → Turn
outcome_turn c (Gives u place st) = turn u (cursor place st)
outcome_turn c (Stops n place start to) = turn blank c

unfoldable pub element_turn : List ℕ → Cursor → Turn
element_turn s c = outcome_turn c (next_of s c.place (state_in c))

-- ---- marks, by their second octet alone, since the string is accepted

-- a mark of a kind and so many octets, whose step by the direction rule is known
unfoldable pub step_turn : ℕ → ℕ → ℕ → State → Turn → Step → Turn
step_turn at k octets st other (Goes d) =
    turn
    (record {
      kind = k;
      set = 0;
      code = 0;
      start = at % 2 ^ 32;
      length = octets;
      direction = in_force_of d;
      depth = d.depth;
    })
    (cursor (at + octets) (directed_to d st))
step_turn at k octets st other (Stops n) = other

abbrev pub mark_turn : ℕ → ℕ → ℕ → State → Turn → Turn
mark_turn at k octets st other = step_turn at k octets st other (step_of false k st.directions)

-- the octets t after 9B
unfoldable pub after_csi : ℕ → List ℕ → State → Turn → Turn
after_csi at [] st other = other
after_csi at (b ∷ t) st other =
    pick (eqb b 0x31) (mark_turn at kind.left_to_right 3 st other)
    (pick (eqb b 0x32) (mark_turn at kind.right_to_left 3 st other) (mark_turn at kind.revert 2 st other))

-- the octets at a place
unfoldable pub mark_of : ℕ → List ℕ → State → Turn → Turn
mark_of at [] st other = other
mark_of at (b ∷ t) st other = pick (eqb b 0x9B) (after_csi at t st other) other

-- a mark, and any other unit by its element
unfoldable pub marked_turn : List ℕ → Cursor → Turn
marked_turn s c =
    pick (ltb limit.octets (length s)) (element_turn s c) (mark_of c.place (from c.place s) (state_in c) (element_turn s c))

-- ---- designations

-- the cursor after a designation, where one is found
unfoldable pub placed_of : Cursor → Designation → Cursor
placed_of c d = pick (ltb d.set no_set) (cursor (c.place + d.octets) (designated_of d.side d.set (state_in c))) c

unfoldable pub passed_of : List ℕ → Cursor → Cursor
passed_of s c = placed_of c (designation_at (from c.place s))

-- ---- text, by its octets alone, since the string is accepted

-- a GL octet of a character or space, or a GR octet
unfoldable pub text_octet : ℕ → Bool
text_octet b = pick (ltb b 0x20) false (pick (ltb b 0x7F) true (leb 0xA0 b))

-- the set on the side of an octet
unfoldable pub set_at : ℕ → Sets → ℕ
set_at b s = pick (ltb b 0x80) s.gl s.gr

-- the kinds of a space, a tab and a newline are one more than the last three bits of their octets
unfoldable pub kind_at : ℕ → ℕ
kind_at b = pick (ltb 0x20 b) kind.character (b % 8 + 1)

-- x, and 0 for a space, a tab and a newline
unfoldable pub if_graphic : ℕ → ℕ → ℕ
if_graphic b x = pick (leb b 0x20) 0 x

-- the record of a unit of one octet, and that of a character of two, under a direction in force and a depth
abbrev pub one_of : ℕ → ℕ → ℕ → ℕ → ℕ → UnitRecord
one_of at b set direction depth =
    record {
      kind = kind_at b;
      set = if_graphic b set;
      code = if_graphic b (b % 128);
      start = at % 2 ^ 32;
      length = 1;
      direction = direction;
      depth = depth;
    }

abbrev pub two_of : ℕ → ℕ → ℕ → ℕ → ℕ → ℕ → UnitRecord
two_of at b d set direction depth =
    record {
      kind = kind.character;
      set = set;
      code = b % 128 * 256 + d % 128;
      start = at % 2 ^ 32;
      length = 2;
      direction = direction;
      depth = depth;
    }

-- text keeps the directions of the state
abbrev pub single : ℕ → ℕ → ℕ → State → Turn
single at b set st = turn (one_of at b set (in_force_of st.directions) st.directions.depth) (cursor (at + 1) st)

abbrev pub double : ℕ → ℕ → ℕ → ℕ → State → Turn
double at b d set st = turn (two_of at b d set (in_force_of st.directions) st.directions.depth) (cursor (at + 2) st)

-- the octets t after b, where the set on its side has two octets
unfoldable pub double_of : ℕ → ℕ → List ℕ → ℕ → State → Turn → Turn
double_of at b [] set st other = other
double_of at b (d ∷ t) set st other = pick (eqb b 0x20) other (pick (ltb set no_set) (double at b d set st) other)

-- an octet of the set on its side, and the octets t after it
unfoldable pub octet_of : ℕ → ℕ → List ℕ → ℕ → State → Turn → Turn
octet_of at b t set st other = pick (ltb set first_double) (single at b set st) (double_of at b t set st other)

-- the octets at a place
unfoldable pub quick_of : ℕ → List ℕ → State → Turn → Turn
quick_of at [] st other = other
quick_of at (b ∷ t) st other = pick (text_octet b) (octet_of at b t (set_at b st.sets) st other) other

unfoldable pub text_turn : List ℕ → Cursor → Turn
text_turn s c = quick_of c.place (from c.place s) (state_in c) (marked_turn s c)

-- ---- the unit at a cursor: up to two designations are passed where there is an escape sequence

unfoldable pub advance_at : List ℕ → List ℕ → Cursor → Turn
advance_at [] s c = text_turn s c
advance_at (b ∷ t) s c = pick (eqb b 0x1B) (text_turn s (passed_of s (passed_of s c))) (text_turn s c)

abbrev pub advance_of : List ℕ → Cursor → Turn
advance_of s c = advance_at (from c.place s) s c
