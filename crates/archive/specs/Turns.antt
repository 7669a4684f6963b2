-- The next unit of an accepted string, as the archive reader stores it. It is the unit of the elements (`element_turn`) with the row of the sets
-- after it, so that nothing here has to be believed.
use Rattle.std.specs.Prelude.{ℕ, ◌+◌, ◌%◌, ◌^◌, ◌≡◌, List, eqb}
use Rattle.base.specs.Choice.{pick}
use Rattle.base.specs.declared.Unit.{Unit as UnitRecord}
use Rattle.cursor.specs.Cursor.{first, placed_at, state_in, element_turn, two_of}
use Rattle.cursor.specs.declared.Cursor.{Cursor}
use Rattle.cursor.specs.declared.Turn.{Turn}
use Rattle.octet_table.specs.Table.{row_of}
use Rattle.state.specs.Directions.{in_force_of}
use Rattle.state.specs.State.{sets}
use Rattle.state.specs.declared.State.{State}
use Rattle.units.specs.Next.{next_of}
use Rattle.units.specs.Next.{Gives}
use Rattle.archive.specs.declared.turns.RowCursor.{RowCursor}
use Rattle.archive.specs.declared.turns.RowTurn.{RowTurn}

-- a cursor with the row of its sets and the direction in force there
abbrev pub rowed : Cursor → RowCursor
rowed c = record { cursor = c; row = row_of (sets c.gl c.gr); direction = in_force_of (state_in c).directions }

abbrev pub first_row : RowCursor
first_row = rowed first

abbrev pub moved_by : RowCursor → ℕ → RowCursor
moved_by c n = record { cursor = placed_at (c.cursor.place + n) c.cursor; row = c.row; direction = c.direction }

abbrev pub rowed_turn : Turn → RowTurn
rowed_turn t = record { unit = t.unit; cursor = rowed t.cursor }

-- the unit at a cursor, by the elements from there on
abbrev pub turn_of : List ℕ → Cursor → RowTurn
turn_of s c = rowed_turn (element_turn s c)

-- a cursor that has the row of its sets and the direction in force, and from which a unit is next
pub record Ready (s : List ℕ) (c : RowCursor) : Type 0 where
  pub row : c.row ≡ row_of (sets c.cursor.gl c.cursor.gr)
  pub force : c.direction ≡ in_force_of (state_in c.cursor).directions
  pub unit : UnitRecord
  pub place : ℕ
  pub after : State
  pub next : next_of s c.cursor.place (state_in c.cursor) ≡ Gives unit place after

-- x for a character of one octet, and 0 for a space, a tab and a newline, by the number of the class
unfoldable pub if_character : ℕ → ℕ → ℕ
if_character k x = pick (eqb (k % 4) 0) x 0

unfoldable pub set_by : ℕ → ℕ → ℕ → ℕ
set_by k gl gr = pick (eqb k 4) gr gl

-- the record of a unit of one octet at a cursor, by its class, and that of a character of two
abbrev pub one_record : Cursor → ℕ → ℕ → ℕ → ℕ → UnitRecord
one_record c b k set direction =
    record {
      kind = k % 4;
      set = if_character k set;
      code = if_character k (b % 128);
      start = c.place % 2 ^ 32;
      length = 1;
      direction = direction;
      depth = c.depth;
    }

abbrev pub two_record : Cursor → ℕ → ℕ → ℕ → ℕ → UnitRecord
two_record c b y set direction = two_of c.place b y set direction c.depth
