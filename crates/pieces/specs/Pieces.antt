-- The pieces of a string: runs, tabs, newlines, control sequences and extended segments, end to end (rules R1, R6).
use Rattle.std.specs.Prelude.{ℕ, ◌+◌, Bool, false, List, [], ◌∷◌, eqb, leb, ltb, get_or, Option, Some, None}
use Rattle.base.specs.Choice.{pick}
use Rattle.base.specs.Kind as kind
use Rattle.grammar.specs.Reading.{Elements, end_at, stopped_at, silent_at, found_at, size, elements_of}
use Rattle.state.specs.State.{fresh}
use Rattle.state.specs.declared.Sets.{Sets}
use Rattle.state.specs.declared.State.{State}
use Rattle.state.specs.Elements.{Element, End, Refused, Silent, Found}
use Rattle.pieces.specs.PieceKind as piece_kind
use Rattle.pieces.specs.declared.Piece.{Piece as CodePiece}
use Rattle.pieces.specs.declared.PieceKind.{PieceKind}
use Rattle.pieces.specs.declared.PieceKind.TheVariants.{GlRun, GrRun, Tab, Newline, Control, Segment}

-- a piece: where it starts, where the next one does, the state after its first element, and the number of what it is
pub record Piece : Type 0 where
  pub start : ℕ
  pub end : ℕ
  pub state : State
  pub kind : ℕ

-- where a piece starts, where the next one does, what it is, and the state after its first element
abbrev pub piece : ℕ → ℕ → ℕ → State → Piece
piece start end k st = record { start = start; end = end; kind = k; state = st }

abbrev pub no_piece : ℕ → Piece
no_piece at = piece at at piece_kind.none fresh

-- the number of a kind, the piece that a value of the code is, and the piece that is given at a place
abbrev pub kind_number : PieceKind → ℕ
kind_number GlRun = piece_kind.gl_run
kind_number GrRun = piece_kind.gr_run
kind_number Tab = piece_kind.tab
kind_number Newline = piece_kind.newline
kind_number Control = piece_kind.control
kind_number Segment = piece_kind.segment

abbrev pub viewed : CodePiece → Piece
viewed p = piece p.start p.end (kind_number p.kind) p.state

abbrev pub seen : ℕ → Option CodePiece → Piece
seen at (Some p) = viewed p
seen at None = no_piece at

-- the side of an octet: a GR octet has its top bit set
unfoldable pub side_kind_of : ℕ → ℕ
side_kind_of b = pick (ltb b 128) piece_kind.gl_run piece_kind.gr_run

-- what the piece of a unit is, by the unit's kind and its first octet: characters and spaces are of a run, and direction marks are
-- control sequences
unfoldable pub piece_kind_of : ℕ → ℕ → ℕ
piece_kind_of k b =
    pick (eqb k kind.character) (side_kind_of b)
    (pick (eqb k kind.space) (side_kind_of b)
    (pick (eqb k kind.tab) piece_kind.tab
    (pick (eqb k kind.newline) piece_kind.newline (pick (eqb k kind.segment) piece_kind.segment piece_kind.control))))

-- the piece that the element at a place is: a designation is a control sequence; of an extended segment its six octets
-- `1B 25 2F d M L` are part
unfoldable pub piece_of : List ℕ → ℕ → Element → Piece
piece_of s at End = no_piece at
piece_of s at (Refused n o) = no_piece at
piece_of s at (Silent k st) = piece at (at + k) piece_kind.control st
piece_of s at (Found p st) = piece at (at + size p) (piece_kind_of p.kind (get_or s at 0)) st

-- whether a piece is a run
abbrev pub is_run : ℕ → Bool
is_run k = ltb k piece_kind.tab

-- whether two neighbours are of one run: both of GL, or both of GR
unfoldable pub same_run_of : ℕ → ℕ → Bool
same_run_of j k = pick (is_run j) (eqb j k) false

-- two neighbours of one run as one piece
abbrev pub longer : Piece → Piece → Piece
longer p q = piece p.start q.end p.kind p.state

-- a piece before others; it is joined to the first of them where they are of one run, so that each run is as long as can be (rule R1)
unfoldable pub joined : Piece → List Piece → List Piece
joined p [] = p ∷ []
joined p (q ∷ qs) = pick (same_run_of p.kind q.kind) (longer p q ∷ qs) (p ∷ q ∷ qs)

-- the pieces of elements of a string
unfoldable pub pieces_from : List ℕ → Elements → List Piece
unfolding piece_of
pieces_from s (end_at at) = []
pieces_from s (stopped_at at n o) = []
pieces_from s (silent_at at k st es) = joined (piece_of s at (Silent k st)) (pieces_from s es)
pieces_from s (found_at at p st es) = joined (piece_of s at (Found p st)) (pieces_from s es)

unfoldable pub pieces_of : List ℕ → List Piece
pieces_of s = pieces_from s (elements_of s)

-- whether the octet at a place lies in a piece, and in how many pieces it does
unfoldable pub contains : Piece → ℕ → Bool
contains p i = pick (leb p.start i) (ltb i p.end) false

unfoldable pub holding : List Piece → ℕ → ℕ
holding [] i = 0
holding (p ∷ ps) i = pick (contains p i) (1 + holding ps i) (holding ps i)

-- the set that stands on the side of a run, by the number of its kind, which is GR's for any but GL's
abbrev pub set_on : Sets → ℕ → ℕ
set_on sets k = pick (eqb k piece_kind.gl_run) sets.gl sets.gr

unfoldable pub set_in : Piece → ℕ
set_in p = set_on p.state.sets p.kind

-- the state in which the octet at a place i is read, of elements that start with a state: that before its element
unfoldable pub state_at : State → Elements → ℕ → State
state_at st (end_at at) i = st
state_at st (stopped_at at n o) i = st
state_at st (silent_at at k next es) i = pick (ltb i (at + k)) st (state_at next es i)
state_at st (found_at at p next es) i = pick (ltb i (at + size p)) st (state_at next es i)
