-- The rows of the work room, and the units that they hold. Row i is the 72 octets from 72 × i on. The first 65 are left to the plan, and
-- the last seven are a unit: its tag (Tag), the code of a character or the n of a segment, and where a segment's octets start (Layout).
-- Every row holds a unit, whatever its octets are: of a code's octet the top bit is ignored, of n the two highest bits; of a part that
-- does not lie wholly in the octets of the segments only what lies in them counts; and any other tag is a revert.
use Rattle.std.specs.Prelude.{ℕ, zero, suc, ◌+◌, ◌-◌, ◌*◌, ◌/◌, ◌%◌, min, cond, ◌&&◌, List, [], ◌∷◌, eqb, leb, ltb, length, get_or, take, drop}
use Rattle.std.proofs.lemmas.List.Edits.{sets}
use Rattle.base.specs.Choice.{pick}
use Rattle.base.specs.Kind as kind
use Rattle.base.specs.Limit as limit
use Rattle.base.specs.declared.Unit.{Unit as UnitRecord}
use Rattle.grammar.specs.Units.{TextUnit, char, space, control, tab, newline, ltr, rtl, revert, ext}
use Rattle.rows.specs.Layout as layout
use Rattle.rows.specs.Tag as tag

-- the tag of row i
abbrev pub tag_at : List ℕ → ℕ → ℕ
tag_at w i = get_or w (layout.row * i + layout.tag) 0

-- the two octets of a row's code or n
abbrev pub high_octet : List ℕ → ℕ → ℕ
high_octet w row = get_or w (row + layout.high) 0

abbrev pub low_octet : List ℕ → ℕ → ℕ
low_octet w row = get_or w (row + layout.low) 0

-- four octets as a number, the highest first
abbrev pub four_octets : ℕ → ℕ → ℕ → ℕ → ℕ
four_octets a b c d = ((a * 256 + b) * 256 + c) * 256 + d

-- where the segment of the row that starts at a place starts
abbrev pub start_from : List ℕ → ℕ → ℕ
start_from w row = four_octets (get_or w (row + 68) 0) (get_or w (row + 69) 0) (get_or w (row + 70) 0) (get_or w (row + 71) 0)

-- the n of a segment
abbrev pub count_of : ℕ → ℕ → ℕ
count_of high low = high % 64 * 256 + low

-- the octets of a segment's part that lie in the m octets in which the segments stand
abbrev pub part_of : ℕ → ℕ → ℕ → ℕ
part_of n start m = min n (m - start)

-- the unit of a tag, two octets and a start: a character or a space, a segment, or a tab, a newline or a direction mark
unfoldable pub text_tagged : ℕ → ℕ → ℕ → TextUnit
text_tagged t high low =
    pick (ltb t tag.double) (char t (low % 128)) (pick (ltb t tag.space) (char t (high % 128 * 256 + low % 128)) space)

unfoldable pub mark_tagged : ℕ → TextUnit
mark_tagged t =
    pick (eqb t tag.tab) (control tab)
    (pick (eqb t tag.newline) (control newline)
    (pick (eqb t tag.left_to_right) (control ltr) (pick (eqb t tag.right_to_left) (control rtl) (control revert))))

-- where o are the octets in which the segments stand
abbrev pub other_tagged : List ℕ → ℕ → ℕ → ℕ → ℕ → TextUnit
other_tagged o t high low start = cond (leb tag.segment t && ltb t tag.spare) (ext (tag.d + t) (take (count_of high low) (drop start o))) (mark_tagged t)

unfoldable pub unit_tagged : List ℕ → ℕ → ℕ → ℕ → ℕ → TextUnit
unit_tagged o t high low start = cond (ltb t tag.tab) (text_tagged t high low) (other_tagged o t high low start)

-- the unit of the row that starts at a place
abbrev pub unit_from : List ℕ → List ℕ → ℕ → TextUnit
unit_from o w row = unit_tagged o (get_or w (row + layout.tag) 0) (high_octet w row) (low_octet w row) (start_from w row)

-- the units of m rows from row i on
unfoldable pub units_in : List ℕ → List ℕ → ℕ → ℕ → List TextUnit
units_in o w i zero = []
units_in o w i (suc m) = unit_from o w (layout.row * i) ∷ units_in o w (suc i) m

-- ---- what they take

-- the rows that are written: all n where they lie in the m octets of the room and are no more than a list may have, else none
unfoldable pub rows_of : ℕ → ℕ → ℕ
rows_of n m = pick (leb n limit.units) (pick (leb (layout.row * n) m) n 0) 0

-- the octets of a unit by its tag, where p are those of a segment's part
unfoldable pub size_of : ℕ → ℕ → ℕ
size_of t p =
    pick (ltb t tag.double) 1
    (pick (ltb t tag.space) 2 (pick (ltb t tag.left_to_right) 1
    (pick (ltb t tag.revert) 3 (pick (ltb t tag.segment) 2 (pick (ltb t tag.spare) (6 + p) 2)))))

-- those of a segment's part of the row that starts at a place, where the segments stand in m octets
abbrev pub part_from : ℕ → List ℕ → ℕ → ℕ
part_from m w row = part_of (count_of (high_octet w row) (low_octet w row)) (start_from w row) m

-- ---- a record in its row

-- the tag of a unit record by its kind, set and code; the number beside it: a character's code, or a segment's length
unfoldable pub tag_of : UnitRecord → ℕ
tag_of r = pick (eqb r.kind kind.character) r.set (pick (eqb r.kind kind.segment) (r.code - tag.d) (tag.kind + r.kind))

unfoldable pub number_of : UnitRecord → ℕ
number_of r = pick (eqb r.kind kind.segment) r.length r.code

-- the last seven octets of the row of a record
abbrev pub seven_octets : UnitRecord → List ℕ
seven_octets r =
    tag_of r ∷ (number_of r / 256) ∷ (number_of r % 256) ∷ (r.start / 16777216) ∷ (r.start / 65536 % 256) ∷ (r.start / 256 % 256)
    ∷ (r.start % 256) ∷ []

-- the room with a record in row i, where it has that row
unfoldable pub with_record : List ℕ → ℕ → UnitRecord → List ℕ
with_record w i r = pick (ltb i (length w / layout.row)) (sets w (layout.row * i + layout.tag) (seven_octets r)) w
