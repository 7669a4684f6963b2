-- The pen of the X11R5 writer, which goes through a list of records twice: first it checks and counts, then it stores. What it does with one record, and
-- the answer after the last.
use Rattle.std.specs.Prelude.{ℕ, ◌+◌, ◌*◌, Bool, true, false, List, [], ◌∷◌, eqb, leb, ltb, length, set}
use Rattle.base.specs.Answers.{answer, refused_at}
use Rattle.base.specs.Choice.{pick}
use Rattle.base.specs.Kind as kind
use Rattle.base.specs.Limit as limit
use Rattle.base.specs.Refusal as refusal
use Rattle.base.specs.declared.Answer.{Answer}
use Rattle.base.specs.declared.Unit.{Unit as UnitRecord}
use Rattle.grammar.specs.Records.{unit_read}
use Rattle.x11r5.specs.Records.{record_refusal}
use Rattle.r5_units.specs.Unit.{text_set, text_code, stands_on, text_octets, control_octet, is_left, naming, width_of, designated_width, stored_to}
use Rattle.r5_units.specs.Unit.{stored_over}
use Rattle.r5_pen.specs.declared.Pen.{Pen}

-- the octets counted or stored, the index of the next record, number and place of a refusal, the sets in GL and GR, and whether it stores
abbrev pub pen : ℕ → ℕ → ℕ → ℕ → ℕ → ℕ → Bool → Pen
pen at index number place gl gr stores =
    record { at = at; index = index; number = number; place = place; gl = gl; gr = gr; stores = stores }

-- before a record, to check, and before the first, to store
abbrev pub looking_at : ℕ → Pen
looking_at index = pen 0 index refusal.accepted 0 0 3 false

abbrev pub storing : Pen
storing = pen 0 0 refusal.accepted 0 0 3 true

-- the count of octets, which goes no further once it is over the limit
unfoldable pub counted : ℕ → ℕ → ℕ
counted at k = pick (ltb limit.octets at) at (at + k)

-- the pen at its next record, with the same sets, and with a set on a side
unfoldable pub stayed_at : Pen → ℕ → ℕ → Pen
stayed_at p at index = pen at index p.number p.place p.gl p.gr p.stores

unfoldable pub moved_to : Pen → Bool → ℕ → ℕ → ℕ → Pen
moved_to p left c at index = pen at index p.number p.place (pick left c p.gl) (pick left p.gr c) p.stores

abbrev pub stands_in : ℕ → Pen → Bool
stands_in c p = stands_on c p.gl p.gr

-- ---- checking and counting, in a list of n records; `index` is that of the next record

-- a record is refused: no other is looked at
unfoldable pub stopped_by : Pen → ℕ → ℕ → Pen
stopped_by p number n = pen p.at n number p.index p.gl p.gr p.stores

-- after the last record, where the octets are within the limit and have room with the 00, the storing begins
unfoldable pub turned_over : Pen → ℕ → ℕ → Pen
turned_over p n m = pick (ltb p.index n) p (pick (ltb limit.octets p.at) p (pick (leb m p.at) p storing))

unfoldable pub passed_text : Pen → ℕ → ℕ → Pen
passed_text p c index =
    pick (stands_in c p) (stayed_at p (counted p.at (width_of c)) index) (moved_to p (is_left c) c (counted p.at (designated_width c)) index)

unfoldable pub passed_by : Pen → UnitRecord → ℕ → Pen
passed_by p r index = pick (leb r.kind kind.space) (passed_text p (text_set r p.gl) index) (stayed_at p (counted p.at 1) index)

-- whether n units have room, whatever they are, within the limit and in an output of m octets: a unit has at most six octets with its designation
unfoldable pub ample_for : ℕ → ℕ → Bool
ample_for n m = pick (ltb 10922 n) false (ltb (6 * n) m)

-- how many are to be looked at before it begins
unfoldable pub looked_first : ℕ → ℕ → ℕ
looked_first n m = pick (ample_for n m) n 0

-- where the pen begins, if so many records at the start are known to be refused for nothing: with the next, or to store, where all have room, and else with
-- the first, to count
unfoldable pub begun_at : ℕ → ℕ → ℕ → Pen
begun_at run n m = pick (ample_for n m) (pick (ltb run n) (looking_at run) storing) (looking_at 0)

-- then they need not be counted
unfoldable pub looked_by : Pen → UnitRecord → ℕ → ℕ → ℕ → Pen
looked_by p r index n m = pick (ample_for n m) (stayed_at p p.at index) (passed_by p r index)

unfoldable pub checked_by : Pen → UnitRecord → ℕ → ℕ → List ℕ → ℕ → Pen
checked_by p r index n o m =
    pick (eqb (record_refusal (unit_read o r)) refusal.accepted) (turned_over (looked_by p r index n m) n m)
    (stopped_by p (record_refusal (unit_read o r)) n)

-- ---- storing, in an output of m octets

-- the place after the designation of a set
abbrev pub place_after : Pen → ℕ → ℕ → ℕ
place_after p c m = stored_to p.at (naming c) m

unfoldable pub stored_text : Pen → ℕ → ℕ → ℕ → ℕ → Pen
stored_text p c k index m =
    pick (stands_in c p) (stayed_at p (stored_to p.at (text_octets c k (eqb p.gl c)) m) index)
    (moved_to p (is_left c) c (stored_to (place_after p c m) (text_octets c k (is_left c)) m) index)

unfoldable pub output_text : Pen → ℕ → ℕ → List ℕ → List ℕ
output_text p c k l =
    pick (stands_in c p) (stored_over l p.at (text_octets c k (eqb p.gl c)))
    (stored_over (stored_over l p.at (naming c)) (place_after p c (length l)) (text_octets c k (is_left c)))

unfoldable pub stored_by : Pen → UnitRecord → ℕ → ℕ → Pen
stored_by p r index m =
    pick (leb r.kind kind.space) (stored_text p (text_set r p.gl) (text_code r) index m)
    (stayed_at p (stored_to p.at (control_octet r.kind ∷ []) m) index)

unfoldable pub output_by : Pen → UnitRecord → List ℕ → List ℕ
output_by p r l =
    pick (leb r.kind kind.space) (output_text p (text_set r p.gl) (text_code r) l) (stored_over l p.at (control_octet r.kind ∷ []))

-- ---- a turn, in which nothing is done once all n records are passed

unfoldable pub turn_of : Pen → UnitRecord → ℕ → List ℕ → ℕ → Pen
turn_of p r n o m =
    pick (leb n p.index) p (pick p.stores (stored_by p r (p.index + 1) m) (checked_by p r (p.index + 1) n o m))

unfoldable pub output_of : Pen → UnitRecord → ℕ → List ℕ → List ℕ
output_of p r n l = pick (leb n p.index) l (pick p.stores (output_by p r l) l)

-- ---- the answer for a list of n records and an output of m octets, and the output with the 00

unfoldable pub finish_answer : Pen → ℕ → ℕ → Answer
finish_answer p n m =
    pick (ltb limit.units n) (refused_at refusal.too_long 0)
    (pick (eqb p.number refusal.accepted)
    (pick (ltb limit.octets p.at) (refused_at refusal.too_long 0)
    (pick (leb m p.at) (answer refusal.no_room 0 (p.at + 1)) (answer refusal.accepted n (p.at + 1))))
    (refused_at p.number p.place))

unfoldable pub finish_output : Pen → ℕ → List ℕ → List ℕ
finish_output p n l =
    pick (ltb limit.units n) l
    (pick (eqb p.number refusal.accepted)
    (pick (ltb limit.octets p.at) l (pick (leb (length l) p.at) l (set l p.at 0x00)))
    l)
