-- The sets in force by number, so that the costs from all of them stand in one table of 80 octets; and the writer's choice by number.
use Rattle.std.specs.Prelude.{ℕ, ◌+◌, ◌*◌, ◌/◌, ◌%◌, Bool, true, false, cond, ◌||◌, ◌&&◌, not, List, [], ◌∷◌, eqb, leb, ltb, get_or}
use Rattle.std.proofs.Math.Option.{Option, none, some}
use Rattle.base.specs.Choice.{pick}
use Rattle.charset.specs.declared.Side.{Side, TheVariants.GL, TheVariants.GR}
use Rattle.charset.specs.Charsets.{allowed}
use Rattle.state.specs.State.{Standing, on, sets}
use Rattle.state.specs.declared.Sets.{Sets}
use Rattle.shortest.specs.Writing.{Need, free, either, places_of}
use Rattle.numbers.specs.Class as class
use Rattle.numbers.specs.Size as size

-- the sets that may stand in GL, by place
abbrev pub sets_in_gl : List ℕ
sets_in_gl = 0 ∷ 2 ∷ 12 ∷ 13 ∷ 14 ∷ []

-- those that may stand in GR
abbrev pub sets_in_gr : List ℕ
sets_in_gr = 1 ∷ 3 ∷ 4 ∷ 5 ∷ 6 ∷ 7 ∷ 8 ∷ 9 ∷ 10 ∷ 11 ∷ 12 ∷ 13 ∷ 14 ∷ []

-- number k, below 80: in GL the set at place k / 16, in GR that at place k % 16. Places 13 to 15 of GR are spare: set 0, which no unit asks
-- for there
unfoldable pub numbered : ℕ → Sets
numbered k = sets (get_or sets_in_gl (k / size.columns) 0) (get_or sets_in_gr (k % size.columns) 0)

-- the number with another place of GL, and of GR
abbrev pub with_gl : ℕ → ℕ → ℕ
with_gl place k = place * size.columns + k % size.columns

abbrev pub with_gr : ℕ → ℕ → ℕ
with_gr place k = k / size.columns * size.columns + place

-- the class of a unit by its row's tag: 0 to 14 a character of that set, 15 a space, 16 a unit that needs no set
unfoldable pub class_of : ℕ → ℕ
class_of tag = pick (ltb tag class.free) tag class.free

unfoldable pub need_of_class : ℕ → Need
need_of_class x =
    cond (ltb x class.space) (places_of (allowed GL x) (allowed GR x) x) (cond (eqb x class.space) (either (on GL 0) (on GL 2)) free)

-- the octets of a designation for a class
unfoldable pub price_of_class : ℕ → ℕ
price_of_class x = cond (leb class.double x && ltb x class.space) 4 3

-- the place of GL that serves a class, 5 where none does; a space is served by the first, and what needs no set by any
abbrev pub places_in_gl : List ℕ
places_in_gl = 0 ∷ 5 ∷ 1 ∷ 5 ∷ 5 ∷ 5 ∷ 5 ∷ 5 ∷ 5 ∷ 5 ∷ 5 ∷ 5 ∷ 2 ∷ 3 ∷ 4 ∷ 0 ∷ 0 ∷ []

-- the place of GR that serves a class, 16 where none does
abbrev pub places_in_gr : List ℕ
places_in_gr = 16 ∷ 0 ∷ 16 ∷ 1 ∷ 2 ∷ 3 ∷ 4 ∷ 5 ∷ 6 ∷ 7 ∷ 8 ∷ 9 ∷ 10 ∷ 11 ∷ 12 ∷ 16 ∷ 16 ∷ []

-- the number after the first designation that serves a class, the preferred one, and after the second
unfoldable pub after_first : ℕ → ℕ → ℕ
after_first x k =
    cond (ltb x class.space)
    (cond (ltb (get_or places_in_gl x 0) size.gl) (with_gl (get_or places_in_gl x 0) k) (with_gr (get_or places_in_gr x 0) k))
    (cond (eqb x class.space) (with_gl 0 k) k)

unfoldable pub after_second : ℕ → ℕ → ℕ
after_second x k =
    cond (ltb x class.space)
    (cond (ltb (get_or places_in_gr x 0) size.gr) (with_gr (get_or places_in_gr x 0) k) (with_gl (get_or places_in_gl x 0) k))
    (cond (eqb x class.space) (with_gl 1 k) k)

-- where a row keeps what the rest costs after the second designation: by GL's place for a character, by GR's for a space. What it costs
-- after the first stands at k % 16
abbrev pub second_slot : ℕ → ℕ → ℕ
second_slot x k = size.columns + cond (ltb x class.space) (k / size.columns) (k % size.columns)

-- the number after the choice, where u and v are what the rest costs after the first designation and after the second: none where the
-- need is met, and the first where it costs no more
unfoldable pub chosen_by : ℕ → ℕ → ℕ → ℕ → ℕ
chosen_by x k u v =
    cond (eqb (after_first x k) k || eqb (after_second x k) k) k (cond (leb u v) (after_first x k) (after_second x k))

-- the same where h gives what the rest costs from each number
abbrev pub after_choice : ℕ → ℕ → (ℕ → ℕ) → ℕ
after_choice x k h = chosen_by x k (h (after_first x k)) (h (after_second x k))

-- what going from number k to number j for a class costs
abbrev pub surcharge : ℕ → ℕ → ℕ → ℕ
surcharge x k j = cond (eqb j k) 0 (price_of_class x)

-- what is designated where number k becomes number j
unfoldable pub change : ℕ → ℕ → Option Standing
change k j =
    cond (eqb j k) none
    (cond (eqb (j / size.columns) (k / size.columns)) (some (on GR (get_or sets_in_gr (j % size.columns) 0)))
    (some (on GL (get_or sets_in_gl (j / size.columns) 0))))

-- the side on which a character of a set is written under number j
unfoldable pub side_at : ℕ → ℕ → Side
side_at x j = cond (eqb (get_or sets_in_gl (j / size.columns) 0) x) GL GR

-- a unit of class x changes the costs, where last is the class that changed them last: not where it needs no set, has that class, or is a
-- space where that class is set 0
unfoldable pub changes : ℕ → ℕ → Bool
changes last x = pick (eqb x class.free) false (pick (eqb x last) false (pick (eqb x class.space) (not (eqb last 0)) true))
