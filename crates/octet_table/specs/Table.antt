-- The table of the archive reader by its rule, which is stated once: an entry is the number of the class that `start_of` gives its octet, where
-- the sets in GL and GR are of the forms of its row. What a class starts is `begun_by`, the reader's own definition (rules E1a to E1d).
use Rattle.std.specs.Prelude.{ℕ, zero, suc, ◌+◌, ◌%◌, ◌/◌, List, [], ◌∷◌, eqb, ltb}
use Rattle.base.specs.Choice.{pick}
use Rattle.charset.specs.Charsets.{form_94, form_96, form_94x94, form_of}
use Rattle.charset.specs.declared.Side.{TheVariants.GL, TheVariants.GR}
use Rattle.element.specs.Start.{Start, escape, mark, tab, newline, space, unused, one, two, start_of}
use Rattle.state.specs.declared.Sets.{Sets}

-- the classes by number: those of one octet first, and of each of these the remainder by 4 is the kind of its unit
unfoldable pub number_of : Start → ℕ
number_of (one GL) = 0
number_of space = 1
number_of tab = 2
number_of newline = 3
number_of (one GR) = 4
number_of (two GL) = 5
number_of (two GR) = 6
number_of escape = 7
number_of mark = 8
number_of unused = 9

-- the class of a number
unfoldable pub class_of : ℕ → Start
class_of n =
    pick (eqb n 0) (one GL)
    (pick (eqb n 1) space
    (pick (eqb n 2) tab
    (pick (eqb n 3) newline
    (pick (eqb n 4) (one GR)
    (pick (eqb n 5) (two GL) (pick (eqb n 6) (two GR) (pick (eqb n 7) escape (pick (eqb n 8) mark unused))))))))

-- entry k is of the octet k % 256 in row k / 256: two octets in GL from the fourth row on, and the three forms in GR in turn
unfoldable pub rule_of : ℕ → ℕ
rule_of k = number_of (start_of (pick (ltb (k / 256) 3) form_94 form_94x94) (k / 256 % 3 + 1) (k % 256))

-- n entries by a rule, from entry i on
unfoldable pub entries : (ℕ → ℕ) → ℕ → ℕ → List ℕ
entries f zero i = []
entries f (suc n) i = f i ∷ entries f n (suc i)

unfoldable pub table : List ℕ
table = entries rule_of 1536 0

-- where the row of the sets in force starts: what the form in GL adds, and what that in GR; a set of no form has the row of one of 94
unfoldable pub left_of : ℕ → ℕ
left_of form = pick (eqb form form_94x94) 768 0

unfoldable pub right_of : ℕ → ℕ
right_of form = pick (eqb form form_96) 256 (pick (eqb form form_94x94) 512 0)

abbrev pub row_for : ℕ → ℕ → ℕ
row_for left right = left_of left + right_of right

abbrev pub row_of : Sets → ℕ
row_of s = row_for (form_of s.gl) (form_of s.gr)
