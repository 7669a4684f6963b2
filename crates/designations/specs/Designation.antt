-- The designation at the start of octets, where there are four: what the code finds by its octets. That it is the reader's is proved
-- (`designation_silent`), so that nothing here has to be believed.
use Rattle.std.specs.Prelude.{ℕ, ◌+◌, ◌-◌, ◌*◌, ◌/◌, ◌%◌, ◌^◌, Bool, List, [], ◌∷◌, eqb, ltb, Some, None, Result, Ok, Err}
use Rattle.std.specs.declared.option.Option.{Option}
use Rattle.base.specs.Choice.{pick}
use Rattle.charset.specs.Charsets.{form_94, form_96, form_94x94, no_set, set_of}
use Rattle.charset.specs.Finals.{named_of}
use Rattle.charset.specs.declared.Side.{Side}
use Rattle.charset.specs.declared.Side.TheVariants.{GL, GR}
use Rattle.designations.specs.declared.Designation.{Designation}
use Rattle.designations.specs.declared.Unnamed.{Unnamed}

abbrev pub designation_with : ℕ → Side → ℕ → Designation
designation_with octets side set = record { octets = octets; side = side; set = set }

abbrev pub absent : Designation
absent = designation_with 0 GL no_set

-- what the code answers: the designation where its set is one of the fifteen, and none elsewhere
unfoldable pub if_named : Designation → Option Designation
if_named d = pick (ltb d.set no_set) (Some d) None

abbrev pub unnamed : Designation → Unnamed
unnamed d = record { octets = d.octets; side = d.side }

-- the same, and its octets and its side where it names no set
unfoldable pub named_or : Designation → Result Designation Unnamed
named_or d = pick (ltb d.set no_set) (Ok d) (Err (unnamed d))

abbrev pub by_final_of : ℕ → ℕ → Side → ℕ → Designation
by_final_of octets form side last = designation_with octets side (set_of form side last)

-- the octets after 1B 24
unfoldable pub multi_octet_at : ℕ → ℕ → Designation
multi_octet_at b last =
    pick (eqb b 0x28) (by_final_of 4 form_94x94 GL last) (pick (eqb b 0x29) (by_final_of 4 form_94x94 GR last) absent)

-- the three octets after 1B
unfoldable pub sequence_of : ℕ → ℕ → ℕ → Designation
sequence_of b c d =
    pick (eqb b 0x24) (multi_octet_at c d)
    (pick (eqb b 0x28) (by_final_of 3 form_94 GL c)
    (pick (eqb b 0x29) (by_final_of 3 form_94 GR c) (pick (eqb b 0x2D) (by_final_of 3 form_96 GR c) absent)))

-- what they tell where they name a set, and nothing where they do not
unfoldable pub told_of : ℕ → ℕ → ℕ → Designation
told_of b c d = pick (ltb (sequence_of b c d).set no_set) (sequence_of b c d) absent

-- the form of the set that they name, by the first of them
unfoldable pub form_after : ℕ → ℕ
form_after b = pick (eqb b 0x24) form_94x94 (pick (eqb b 0x2D) form_96 form_94)

-- the same as `told_of`, as the code tells it: of octets up to 255 the two are equal (`told_by_lem` in proofs/ByWord)

unfoldable pub side_by : ℕ → Side
side_by f = pick (eqb f 0x28) GL GR

unfoldable pub told_on : ℕ → ℕ → ℕ → Designation
told_on octets f set = pick (eqb set no_set) absent (designation_with octets (side_by f) set)

unfoldable pub told_by : Bool → ℕ → ℕ → Designation
told_by four f last =
    pick (ltb f 0x28) absent
    (pick (ltb 0x2F f) absent (told_on (3 + pick four 1 0) f (named_of last / 2 ^ (4 * (f - 0x28 + pick four 8 0)) % 16)))

unfoldable pub designation_at : List ℕ → Designation
designation_at [] = absent
designation_at (a ∷ []) = absent
designation_at (a ∷ b ∷ []) = absent
designation_at (a ∷ b ∷ c ∷ []) = absent
designation_at (a ∷ b ∷ c ∷ d ∷ t) = pick (eqb a 0x1B) (sequence_of b c d) absent
