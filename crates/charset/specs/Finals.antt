-- The sets of designations by their final octets, and the form and the final octet of a set, as the code tells them. They serve the code alone, and
-- are proved to be what the table says (charset/proofs/Lookup), so they have not to be believed.
use Rattle.std.specs.Prelude.{ℕ, ◌+◌, ◌*◌, ◌/◌, ◌%◌, ◌^◌, eqb, leb, ltb}
use Rattle.base.specs.Choice.{pick}
use Rattle.charset.specs.Charsets.{form_94, form_96, form_94x94, no_set, first_double, set_of}
use Rattle.charset.specs.declared.Side.{Side, TheVariants.GL, TheVariants.GR}

-- the sets that final octets name after 1B 28, after 1B 29, after 1B 2D, and after 1B 24 28 and 1B 24 29

unfoldable pub after_gl94 : ℕ → ℕ
after_gl94 x = pick (eqb x 0x42) 0 (pick (eqb x 0x4A) 2 no_set)

unfoldable pub after_gr94 : ℕ → ℕ
after_gr94 x = pick (eqb x 0x49) 1 no_set

unfoldable pub after_gr96 : ℕ → ℕ
after_gr96 x =
    pick (eqb x 0x41) 3
    (pick (eqb x 0x42) 4
    (pick (eqb x 0x43) 5
    (pick (eqb x 0x44) 6
    (pick (eqb x 0x46) 7 (pick (eqb x 0x47) 8 (pick (eqb x 0x48) 9 (pick (eqb x 0x4C) 10 (pick (eqb x 0x4D) 11 no_set))))))))

unfoldable pub after94x94 : ℕ → ℕ
after94x94 x = pick (eqb x 0x41) 12 (pick (eqb x 0x42) 13 (pick (eqb x 0x43) 14 no_set))

-- the set of a form, side and final octet
unfoldable pub found_of : ℕ → Side → ℕ → ℕ
found_of f GL x = pick (eqb f form_94) (after_gl94 x) (pick (eqb f form_94x94) (after94x94 x) no_set)
found_of f GR x =
    pick (eqb f form_94) (after_gr94 x) (pick (eqb f form_96) (after_gr96 x) (pick (eqb f form_94x94) (after94x94 x) no_set))

-- the sets that a final octet names, as sixteen numbers of four binary digits: those of `placed`, that of place 0 the lowest
unfoldable pub named_of : ℕ → ℕ
named_of x =
    pick (eqb x 0x41) 0xFFFFFFCCFF3FFFFF
    (pick (eqb x 0x42) 0xFFFFFFDDFF4FFFF0
    (pick (eqb x 0x43) 0xFFFFFFEEFF5FFFFF
    (pick (eqb x 0x44) 0xFFFFFFFFFF6FFFFF
    (pick (eqb x 0x46) 0xFFFFFFFFFF7FFFFF
    (pick (eqb x 0x47) 0xFFFFFFFFFF8FFFFF
    (pick (eqb x 0x48) 0xFFFFFFFFFF9FFFFF
    (pick (eqb x 0x49) 0xFFFFFFFFFFFFFF1F
    (pick (eqb x 0x4A) 0xFFFFFFFFFFFFFFF2
    (pick (eqb x 0x4C) 0xFFFFFFFFFFAFFFFF
    (pick (eqb x 0x4D) 0xFFFFFFFFFFBFFFFF 0xFFFFFFFFFFFFFFFF))))))))))

-- what the number at each place is to be
unfoldable pub placed : ℕ → ℕ → ℕ
placed p x =
    pick (eqb p 0) (set_of form_94 GL x)
    (pick (eqb p 1) (set_of form_94 GR x)
    (pick (eqb p 5) (set_of form_96 GR x) (pick (eqb p 8) (set_of form_94x94 GL x) (pick (eqb p 9) (set_of form_94x94 GR x) no_set))))

-- the final octet of a set, by four binary digits of a word
unfoldable pub final_by : ℕ → ℕ
final_by c = pick (leb no_set c) 0 (0x40 + 0x321DC8764321A92 / 2 ^ (4 * c) % 16)

-- the form of a set, by its number
unfoldable pub form_by : ℕ → ℕ
form_by c = pick (ltb c 3) form_94 (pick (ltb c first_double) form_96 (pick (ltb c no_set) form_94x94 0))
