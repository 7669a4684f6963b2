-- The forms and readings of the request's own cases, computed.
use Prim.Native.Nat.{ℕ}
use mathlib.Core.Path.{◌≡◌, refl}
use mathlib.Core.List.{[], ◌∷◌}
use Rattle.base.specs.Choice.{pick}
use Rattle.base.specs.Refusal as refusal
use Rattle.resource_form.specs.Form.{octet_form, resource_form, zero_first, form_zeros, form_escape, form_first, on_first, read_from}
use Rattle.resource_form.specs.Conversion.{Conversion, refuses, gives, to_form, read_conversion, from_form}

-- a backslash, a newline, an octet 00 and a letter
pub each_escape : to_form (0x5C ∷ 0x0A ∷ 0x00 ∷ 0x41 ∷ [])
    ≡ gives (0x5C ∷ 0x5C ∷ 0x5C ∷ 0x6E ∷ 0x5C ∷ 0x30 ∷ 0x30 ∷ 0x30 ∷ 0x41 ∷ [])
unfolding octet_form resource_form to_form pick
each_escape = refl

abbrev bad : ℕ → Conversion
bad = refuses refusal.bad_form

-- a digit after an octet 00 is itself; 1B and 80 to FF stay
pub accepted : (from_form (0x5C ∷ 0x30 ∷ 0x30 ∷ 0x30 ∷ 0x31 ∷ []) ≡ gives (0x00 ∷ 0x31 ∷ []))
    × (from_form (0x1B ∷ 0x80 ∷ 0xFF ∷ []) ≡ gives (0x1B ∷ 0x80 ∷ 0xFF ∷ []))
unfolding zero_first form_zeros form_escape form_first on_first read_from read_conversion from_form pick
accepted = (refl, refl)

-- an escape that the end cuts
pub cut_escapes : (from_form (0x41 ∷ 0x5C ∷ []) ≡ bad 1)
    × (from_form (0x41 ∷ 0x5C ∷ 0x30 ∷ []) ≡ bad 1)
    × (from_form (0x41 ∷ 0x5C ∷ 0x30 ∷ 0x30 ∷ []) ≡ bad 1)
unfolding zero_first form_zeros form_escape form_first on_first read_from read_conversion from_form pick
cut_escapes = (refl, refl, refl)

-- a large N, an x and another octal number; a raw newline and a raw 00
pub refused : (from_form (0x5C ∷ 0x4E ∷ []) ≡ bad 0)
    × (from_form (0x5C ∷ 0x78 ∷ 0x30 ∷ 0x30 ∷ []) ≡ bad 0)
    × (from_form (0x5C ∷ 0x30 ∷ 0x31 ∷ 0x32 ∷ []) ≡ bad 0)
    × (from_form (0x5C ∷ 0x6E ∷ 0x0A ∷ []) ≡ bad 2)
    × (from_form (0x41 ∷ 0x00 ∷ 0x5C ∷ []) ≡ bad 1)
unfolding zero_first form_zeros form_escape form_first on_first read_from read_conversion from_form pick
refused = (refl, refl, refl, refl, refl)
