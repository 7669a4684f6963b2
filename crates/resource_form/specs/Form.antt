-- The form of octets as the value of an X resource (rule F1), and, stated apart from it, what a form reads as (rules F2, F3).
use Rattle.std.specs.Prelude.{ℕ, zero, suc, ◌+◌, ◌-◌, Bool, false, List, [], ◌∷◌, ◌++◌, Option, Some, None, drop, eqb}
use Rattle.base.specs.Choice.{pick}
use Rattle.resource_form.specs.declared.First.{First}

-- the octets that are written as escapes, and those that stand in an escape after its backslash (rule F1)
abbrev pub backslash : ℕ
backslash = 0x5C

abbrev pub newline : ℕ
newline = 0x0A

abbrev pub nul : ℕ
nul = 0x00

abbrev pub letter_n : ℕ
letter_n = 0x6E

abbrev pub digit_0 : ℕ
digit_0 = 0x30

-- the form of an octet (rule F1)
unfoldable pub octet_form : ℕ → List ℕ
octet_form b =
    pick (eqb b backslash) (backslash ∷ backslash ∷ [])
    (pick (eqb b newline) (backslash ∷ letter_n ∷ [])
    (pick (eqb b nul) (backslash ∷ digit_0 ∷ digit_0 ∷ digit_0 ∷ []) (b ∷ [])))

-- the form of a string is the forms of its octets, one after the other (rule F1)
unfoldable pub resource_form : List ℕ → List ℕ
resource_form [] = []
resource_form (b ∷ bs) = octet_form b ++ resource_form bs

-- whether a digit 0 stands first (rule F2)
unfoldable pub zero_first : List ℕ → Bool
zero_first [] = false
zero_first (b ∷ t) = eqb b digit_0

-- an octet, and the number of octets that stand for it
abbrev pub stands : ℕ → ℕ → First
stands b k = record { octet = b; size = k }

-- after a backslash and a digit 0: two digits 0 more end the escape of an octet 00 (rule F2)
unfoldable pub form_zeros : List ℕ → Option First
form_zeros t = pick (zero_first t) (pick (zero_first (drop 1 t)) (Some (stands nul 4)) None) None

-- after a backslash: the octet that the escape stands for, and the octets of the escape (rule F2)
unfoldable pub form_escape : List ℕ → Option First
form_escape [] = None
form_escape (b ∷ t) =
    pick (eqb b backslash) (Some (stands backslash 2))
    (pick (eqb b letter_n) (Some (stands newline 2))
    (pick (eqb b digit_0) (form_zeros t) None))

-- what stands first in a form: an escape, or an octet for itself; with a raw newline or a raw 00 nothing begins (rules F2, F3)
unfoldable pub form_first : List ℕ → Option First
form_first [] = None
form_first (b ∷ t) =
    pick (eqb b backslash) (form_escape t) (pick (eqb b newline) None (pick (eqb b nul) None (Some (stands b 1))))

-- what a form reads as: the octets that it stands for, or the place of its first fault (rules F2, F3)
pub data FormReading : Type 0 where
  stands_for : List ℕ → FormReading
  fault_at : ℕ → FormReading

-- an octet before what the rest reads as (rule F2)
abbrev pub put_before : ℕ → FormReading → FormReading
put_before b (stands_for bs) = stands_for (b ∷ bs)
put_before b (fault_at p) = fault_at p

-- the reading at a place by what stands there: its octet before what f reads after so many further octets, or a fault there (rules F2, F3)
unfoldable pub on_first : ℕ → Option First → (ℕ → FormReading) → FormReading
on_first at (Some first) f = put_before first.octet (f (first.size - 1))
on_first at None f = fault_at at

-- the reading of octets that start at a place, of which k belong to the escape before and are passed (rule F2)
unfoldable pub read_from : List ℕ → ℕ → ℕ → FormReading
unfolding on_first
read_from [] k at = stands_for []
read_from (b ∷ t) zero at = on_first at (form_first (b ∷ t)) (λ k. read_from t k (at + 1))
read_from (b ∷ t) (suc k) at = read_from t k (at + 1)

-- the reading of a form (rules F2, F3)
abbrev pub form_reading : List ℕ → FormReading
form_reading t = read_from t 0 0
