-- Writing and reading of a resource form: what is refused and in which order, the answer, and the output (rules F4, F5).
use Rattle.std.specs.Prelude.{ℕ, List, length, leb, ltb}
use Rattle.base.specs.Answers.{answer, refused_at}
use Rattle.base.specs.Choice.{pick}
use Rattle.base.specs.Limit as limit
use Rattle.base.specs.Refusal as refusal
use Rattle.base.specs.Output.{stored_in}
use Rattle.base.specs.declared.Answer.{Answer}
use Rattle.resource_form.specs.Form.{resource_form, FormReading, stands_for, fault_at, form_reading}

-- what an input is converted to: a refusal with its number and place, or octets (rule F4)
pub data Conversion : Type 0 where
  refuses : ℕ → ℕ → Conversion
  gives : List ℕ → Conversion

-- a string to its form: at most 65,535 octets are written (rules J1, F4)
unfoldable pub to_form : List ℕ → Conversion
to_form s = pick (ltb limit.octets (length s)) (refuses refusal.too_long 0) (gives (resource_form s))

-- of a form that was read: its fault first, and then whether the octets are at most 65,535 (rules J1, F4)
unfoldable pub read_conversion : FormReading → Conversion
read_conversion (fault_at p) = refuses refusal.bad_form p
read_conversion (stands_for bs) = pick (ltb limit.octets (length bs)) (refuses refusal.too_long 0) (gives bs)

-- a form to its string: at most 262,140 octets are read (rules J4, F4)
unfoldable pub from_form : List ℕ → Conversion
from_form t = pick (ltb limit.form (length t)) (refuses refusal.too_long 0) (read_conversion (form_reading t))

-- the answer where k octets are given for an input of n, and the output has m: accepted at n with k, or 10 with k, which are needed (rules N1, F4)
unfoldable pub given_answer : ℕ → ℕ → ℕ → Answer
given_answer n k m = pick (leb k m) (answer refusal.accepted n k) (answer refusal.no_room 0 k)

-- the answer for an input of n octets and an output of m (rule F4)
unfoldable pub conversion_answer : Conversion → ℕ → ℕ → Answer
conversion_answer (refuses number place) n m = refused_at number place
conversion_answer (gives bs) n m = given_answer n (length bs) m

-- the output after: the octets where they fit, and the rest stays; after a refusal all of it (rules N7, F5)
unfoldable pub conversion_output : Conversion → List ℕ → List ℕ
conversion_output (refuses number place) out = out
conversion_output (gives bs) out = stored_in bs out
