-- The theorems of what both ways answer. A string and a form over their limits are 1 at 0 (`string_over`, `form_over`), and so is a form that stands for
-- more octets than a string has (`octets_over`), but a fault is told before that (`fault_before_limit`). Writing and reading undo each other
-- (`written_read`, `read_written`). What is accepted has the input's length as its place and its octets stored (`accepted_place`, `accepted_stored`); a
-- refusal leaves the output (`refused_stays`), and 10 has the count of the octets, which do not fit (`no_room_exactly`).
use Prim.Native.Nat.{ℕ, ◌≤◌, ◌<◌}
use native.Mathlib.Omega.{arith}
use mathlib.Core.Path.{◌≡◌, refl, ap, sym, ◌∙◌, subst}
use mathlib.Core.List.{List, ◌++◌}
use lib.Dec.{leb, ltb}
use lib.ListN.{length, drop}
use borrow.Author.Tests.{ltb-false, le-ltb, leb-false}
use Rattle.base.specs.Choice.{pick}
use Rattle.base.specs.Limit as limit
use Rattle.base.specs.Output.{stored_in}
use Rattle.base.specs.Refusal as refusal
use Rattle.base.proofs.Bools.{test, clash, pick_by}
use Rattle.base.proofs.Ladder.{on_lt, on_ge}
use Rattle.resource_form.specs.Form.{resource_form, FormReading, stands_for, fault_at, form_reading}
use Rattle.resource_form.specs.Conversion.{Conversion, refuses, gives, to_form, read_conversion, from_form}
use Rattle.resource_form.specs.Conversion.{given_answer, conversion_answer, conversion_output}
use Rattle.resource_form.proofs.Theorems.{read_of_form, form_of_read, form_length, FirstFault, fault_there}

-- ---- the limits, and the order

-- a string by its length (promise Q1d)
pub string_over : (s : List ℕ) → limit.octets < length s → refuses refusal.too_long 0 ≡ to_form s
unfolding to_form
string_over s h = on_lt limit.octets (length s) (refuses refusal.too_long 0) _ _ h refl

pub string_within : (s : List ℕ) → length s ≤ limit.octets → gives (resource_form s) ≡ to_form s
unfolding to_form
string_within s h = on_ge limit.octets (length s) (gives (resource_form s)) _ _ h refl

-- a form by its length, and then as it is read
pub form_over : (t : List ℕ) → limit.form < length t → refuses refusal.too_long 0 ≡ from_form t
unfolding from_form
form_over t h = on_lt limit.form (length t) (refuses refusal.too_long 0) _ _ h refl

pub form_within : (t : List ℕ) → length t ≤ limit.form → read_conversion (form_reading t) ≡ from_form t
unfolding from_form
form_within t h = on_ge limit.form (length t) (read_conversion (form_reading t)) _ _ h refl

-- a fault is told before the limit of the octets, however many they are (promise Q1e)
pub fault_before_limit : (t : List ℕ) (p : ℕ) → length t ≤ limit.form → FirstFault t p → refuses refusal.bad_form p ≡ from_form t
unfolding read_conversion
fault_before_limit t p h f = sym (ap read_conversion (fault_there t p f)) ∙ form_within t h

-- a form without fault that stands for more octets than a string has
pub octets_over : (t bs : List ℕ) → length t ≤ limit.form → form_reading t ≡ stands_for bs → limit.octets < length bs
    → refuses refusal.too_long 0 ≡ from_form t
unfolding read_conversion
octets_over t bs h r k =
    on_lt limit.octets (length bs) (refuses refusal.too_long 0) _ _ k refl ∙ sym (ap read_conversion r) ∙ form_within t h

-- ---- both ways undo each other

-- what is given, and that the limits are kept
given_form : (s f : List ℕ) → to_form s ≡ gives f → (length s ≤ limit.octets) × (resource_form s ≡ f)
unfolding to_form pick
given_form s f e =
    test (ltb limit.octets (length s)) (λ q. clash (cc (rw q at e)))
    (λ q. (ltb-false limit.octets (length s) q, let g : gives (resource_form s) ≡ gives f = rw q at e in cc g))

given_octets : (t s : List ℕ) → from_form t ≡ gives s → (length t ≤ limit.form) × (form_reading t ≡ stands_for s) × (length s ≤ limit.octets)
unfolding from_form read_conversion pick
given_octets t s e = test (ltb limit.form (length t)) (λ q. clash (cc (rw q at e))) (λ q. go (ltb-false _ _ q) (form_reading t) refl (rw q at e))
  where
    go : length t ≤ limit.form → (r : FormReading) → form_reading t ≡ r → read_conversion r ≡ gives s
        → (length t ≤ limit.form) × (form_reading t ≡ stands_for s) × (length s ≤ limit.octets)
    go h (fault_at p) q g = clash (cc g)
    go h (stands_for bs) q g =
        test (ltb limit.octets (length bs)) (λ k. clash (cc (rw k at g)))
        (λ k. let same : gives bs ≡ gives s = rw k at g in let is : bs ≡ s = cc same in
        (h, q ∙ ap stands_for is, subst (λ (x : List ℕ). length x ≤ limit.octets) is (ltb-false limit.octets (length bs) k)))

-- the form that the writer gives is read as the octets that it was given, and is within its limit (promises Q1a, Q1d)
pub written_read : (s t : List ℕ) → to_form s ≡ gives t → from_form t ≡ gives s
unfolding from_form read_conversion pick
written_read s t e =
    let given = given_form s t e in
    let short = given.0 in
    let long = (form_length s).1 in
    let is = given.1 in
    let reading : form_reading t ≡ stands_for s = ap form_reading (sym is) ∙ read_of_form s in
    rw (le-ltb limit.form (length t) (omega (arith, ap length is)), reading, le-ltb limit.octets (length s) short)

-- a form that the reader accepts is the one that the writer gives for its octets (promise Q1b)
pub read_written : (t s : List ℕ) → from_form t ≡ gives s → to_form s ≡ gives t
unfolding to_form pick
read_written t s e =
    let given = given_octets t s e in
    rw (le-ltb limit.octets (length s) given.2) (ap gives (sym (form_of_read t s given.1)))

-- two forms that are read as the same octets are one
pub only_form : (t u s : List ℕ) → from_form t ≡ gives s → from_form u ≡ gives s → t ≡ u
only_form t u s e f =
    let g : gives t ≡ gives u = sym (read_written t s e) ∙ read_written u s f in
    cc g

-- ---- the answer and the output

-- an input is refused with 1 at 0 or with 13, or octets are given
pub data Answered : Conversion → Type 0 where
  too_long : Answered (refuses refusal.too_long 0)
  bad_form : (p : ℕ) → Answered (refuses refusal.bad_form p)
  octets_given : (bs : List ℕ) → Answered (gives bs)

pub writer_answered : (s : List ℕ) → Answered (to_form s)
unfolding to_form
writer_answered s = pick_by Answered (ltb limit.octets (length s)) (λ _. too_long) (λ _. octets_given (resource_form s))

of_reading_lem : (r : FormReading) → Answered (read_conversion r)
unfolding read_conversion
of_reading_lem (fault_at p) = bad_form p
of_reading_lem (stands_for bs) = pick_by Answered (ltb limit.octets (length bs)) (λ _. too_long) (λ _. octets_given bs)

pub reader_answered : (t : List ℕ) → Answered (from_form t)
unfolding from_form
reader_answered t = pick_by Answered (ltb limit.form (length t)) (λ _. too_long) (λ _. of_reading_lem (form_reading t))

-- of either way: what is accepted has the input's length as its place, and octets that were given
pub accepted_place : {x : Conversion} → Answered x → (n m : ℕ) → (conversion_answer x n m).number ≡ refusal.accepted
    → (conversion_answer x n m).place ≡ n
unfolding given_answer conversion_answer pick
accepted_place too_long n m e = absurd (omega (arith, e))
accepted_place (bad_form p) n m e = absurd (omega (arith, e))
accepted_place (octets_given bs) n m e = test (leb (length bs) m) (λ q. rw q) (λ q. absurd (omega (arith, rw q at e)))

-- a refusal leaves the output, whatever it held (promise M1)
pub refused_stays : {x : Conversion} → Answered x → (n : ℕ) (out : List ℕ) → ((conversion_answer x n (length out)).number ≡ refusal.accepted → ⊥)
    → conversion_output x out ≡ out
unfolding given_answer conversion_answer conversion_output stored_in pick
refused_stays too_long n out never = refl
refused_stays (bad_form p) n out never = refl
refused_stays (octets_given bs) n out never = test (leb (length bs) (length out)) (λ q. absurd (never (rw q))) (λ q. rw q)

-- where octets are given: accepted, they stand from the output's first place on, and the rest stays; refused with 10, they do not fit, and their
-- count is told, so that an output of so many is the shortest that is enough (promise Q1f)
module _ (bs : List ℕ) (n : ℕ) where
  pub accepted_stored : (out : List ℕ) → (conversion_answer (gives bs) n (length out)).number ≡ refusal.accepted
      → ((conversion_answer (gives bs) n (length out)).count ≡ length bs) × (conversion_output (gives bs) out ≡ bs ++ drop (length bs) out)
  unfolding given_answer conversion_answer conversion_output stored_in pick
  accepted_stored out e = test (leb (length bs) (length out)) (λ q. rw q (refl, refl)) (λ q. absurd (omega (arith, rw q at e)))

  pub no_room_exactly : (m : ℕ) → (conversion_answer (gives bs) n m).number ≡ refusal.no_room
      → ((conversion_answer (gives bs) n m).count ≡ length bs) × (m < length bs)
  unfolding given_answer conversion_answer pick
  no_room_exactly m e = test (leb (length bs) m) (λ q. absurd (omega (arith, rw q at e))) (λ q. (rw q, leb-false (length bs) m q))
