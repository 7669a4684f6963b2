-- The answer and the output of a conversion, by what it is: a refusal, octets that have no room, and octets that have it. And what a reading is converted
-- to, by what was found when the form was looked over.
use Prim.Native.Nat.{ℕ, ◌≤◌, ◌<◌}
use mathlib.Core.Path.{◌≡◌, refl, ap}
use mathlib.Core.List.{List}
use lib.ListN.{length}
use Rattle.std.specs.Prelude.{Ok, Err}
use Rattle.base.specs.Answers.{answer, refused_at}
use Rattle.base.specs.Limit as limit
use Rattle.base.specs.Refusal as refusal
use Rattle.base.specs.Output.{stored_in}
use Rattle.base.specs.declared.Answer.{Answer}
use Rattle.base.proofs.Bools.{clash}
use Rattle.base.proofs.Ladder.{on_le, on_gt, on_lt, on_ge}
use Rattle.base.proofs.Stores.{stored_not}
use Rattle.resource_form.specs.Form.{FormReading, stands_for, fault_at}
use Rattle.resource_form.specs.Conversion.{Conversion, refuses, gives, read_conversion, given_answer, conversion_answer, conversion_output}
use Rattle.resource.specs.Scan.{scan_of, octets_of}
use Rattle.resource.specs.declared.read.Fault.{Fault}

-- an answer and an output are those of a conversion of n octets
abbrev pub Converted : Conversion → ℕ → List ℕ → Answer → List ℕ → Type 0
Converted x n out r after = (r ≡ conversion_answer x n (length out)) × (after ≡ conversion_output x out)

module _ (n : ℕ) (out : List ℕ) (r : Answer) where
  pub converted_refused : (number place : ℕ) (x : Conversion) → refuses number place ≡ x → r ≡ refused_at number place → Converted x n out r out
  unfolding conversion_answer conversion_output
  converted_refused number place x q e = rw (← q) (e, refl)

  pub converted_as : (x y : Conversion) (after : List ℕ) → x ≡ y → Converted x n out r after → Converted y n out r after
  converted_as x y after e h = rw (← e) h

  module _ (bs : List ℕ) (x : Conversion) (q : gives bs ≡ x) (k : ℕ) (is : k ≡ length bs) where
    pub converted_short : length out < k → r ≡ answer refusal.no_room 0 k → Converted x n out r out
    unfolding conversion_answer conversion_output given_answer
    converted_short h e =
        rw (← q) (
          on_gt (length bs) (length out) r (answer refusal.accepted n (length bs)) (answer refusal.no_room 0 (length bs)) (rw is at h) (rw is at e),
          stored_not bs out out (rw is at h) refl,
        )

    pub converted_fits : (after : List ℕ) → k ≤ length out → r ≡ answer refusal.accepted n k → after ≡ stored_in bs out
        → Converted x n out r after
    unfolding conversion_answer conversion_output given_answer
    converted_fits after h e f =
        rw (← q)
        (on_le (length bs) (length out) r (answer refusal.accepted n (length bs)) (answer refusal.no_room 0 (length bs)) (rw is at h) (rw is at e), f)

-- a reading, by what was found when the form was looked over
pub reading_faulty : (r : FormReading) (p : ℕ) → Err (record { place = p }) ≡ scan_of r → refuses refusal.bad_form p ≡ read_conversion r
unfolding scan_of read_conversion
reading_faulty (stands_for bs) p e = clash (cc e)
reading_faulty (fault_at q) p e =
    let same : ◌≡◌ {A = Fault} (record { place = p }) (record { place = q }) = cc e in
    ap (λ (f : Fault). refuses refusal.bad_form f.place) same

pub reading_length : (r : FormReading) (k : ℕ) → Ok k ≡ scan_of r → k ≡ length (octets_of r)
unfolding scan_of octets_of
reading_length (stands_for bs) k e = let f : k ≡ length bs = cc e in f
reading_length (fault_at q) k e = clash (cc e)

pub reading_over : (r : FormReading) (k : ℕ) → Ok k ≡ scan_of r → limit.octets < k → refuses refusal.too_long 0 ≡ read_conversion r
unfolding scan_of read_conversion
reading_over (stands_for bs) k e h =
    on_lt limit.octets (length bs) (refuses refusal.too_long 0) _ _ (let f : k ≡ length bs = cc e in rw f at h) refl
reading_over (fault_at q) k e h = clash (cc e)

pub reading_within : (r : FormReading) (k : ℕ) → Ok k ≡ scan_of r → k ≤ limit.octets → gives (octets_of r) ≡ read_conversion r
unfolding scan_of octets_of read_conversion
reading_within (stands_for bs) k e h = on_ge limit.octets (length bs) (gives bs) _ _ (let f : k ≡ length bs = cc e in rw f at h) refl
reading_within (fault_at q) k e h = clash (cc e)
