-- The answer of the X11R5 writer is that of rule X7, exactly (`outcome`): each test of `r5_writer_answer` is one case. From it: where it accepts
-- (`accepts_where`), that it has five numbers (`numbers`), and what the output holds: a refusal leaves it (`refused_output`), and an answer of 0 gives the
-- string with its 00 (`accepted_output`), which both readers read as the units (`output_read`).
use Rattle.element.proofs.Names.{ℕ, ◌-◌, ◌≤◌, arith, ◌≡◌, refl, sym, ap, ap₂, ◌∙◌, subst, List, [], ◌∷◌, ◌++◌, Option, none, some}
use Rattle.element.proofs.Names.{Option·some-injective, ◌↔◌, inl, inr, length, take, drop, length-append, length-drop, take-append_seam, ltb, ltb-true}
use Rattle.element.proofs.Names.{ltb-false, lt-ltb, le-ltb, eqb, eqb-true, eqb-false, eq-eqb, ne_eqb, test, cond_by, answer, Answer, UnitRecord}
use mathlib.Core.Option.{none-ne-some}
use mathlib.Core.List.{append_assoc, append-nil}
use Rattle.base.proofs.Stores.{stored_fits}
use Rattle.base.specs.Limit as limit
use Rattle.base.specs.Output.{stored_in}
use Rattle.base.specs.Refusal as refusal
use Rattle.grammar.specs.Records.{list_reading}
use Rattle.grammar.specs.Units.{TextUnit}
use Rattle.shortest.proofs.Records.{reading_length}
use Rattle.shortest.specs.Records.{Finding, fine, faulty, after_check}
use Rattle.x11r5.specs.Outcome.{Served, ended_count, Outcome, long_list, offending, long_writing, short_output, written, Accepts, Number, Given}
use Rattle.x11r5.specs.Outcome.{ReadBack}
use Rattle.x11r5.specs.Records.{first_refused, null_ended_answer, of_units, r5_writer_answer, r5_writer_output}
use Rattle.x11r5.specs.Theorems.{NullReadAs}
use Rattle.x11r5.specs.Writing.{unended_of, null_ended_of}
use Rattle.x11r5.proofs.Offence.{not_zero, offence, fine_units, units_fine}
use Rattle.x11r5.proofs.Writing.{unended_read, ended_read}

-- number, place and count of an answer
abbrev Of : (ℕ → ℕ → ℕ → Type 0) → Answer → Type 0
Of P a = P a.number a.place a.count

module _ (rs : List UnitRecord) (o : List ℕ) (m : ℕ) where
  -- the answer is an outcome
  abbrev Is : Answer → Type 0
  Is = Of (Outcome rs o m)

  writing_outcome : (us : List TextUnit) → Served rs o us → Is (null_ended_answer us m)
  unfolding null_ended_answer
  writing_outcome us v =
      cond_by Is (ltb limit.octets (length (unended_of us))) (λ p. long_writing us v (ltb-true _ _ p))
      (λ p. cond_by Is (ltb m (ended_count us)) (λ q. short_output us v (ltb-false _ _ p) (ltb-true _ _ q))
      (λ q. rw (reading_length o rs us v.reading) (written us v (ltb-false _ _ p) (ltb-false _ _ q))))

  is_outcome : Is (r5_writer_answer rs o m)
  unfolding r5_writer_answer
  is_outcome =
      cond_by Is (ltb limit.units (length rs)) (λ e. long_list (ltb-true _ _ e)) (λ e. check (ltb-false _ _ e) (first_refused o rs 0) refl)
    where
      reading : length rs ≤ limit.units → first_refused o rs 0 ≡ fine → (x : Option (List TextUnit)) → list_reading o rs ≡ x → Is (of_units x m)
      reading l c none e = absurd (none-ne-some _ (sym e ∙ (fine_units o rs c).reading))
      reading l c (some us) e =
          let f = fine_units o rs c in
          let s : f.units ≡ us = Option·some-injective _ _ (sym f.reading ∙ e) in
          writing_outcome us (record { list = l; reading = e; good_ones = rw s at f.good_ones; supported = rw s at f.supported })

      check : length rs ≤ limit.units → (c : Finding) → first_refused o rs 0 ≡ c → Is (after_check c (of_units (list_reading o rs) m))
      check l fine e = reading l e (list_reading o rs) refl
      check l (faulty n i) e = offending l ((offence o rs n i).0 e)

  -- an outcome is the answer
  served : (us : List TextUnit) → Served rs o us → r5_writer_answer rs o m ≡ null_ended_answer us m
  unfolding r5_writer_answer
  served us v = rw (le-ltb _ _ v.list, units_fine o rs us 0 v.reading v.good_ones v.supported, v.reading)

  pub outcome_is : {n p c : ℕ} → Outcome rs o m n p c → r5_writer_answer rs o m ≡ answer n p c
  unfolding r5_writer_answer null_ended_answer
  outcome_is (long_list h) = rw (lt-ltb limit.units)
  outcome_is (offending {n} {i} h f) = rw (le-ltb limit.units, (offence o rs n i).1 f)
  outcome_is (long_writing us v h) = served us v ∙ rw (lt-ltb limit.octets)
  outcome_is (short_output us v h k) = served us v ∙ rw (le-ltb limit.octets, lt-ltb m)
  outcome_is (written us v h k) = served us v ∙ rw (le-ltb limit.octets, le-ltb m, reading_length o rs us v.reading)

  -- the order of its refusals, whole
  pub outcome : (n p c : ℕ) → (r5_writer_answer rs o m ≡ answer n p c) ↔ Outcome rs o m n p c
  outcome n p c = (λ e. subst Is e is_outcome, outcome_is)

  -- ---- what the numbers mean

  abbrev number : ℕ
  number = (r5_writer_answer rs o m).number

  -- 0
  pub accepts_where : (number ≡ refusal.accepted) ↔ Accepts rs o m
  accepts_where = (λ e. accepted (rw e at is_outcome), λ w. ap (λ (a : Answer). a.number) (outcome_is (written w.0 w.1 w.2 w.3)))
    where
      accepted : {p c : ℕ} → Outcome rs o m refusal.accepted p c → Accepts rs o m
      accepted (offending h f) = absurd (not_zero f.number refl)
      accepted (written us v h k) = (us, v, h, k)

  -- 0, 1, 10, 11 and 15 are all
  pub numbers : Number number
  numbers = go is_outcome
    where
      go : {n p c : ℕ} → Outcome rs o m n p c → Number n
      go (long_list h) = inr (inl refl)
      go (offending h f) = inr (inr (inr f.number))
      go (long_writing us v h) = inr (inl refl)
      go (short_output us v h k) = inr (inr (inl refl))
      go (written us v h k) = inl refl

-- ---- the output

ended_length : (us : List TextUnit) → length (null_ended_of us) ≡ ended_count us
ended_length us = length-append (unended_of us) (0x00 ∷ [])

module _ (rs : List UnitRecord) (o out : List ℕ) where
  abbrev answered : Answer
  answered = r5_writer_answer rs o (length out)

  abbrev output : List ℕ
  output = r5_writer_output rs o out

  -- a refusal leaves it
  pub refused_output : (answered.number ≡ refusal.accepted → ⊥) → output ≡ out
  unfolding r5_writer_output
  refused_output n = rw (ne_eqb _ _ n)

  -- else the string and its 00 stand at its start, and the rest stays
  pub accepted_output : answered.number ≡ refusal.accepted → Given rs o out
  unfolding r5_writer_output
  accepted_output e =
      let w = (accepts_where rs o (length out)).0 e in
      let us = w.0 in
      let text = null_ended_of us in
      let n = ended_length us in
      let stored : text ++ drop (ended_count us) out ≡ stored_in text out =
      stored_fits text out _ (omega (arith, n, w.3)) (ap (λ (k : ℕ). text ++ drop k out) (sym n)) in
      record {
        units = us;
        served = w.1;
        answers = outcome_is rs o (length out) (written us w.1 w.2 w.3);
        short = w.2;
        fits = w.3;
        holds = rw (eq-eqb _ _ e, w.1.reading) (sym stored);
      }

  -- so many octets of it: all of the string, and all but the 00
  counted : (g : Given rs o out) → answered.count ≡ ended_count g.units
  counted g = ap (λ (a : Answer). a.count) g.answers

  output_string : (g : Given rs o out) → take answered.count output ≡ null_ended_of g.units
  output_string g =
      let text = null_ended_of g.units in
      ap₂ (λ (k : ℕ) (xs : List ℕ). take k xs) (counted g ∙ sym (ended_length g.units)) g.holds
      ∙ take-append_seam text (drop (ended_count g.units) out)

  output_unended : (g : Given rs o out) → take (answered.count - 1) output ≡ unended_of g.units
  output_unended g =
      let text = unended_of g.units in
      let rest = drop (ended_count g.units) out in
      let k : answered.count - 1 ≡ length text = omega (arith, counted g) in
      ap₂ (λ (k : ℕ) (xs : List ℕ). take k xs) k (g.holds ∙ append_assoc text (0x00 ∷ []) rest)
      ∙ take-append_seam text ((0x00 ∷ []) ++ rest)

  -- what was written is read back
  pub output_read : answered.number ≡ refusal.accepted
      → (us : List TextUnit) × (list_reading o rs ≡ some us) × ReadBack us answered output
  output_read e =
      let g = accepted_output e in
      let us = g.units in
      let v = g.served in
      let back = ended_read us v.good_ones v.supported g.short in (
        us,
        v.reading,
        record {
          counted = rw (output_string g) (subst (λ (t : List ℕ). NullReadAs t us) (append-nil (null_ended_of us)) (back []));
          whole = rw g.holds (back (drop (ended_count us) out));
          unended = rw (output_unended g) (unended_read us v.good_ones v.supported g.short);
        },
      )

  -- the output keeps its length
  pub output_length : length output ≡ length out
  output_length =
      test (eqb answered.number refusal.accepted)
      (λ e. let g = accepted_output (eqb-true _ _ e) in
      rw (g.holds, length-append, length-drop) (omega (arith, ended_length g.units, g.fits)))
      (λ e. ap length (refused_output (eqb-false _ _ e)))
