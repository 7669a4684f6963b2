-- The answer and the output at the end are those of the writer. By how the pen came to the end: a record was refused, the string is over the limit or has no
-- room, or it is stored and the 00 follows it. A list that is over the limit is not looked at.
use Rattle.element.proofs.Names.{ℕ, ◌+◌, ◌-◌, ◌≤◌, ◌<◌, arith, ◌≡◌, refl, sym, ap, ◌∙◌, subst, cond, List, [], ◌∷◌, ◌++◌, some, ◌⊎◌, inl, inr}
use Rattle.element.proofs.Names.{eqb, leb, ltb, eqb-true, eqb-false, ltb-true, ltb-false, leb-true, leb-false, ne_eqb, lt-ltb, le-ltb, le-leb, lt-leb}
use Rattle.element.proofs.Names.{length}
use Rattle.element.proofs.Names.{get_or, set, sets, not-suc-le-zero, length-append, test, pick_by, pick, Answer, UnitRecord, answer, refused_at}
use mathlib.Core.List.{append-nil}
use Rattle.base.proofs.Stores.{stored_sets}
use Rattle.base.specs.Limit as limit
use Rattle.base.specs.Output.{stored_in}
use Rattle.base.specs.Refusal as refusal
use Rattle.check_list.specs.Turn.{looked_at}
use Rattle.grammar.specs.Records.{list_reading}
use Rattle.shortest.specs.Offence.{no_record}
use Rattle.shortest.specs.Records.{fine, faulty}
use Rattle.unit_octets.specs.Octets.{Written}
use Rattle.unit_octets.proofs.Storing.{written_1, written_both, written_as, written_length}
use Rattle.x11r5.specs.Records.{first_refused, null_ended_answer, r5_writer_answer, r5_writer_output}
use Rattle.r5_pen.specs.Pen.{ample_for, looked_first, begun_at, turn_of, output_of, finish_answer, finish_output}
use Rattle.r5_pen.specs.declared.Pen.{Pen}
use Rattle.write.specs.Stowed.{quick_run}
use Rattle.r5_write.proofs.Going.{units_by, units_length, going_begun, fine_reading, counts_over, counts_within, whole, Fits, Storing, Stopped}
use Rattle.r5_write.proofs.Going.{Unfit, Going}
use Rattle.r5_write.proofs.Going.{counting, checking, storing', stopped, unfit, rest_from, rest_none, turned}

-- what the definitions say of an answer and an output
pub record Ended (rs : List UnitRecord) (o before : List ℕ) (a : Answer) (after : List ℕ) : Type 0 where
  pub answers : a ≡ r5_writer_answer rs o (length before)
  pub output : after ≡ r5_writer_output rs o before

-- ---- the definitions, by the first offending record

module _ (rs : List UnitRecord) (o before : List ℕ) (few : length rs ≤ limit.units) where
  abbrev text : List ℕ
  text = whole rs o before

  faulty_ended : (k i : ℕ) → first_refused o rs 0 ≡ faulty k i → (k ≡ refusal.accepted → ⊥) → Ended rs o before (refused_at k i) before
  unfolding r5_writer_answer r5_writer_output
  faulty_ended k i e ne =
      let l = le-ltb limit.units (length rs) few in
      record { answers = rw (l, e); output = rw (l, e, ne_eqb k refusal.accepted ne) }

  module _ (e : first_refused o rs 0 ≡ fine) where
    reading : list_reading o rs ≡ some (units_by rs)
    reading = fine_reading o rs 0 e

    long-ended : limit.octets < length text → Ended rs o before (refused_at refusal.too_long 0) before
    unfolding r5_writer_answer r5_writer_output null_ended_answer
    long-ended h =
        let l = le-ltb limit.units (length rs) few in
        let w = lt-ltb limit.octets (length text) h in
        record { answers = rw (l, e, reading, w); output = rw (l, e, reading, w) }

    short-ended : length text ≤ limit.octets → length before ≤ length text → Ended rs o before (answer refusal.no_room 0 (length text + 1)) before
    unfolding r5_writer_answer r5_writer_output null_ended_answer
    short-ended h m =
        let l = le-ltb limit.units (length rs) few in
        let w = le-ltb limit.octets (length text) h in
        let v = lt-ltb (length before) (length text + 1) (omega arith) in
        record { answers = rw (l, e, reading, w, v); output = rw (l, e, reading, w, v) }

    written-ended : length text ≤ limit.octets → length text < length before
        → Ended rs o before (answer refusal.accepted (length rs) (length text + 1)) (stored_in (text ++ (0x00 ∷ [])) before)
    unfolding r5_writer_answer r5_writer_output null_ended_answer
    written-ended h m =
        let l = le-ltb limit.units (length rs) few in
        let w = le-ltb limit.octets (length text) h in
        let v = le-ltb (length before) (length text + 1) (omega arith) in
        record { answers = rw (l, e, reading, w, v, units_length rs); output = rw (l, e, reading, w, v) }

-- ---- the pen at the end

module _ (p : Pen) (k : ℕ) (few : k ≤ limit.units) where
  abbrev Gives : ℕ → Answer → Type 0
  Gives m a = finish_answer p k m ≡ a

  abbrev Leaves : List ℕ → List ℕ → Type 0
  Leaves l y = finish_output p k l ≡ y

  -- by the list's length, and by whether a record was refused
  answer_by_lem : (m : ℕ) (a : Answer) → ((p.number ≡ refusal.accepted → ⊥) → refused_at p.number p.place ≡ a)
      → (p.number ≡ refusal.accepted → pick (ltb limit.octets p.at) (refused_at refusal.too_long 0)
      (pick (leb m p.at) (answer refusal.no_room 0 (p.at + 1)) (answer refusal.accepted k (p.at + 1))) ≡ a) → Gives m a
  unfolding finish_answer
  answer_by_lem m a f g =
      pick_by (λ (x : Answer). x ≡ a) (ltb limit.units k) (λ t. absurd (omega (arith, ltb-true limit.units k t)))
      (λ _. pick_by (λ (x : Answer). x ≡ a) (eqb p.number refusal.accepted) (λ t. g (eqb-true _ _ t)) (λ t. f (eqb-false _ _ t)))

  output_by_lem : (l y : List ℕ) → ((p.number ≡ refusal.accepted → ⊥) → l ≡ y)
      → (p.number ≡ refusal.accepted → pick (ltb limit.octets p.at) l (pick (leb (length l) p.at) l (set l p.at 0x00)) ≡ y) → Leaves l y
  unfolding finish_output
  output_by_lem l y f g =
      pick_by (λ (x : List ℕ). x ≡ y) (ltb limit.units k) (λ t. absurd (omega (arith, ltb-true limit.units k t)))
      (λ _. pick_by (λ (x : List ℕ). x ≡ y) (eqb p.number refusal.accepted) (λ t. g (eqb-true _ _ t)) (λ t. f (eqb-false _ _ t)))

  pub gives_refused : (m : ℕ) (l : List ℕ) → (p.number ≡ refusal.accepted → ⊥) → Gives m (refused_at p.number p.place) × Leaves l l
  gives_refused m l ne = (answer_by_lem m _ (λ _. refl) (λ e. absurd (ne e)), output_by_lem l l (λ _. refl) (λ e. absurd (ne e)))

  module _ (e : p.number ≡ refusal.accepted) where
    pub gives_long : (m : ℕ) (l : List ℕ) → limit.octets < p.at → Gives m (refused_at refusal.too_long 0) × Leaves l l
    unfolding pick
    gives_long m l h =
        let t = lt-ltb limit.octets p.at h in
        (answer_by_lem m _ (λ ne. absurd (ne e)) (λ _. rw t), output_by_lem l l (λ ne. absurd (ne e)) (λ _. rw t))

    pub gives_short : (m : ℕ) (l : List ℕ) → p.at ≤ limit.octets → m ≤ p.at → length l ≤ p.at
        → Gives m (answer refusal.no_room 0 (p.at + 1)) × Leaves l l
    unfolding pick
    gives_short m l h g g' =
        let t = le-ltb limit.octets p.at h in (
          answer_by_lem m _ (λ ne. absurd (ne e)) (λ _. rw (t, le-leb m p.at g)),
          output_by_lem l l (λ ne. absurd (ne e)) (λ _. rw (t, le-leb (length l) p.at g')),
        )

    pub gives_written : (l : List ℕ) → p.at ≤ limit.octets → p.at < length l
        → Gives (length l) (answer refusal.accepted k (p.at + 1)) × Leaves l (set l p.at 0x00)
    unfolding pick
    gives_written l h g =
        let t = le-ltb limit.octets p.at h in
        let v = lt-leb (length l) p.at g in
        (answer_by_lem (length l) _ (λ ne. absurd (ne e)) (λ _. rw (t, v)), output_by_lem l _ (λ ne. absurd (ne e)) (λ _. rw (t, v)))

-- ---- both together

module _ (rs : List UnitRecord) (o before : List ℕ) (few : length rs ≤ limit.units) (p : Pen) where
  abbrev Ends : List ℕ → Type 0
  Ends l = Ended rs o before (finish_answer p (length rs) (length before)) (finish_output p (length rs) l)

  by : (l : List ℕ) {a : Answer} {y : List ℕ} → (finish_answer p (length rs) (length before) ≡ a) × (finish_output p (length rs) l ≡ y)
      → Ended rs o before a y → Ends l
  by l g d = record { answers = g.0 ∙ d.answers; output = g.1 ∙ d.output }

  ends_stopped : Stopped rs o before p → Ends before
  ends_stopped s =
      by before (gives_refused p (length rs) few (length before) before s.refuses) (faulty_ended rs o before few _ _ s.found s.refuses)

  ends_unfit : Unfit rs o before p → Ends before
  ends_unfit u =
      test (ltb limit.octets p.at)
      (λ t. let h = ltb-true limit.octets p.at t in
      by before (gives_long p (length rs) few u.accepts (length before) before h)
      (long-ended rs o before few u.none_refused_lem (counts_over p.at _ u.count h)))
      (λ t. let h = ltb-false limit.octets p.at t in
      let m = no_room h u.no-fit in
      let k = counts_within p.at _ u.count h in
      by before (gives_short p (length rs) few u.accepts (length before) before h m m)
      (subst (λ (x : ℕ). Ended rs o before (answer refusal.no_room 0 (x + 1)) before) k
      (short-ended rs o before few u.none_refused_lem (omega arith) (omega arith))))
    where
      no_room : p.at ≤ limit.octets → (limit.octets < p.at) ⊎ (length before ≤ p.at) → length before ≤ p.at
      no_room h (inl g) = absurd (omega arith)
      no_room h (inr g) = g

  ends_stored : (l : List ℕ) → Fits rs o before → Storing rs o before p l → length rs ≤ p.index → Ends l
  ends_stored l f s h =
      let e : s.done ≡ whole rs o before
      = sym (append-nil s.done) ∙ ap (λ (y : List ℕ). s.done ++ y) (sym (rest_none rs o before p.index p.gl p.gr h)) ∙ s.rest in
      let w : Written before 0 (whole rs o before) p.at l = written_as (sym e) s.put in
      let k : length (whole rs o before) ≡ p.at = omega (arith, w.next) in
      let m = written_length w in
      let both : Written before 0 (whole rs o before ++ (0x00 ∷ [])) (p.at + 1) (set l p.at 0x00) = written_both w (written_1 l p.at 0x00) in
      by l
      (subst (λ (x : ℕ). (finish_answer p (length rs) x ≡ answer refusal.accepted (length rs) (p.at + 1))
      × (finish_output p (length rs) l ≡ set l p.at 0x00)) m
      (gives_written p (length rs) few s.accepts l (omega (arith, f.within)) (omega (arith, f.room))))
      (subst (λ (x : ℕ). Ended rs o before (answer refusal.accepted (length rs) (x + 1)) (set l p.at 0x00)) k
      (subst (λ (y : List ℕ). Ended rs o before (answer refusal.accepted (length rs) (length (whole rs o before) + 1)) y)
      (sym (stored_sets (whole rs o before ++ (0x00 ∷ [])) before (set l p.at 0x00)
      (omega (arith, f.room, length-append (whole rs o before) (0x00 ∷ []))) both.now))
      (written-ended rs o before few f.none_refused_lem f.within f.room)))

  ends : (l : List ℕ) → Going rs o before p l → length rs ≤ p.index → Ends l
  ends l (counting c few' k e) h = absurd (omega arith)
  ends l (checking c k e) h = absurd (omega arith)
  ends l (storing' f s) h = ends_stored l f s h
  ends l (stopped s e) h = subst Ends (sym e) (ends_stopped s)
  ends l (unfit u e) h = subst Ends (sym e) (ends_unfit u)

-- ---- the records that are looked at: all, but none of a list that is too long

unfoldable pub looked : List UnitRecord → List UnitRecord
looked us = pick (leb (length us) limit.units) us []

pub looked_length : (us : List UnitRecord) → length (looked us) ≡ looked_at (length us)
unfolding looked looked_at pick
looked_length us = test (leb (length us) limit.units) (λ e. rw e) (λ e. rw e)

-- where the pen begins, by the records that are looked at first
pub first_least : (n m : ℕ) → looked_first n m ≤ n
unfolding looked_first
first_least n m = pick_by (λ (k : ℕ). k ≤ n) (ample_for n m) (λ _. omega arith) (λ _. omega arith)

first_begun : (us : List UnitRecord) (n m : ℕ) → begun_at (quick_run us (looked_first n m) 0) n m ≡ begun_at (quick_run us n 0) n m
unfolding begun_at looked_first pick
first_begun us n m = test (ample_for n m) (λ a. rw a) (λ a. rw a)

pub looked_begun : (us : List UnitRecord) (o before : List ℕ)
    → let n = looked_at (length us) in
    Going (looked us) o before (begun_at (quick_run us (looked_first n (length before)) 0) n (length before)) before
unfolding looked looked_at pick quick_run
looked_begun us o before =
    subst (λ (p : Pen). Going (looked us) o before p before) (sym (first_begun us (looked_at (length us)) (length before)))
    (test (leb (length us) limit.units) (λ e. rw e (going_begun us o before)) (λ e. rw e (going_begun [] o before)))

pub looked_most : (n : ℕ) → looked_at n ≤ n
unfolding looked_at
looked_most n = pick_by (λ m. m ≤ n) (leb n limit.units) (λ _. omega arith) (λ _. omega arith)

pub looked_record : (us : List UnitRecord) (i : ℕ) → i < looked_at (length us) → get_or (looked us) i no_record ≡ get_or us i no_record
unfolding looked looked_at pick
looked_record us i h = test (leb (length us) limit.units) (λ e. rw e) (λ e. absurd (omega (arith, rw e at h)))

-- what is left to do in a list of n records
abbrev pub remaining : ℕ → Pen → ℕ
remaining n p = cond p.stores 0 n + (n - p.index)

module _ (us : List UnitRecord) (o before : List ℕ) (p : Pen) (l : List ℕ) where
  -- what a turn leaves of a record, in a list of n
  abbrev Leaves' : ℕ → UnitRecord → Type 0
  Leaves' n r = Going (looked us) o before (turn_of p r n o (length l)) (output_of p r n l) × (remaining n (turn_of p r n o (length l)) < remaining n p)

  pub looked_turned : p.index < looked_at (length us) → Going (looked us) o before p l → Leaves' (looked_at (length us)) (get_or us p.index no_record)
  looked_turned h g =
      subst (Leaves' (looked_at (length us))) (looked_record us p.index h)
      (subst (λ (n : ℕ). Leaves' n (get_or (looked us) p.index no_record)) (looked_length us)
      (turned (looked us) o before p l (rw (looked_length us) h) g))

  abbrev End : Type 0
  End = Ended us o before (finish_answer p (length us) (length before)) (finish_output p (length us) l)

  too_long : limit.units < length us → l ≡ before → End
  unfolding r5_writer_answer r5_writer_output finish_answer finish_output pick
  too_long h e = let t = lt-ltb limit.units (length us) h in record { answers = rw t; output = rw t e }

  pub ended : Going (looked us) o before p l → length (looked us) ≤ p.index → End
  unfolding looked pick
  ended g h =
      test (leb (length us) limit.units)
      (λ t. ends us o before (leb-true (length us) limit.units t) p l (rw t at g) (rw t at h))
      (λ t. too_long (leb-false (length us) limit.units t) (unlooked p l (rw t at g)))
    where
      empty : (xs : List ℕ) → length xs ≤ 0 → xs ≡ []
      empty [] h = refl
      empty (x ∷ xs) h = absurd (not-suc-le-zero h)

      unlooked : (p : Pen) (l : List ℕ) → Going [] o before p l → l ≡ before
      unlooked p l (counting c few k e) = e
      unlooked p l (checking c k e) = e
      unlooked p l (storing' f s) =
          let rest = rest_from [] o before p.index p.gl p.gr in
          s.put.now ∙ ap (λ (y : List ℕ). sets before 0 y) (empty s.done
          (omega (arith, ap length s.rest, length-append s.done rest, ap length (rest_none [] o before 0 0 3 (omega arith)))))
      unlooked p l (stopped s e) = e
      unlooked p l (unfit u e) = e
