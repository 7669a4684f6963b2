-- What is printed, by the answer of `rewrite::shortest`: where it is accepted the octets stored are what is printed (`Form`), and where it
-- has a count beside a refusal they are as many as are printed and the output stays; else the line of the refusal is printed (`Line`).
-- The answer depends on the output's length only where that is too short for the shortest form, and then the count is not 0.
use Rattle.element.proofs.Names.{ℕ, ◌≤◌, ◌<◌, arith, ◌≡◌, refl, ap, sym, ◌∙◌, subst, List, ◌++◌, some, Option·some-injective, length, drop, eqb}
use Rattle.element.proofs.Names.{eqb-true, eqb-false, eq-eqb, ne_eqb, answer, pick, test, Answer, UnitRecord, fresh}
use Rattle.base.specs.Limit as limit
use Rattle.base.specs.Refusal as refusal
use Rattle.grammar.specs.Reading.{check_of, reading_of}
use Rattle.grammar.specs.Records.{list_reading}
use Rattle.grammar.specs.Units.{TextUnit}
use Rattle.grammar.proofs.Agrees.{refused_count}
use Rattle.rewrite.specs.Shortest.{shortest_answer, shortest_output}
use Rattle.shortest.specs.Outcome.{Served, Outcome, long_list, offending, short_work, long_writing, short_output, written}
use Rattle.shortest.specs.Records.{writer_answer, writer_output}
use Rattle.shortest.specs.Writing.{cost, writing}
use Rattle.shortest.proofs.Costs.{writing_length}
use Rattle.shortest.proofs.Outcome.{accepted_where, outcome, outcome_is}
use Rattle.shortest.proofs.Output.{refused_output, accepted_output}
use Rattle.units.specs.Records.{records_of}
use Rattle.units.proofs.Records.{records_read}
use Rattle.base.specs.Output.{stored_in}
use Rattle.refusal_line.specs.Line.{refusal_line}
use Rattle.program.specs.Printed.{room, printed_of}
use Rattle.base.proofs.Stores.{stored_fits, stored_not}

pub record Form (s out : List ℕ) (count : ℕ) : Type 0 where
  pub counts : count ≡ length (printed_of s)
  pub short : count ≤ limit.octets
  pub stored : shortest_output s room out ≡ stored_in (printed_of s) out

pub record Line (s out : List ℕ) (number place : ℕ) : Type 0 where
  pub printed : printed_of s ≡ refusal_line number place
  pub stays : shortest_output s room out ≡ out

-- what is printed where the answer for 65,535 octets of output is known
printed_form : (s : List ℕ) (p c : ℕ) → shortest_answer s room limit.octets ≡ answer refusal.accepted p c
    → printed_of s ≡ writing (reading_of s) fresh.sets
unfolding printed_of pick
printed_form s p c e = rw e

pub printed_line : (s : List ℕ) (n p c : ℕ) → shortest_answer s room limit.octets ≡ answer n p c → (n ≡ refusal.accepted → ⊥)
    → printed_of s ≡ refusal_line n p
unfolding printed_of pick
printed_line s n p c e z = rw (e, ne_eqb n refusal.accepted z)

-- a refused string
module _ (s : List ℕ) (no : (check_of s).number ≡ refusal.accepted → ⊥) where
  answers_check : (m : ℕ) → shortest_answer s room m ≡ check_of s
  unfolding shortest_answer pick
  answers_check m = rw (ne_eqb (check_of s).number refusal.accepted no)

  output_stays : (out : List ℕ) → shortest_output s room out ≡ out
  unfolding shortest_output pick
  output_stays out = rw (ne_eqb (check_of s).number refusal.accepted no)

  pub line_of_check : (out : List ℕ) → Line s out (check_of s).number (check_of s).place
  line_of_check out =
      record { printed = printed_line s (check_of s).number (check_of s).place (check_of s).count (answers_check limit.octets) no; stays = output_stays out }

-- an accepted string
module _ (s : List ℕ) (ok : (check_of s).number ≡ refusal.accepted) where
  abbrev rs : List UnitRecord
  rs = records_of s

  answers_writer : (m : ℕ) → shortest_answer s room m ≡ writer_answer rs s room m
  unfolding shortest_answer pick
  answers_writer m = rw (eq-eqb (check_of s).number refusal.accepted ok)

  output_writer : (out : List ℕ) → shortest_output s room out ≡ writer_output rs s room out
  unfolding shortest_output pick
  output_writer out = rw (eq-eqb (check_of s).number refusal.accepted ok)

  pub known : {n p c : ℕ} → Outcome rs s room limit.octets n p c → shortest_answer s room limit.octets ≡ answer n p c
  known x = answers_writer limit.octets ∙ outcome_is rs s room limit.octets x

  reading : (us : List TextUnit) → list_reading s rs ≡ some us → us ≡ reading_of s
  reading us e = Option·some-injective us (reading_of s) (sym e ∙ records_read s)

  -- the shortest form is printed
  pub form : (us : List TextUnit) → Served rs s room us → cost us fresh.sets ≤ limit.octets → printed_of s ≡ writing us fresh.sets
  form us v h =
      printed_form s (length rs) (cost us fresh.sets) (known (written us v h h))
      ∙ ap (λ (vs : List TextUnit). writing vs fresh.sets) (sym (reading us v.reading))

  pub form_length : (us : List TextUnit) → Served rs s room us → cost us fresh.sets ≤ limit.octets → cost us fresh.sets ≡ length (printed_of s)
  form_length us v h = sym (ap length (form us v h) ∙ writing_length us fresh.sets)

  module _ (out : List ℕ) where
    -- the octets stored are the shortest form
    stored-form : (us : List TextUnit) → Served rs s room us → cost us fresh.sets ≤ limit.octets → cost us fresh.sets ≤ length out
        → shortest_output s room out ≡ stored_in (printed_of s) out
    stored-form us v h k =
        let n = cost us fresh.sets in
        let e : (writer_answer rs s room (length out)).number ≡ refusal.accepted =
        ap (λ (a : Answer). a.number) (outcome_is rs s room (length out) (written us v h k)) in
        let g = accepted_output rs s room out e in
        let same : g.units ≡ us = reading g.units g.reading ∙ sym (reading us v.reading) in
        let long = form_length us v h in
        stored_fits (printed_of s) out (shortest_output s room out) (rw long at k)
        (output_writer out ∙ g.holds
        ∙ ap (λ (vs : List TextUnit). writing vs fresh.sets ++ drop (cost vs fresh.sets) out) same
        ∙ ap (λ (xs : List ℕ). xs ++ drop n out) (sym (form us v h))
        ∙ ap (λ (i : ℕ). printed_of s ++ drop i out) long)

    stays : (n p c : ℕ) → Outcome rs s room (length out) n p c → (n ≡ refusal.accepted → ⊥) → shortest_output s room out ≡ out
    stays n p c x z =
        output_writer out
        ∙ refused_output rs s room out (λ e. z (sym (ap (λ (a : Answer). a.number) (outcome_is rs s room (length out) x)) ∙ e))

    -- what the answer says: by its number, by its count
    form-accepted : (writer_answer rs s room (length out)).number ≡ refusal.accepted → Form s out (writer_answer rs s room (length out)).count
    form-accepted e =
        let w = (accepted_where rs s room (length out)).0 e in
        let is = outcome_is rs s room (length out) (written w.0 w.1 w.2 w.3) in
        let n : cost w.0 fresh.sets ≡ (writer_answer rs s room (length out)).count = sym (ap (λ (a : Answer). a.count) is) in
        let f : Form s out (cost w.0 fresh.sets) =
        record { counts = form_length w.0 w.1 w.2; short = w.2; stored = stored-form w.0 w.1 w.2 w.3 } in
        subst (Form s out) n f

    form-counted : {n p c : ℕ} → Outcome rs s room (length out) n p c → 0 < c → Form s out c
    form-counted (long_list h) q = absurd (omega arith)
    form-counted (offending h f) q = absurd (omega arith)
    form-counted (short_work h f w) q = absurd (omega arith)
    form-counted (long_writing us v h) q = absurd (omega arith)
    form-counted (short_output us v h k) q =
        let long = form_length us v h in
        record {
          counts = long;
          short = h;
          stored =
              stored_not (printed_of s) out (shortest_output s room out) (rw long at k)
              (stays refusal.no_room 0 (cost us fresh.sets) (short_output us v h k) (λ e. omega arith));
        }
    form-counted (written us v h k) q = record { counts = form_length us v h; short = h; stored = stored-form us v h k }

    -- any other refusal is the same for every output
    any-output : {n p c : ℕ} → Outcome rs s room (length out) n p c → (n ≡ refusal.accepted → ⊥) → (0 < c → ⊥)
        → Outcome rs s room limit.octets n p c
    any-output (long_list h) z q = long_list h
    any-output (offending h f) z q = offending h f
    any-output (short_work h f w) z q = short_work h f w
    any-output (long_writing us v h) z q = long_writing us v h
    any-output (short_output us v h k) z q = absurd (q (omega arith))
    any-output (written us v h k) z q = absurd (z refl)

    line-counted : {n p c : ℕ} → Outcome rs s room (length out) n p c → (n ≡ refusal.accepted → ⊥) → (0 < c → ⊥) → Line s out n p
    line-counted {n} {p} {c} x z q = record { printed = printed_line s n p c (known (any-output x z q)) z; stays = stays n p c x z }

-- the answer of `rewrite::shortest`
module _ (s out : List ℕ) (a : Answer) (is : a ≡ shortest_answer s room (length out)) where
  -- by whether the string is accepted
  by_check : {X : Type 0} → (((check_of s).number ≡ refusal.accepted → ⊥) → a ≡ check_of s → X)
      → ((ok : (check_of s).number ≡ refusal.accepted) → a ≡ writer_answer (records_of s) s room (length out) → X) → X
  by_check f g =
      test (eqb (check_of s).number refusal.accepted)
      (λ e. let ok = eqb-true (check_of s).number refusal.accepted e in g ok (is ∙ answers_writer s ok (length out)))
      (λ e. let no = eqb-false (check_of s).number refusal.accepted e in f no (is ∙ answers_check s no (length out)))

  outcome_of_lem : a ≡ writer_answer (records_of s) s room (length out) → Outcome (records_of s) s room (length out) a.number a.place a.count
  outcome_of_lem e = (outcome (records_of s) s room (length out) a.number a.place a.count).0 (sym e)

  pub accepted_form : a.number ≡ refusal.accepted → Form s out a.count
  accepted_form z =
      by_check (λ no e. absurd (no (sym (ap (λ (x : Answer). x.number) e) ∙ z)))
      (λ ok e. rw (← e) at (form-accepted s ok out (sym (ap (λ (x : Answer). x.number) e) ∙ z)))

  pub counted_form : 0 < a.count → Form s out a.count
  counted_form q =
      by_check (λ no e. let n : a.count ≡ 0 = ap (λ (x : Answer). x.count) e ∙ refused_count s no in absurd (omega arith))
      (λ ok e. form-counted s ok out (outcome_of_lem e) q)

  pub refused_line : (a.number ≡ refusal.accepted → ⊥) → (0 < a.count → ⊥) → Line s out a.number a.place
  refused_line z q =
      by_check (λ no e. rw (← e) at (line_of_check s no out)) (λ ok e. line-counted s ok out (outcome_of_lem e) z q)
