-- The answer and the output after the list is checked and its records stand in their rows are those of the writer.
use Rattle.element.proofs.Names.{ℕ, ◌+◌, ◌≤◌, ◌<◌, arith, ◌≡◌, refl, sym, ap, ◌∙◌, subst, Bool, true, false, cond, List, ◌⊎◌, inl, inr, some, ltb}
use Rattle.element.proofs.Names.{eqb, length, get_or, ltb-true, ltb-false, lt-ltb, le-ltb, le-leb, ne_eqb, pick, test, Answer, UnitRecord, undirected}
use Rattle.element.proofs.Names.{Directions}
use Rattle.base.specs.Limit as limit
use Rattle.base.specs.Refusal as refusal
use Rattle.grammar.specs.Units.{TextUnit}
use Rattle.shortest.specs.Demand.{write_answer, output_after}
use Rattle.grammar.specs.Records.{list_reading}
use Rattle.shortest.specs.Records.{check_records, fine, faulty, work_room, writer_answer, writer_output}
use Rattle.shortest.specs.Offence.{no_record}
use Rattle.shortest.specs.Demand3.{Demand3For}
use Rattle.shortest.proofs.Demand3.{writer_demand3}
use Rattle.shortest.proofs.Records.{fine_units}
use Rattle.shortest.proofs.Offence.{offence}
use Rattle.shortest.proofs.Outcome.{offence_number}
use Rattle.rows.specs.Rows.{units_in}
use Rattle.check_list.specs.Turn.{Progress, offends, looked_at}
use Rattle.std.specs.Prelude.{Ok, Err}
use Rattle.emit.specs.Emit.{rows_answer, rows_output}
use Rattle.write.specs.Stowed.{reached, HoldsRecord, Stowed, finish_answer, finish_output}
use Rattle.write.proofs.Lists.{checked_of, reached_checked, rows_units}

-- what the writer's definitions say of the answer and the output
pub record Finished (rs : List UnitRecord) (o : List ℕ) (work : ℕ) (out : List ℕ) (a : Answer) (after : List ℕ) : Type 0 where
  pub answers : a ≡ writer_answer rs o work (length out)
  pub output : after ≡ writer_output rs o work out

module _ (rs : List UnitRecord) (o before after out : List ℕ) where
  -- the answer and the output where the list is checked so far are the writer's
  abbrev Ends : Progress → Type 0
  Ends p = Finished rs o (length before) out (finish_answer p (length rs) o after (length out)) (finish_output p (length rs) o after out)

  -- a list that is too long
  long : limit.units < length rs → (p : Progress) → Ends p
  unfolding finish_answer finish_output writer_answer writer_output pick
  long h p = let l = lt-ltb limit.units (length rs) h in record { answers = rw l; output = rw l }

  module _ (h : length rs ≤ limit.units) where
    refused : (n i : ℕ) → check_records o rs 0 undirected ≡ faulty n i → Ends (offends n i)
    unfolding finish_answer finish_output writer_answer writer_output pick
    refused n i e =
        let l = le-ltb limit.units (length rs) h in
        let z = ne_eqb n 0 (number (offence_number o rs n i ((offence o rs n i).0 e))) in
        record { answers = rw (l, e); output = rw (l, e, z) }
      where
        number : (n ≡ refusal.bad_unit) ⊎ (n ≡ refusal.bad_segment) ⊎ (n ≡ refusal.direction) ⊎ (n ≡ refusal.too_deep) → n ≡ 0 → ⊥
        number (inl q) k = omega arith
        number (inr (inl q)) k = omega arith
        number (inr (inr (inl q))) k = omega arith
        number (inr (inr (inr q))) k = omega arith

    module _ (d : Directions) (e : check_records o rs 0 undirected ≡ fine) (us : List TextUnit) (er : list_reading o rs ≡ some us) where
      short : length before ≡ length after → length after < work_room (length rs) → Ends (Ok d)
      unfolding finish_answer finish_output rows_answer rows_output writer_answer writer_output pick
      short s w =
          let l = le-ltb limit.units (length rs) h in
          let m = lt-ltb (length after) (work_room (length rs)) w in
          record { answers = rw (l, e, s, m); output = rw (l, e, s, m) }

      written : length before ≡ length after → work_room (length rs) ≤ length after → units_in o after 0 (length rs) ≡ us → Ends (Ok d)
      unfolding finish_answer finish_output rows_answer rows_output writer_answer writer_output pick
      written s w u =
          let l = le-ltb limit.units (length rs) h in
          let m = le-ltb (length after) (work_room (length rs)) w in
          record { answers = rw (l, e, s, m, er, u); output = rw (l, e, s, m, er, u) (same (eqb (write_answer us (length out)).number refusal.accepted)) }
        where
          same : (b : Bool) → pick b (output_after us out) out ≡ cond b (output_after us out) out
          same true = refl
          same false = refl

  fits : (h : length rs ≤ limit.units) → Stowed o rs (length rs) before after → (p : Progress) → reached o rs (length rs) ≡ p → Ends p
  unfolding finish_answer finish_output
  fits h s (Err f) e = refused h f.number f.place (reached_checked o rs ∙ ap checked_of e)
  fits h s (Ok d) e =
      let c : check_records o rs 0 undirected ≡ fine = reached_checked o rs ∙ ap checked_of e in
      let f = fine_units o rs 0 undirected c in
      test (ltb (length after) (work_room (length rs)))
      (λ q. short h d c f.units f.reading (sym s.same) (ltb-true (length after) (work_room (length rs)) q))
      (λ q. let w = ltb-false (length after) (work_room (length rs)) q in
      written h d c f.units f.reading (sym s.same) w
      (rows_units o after rs 0 f.units (λ j k. subst (λ (m : ℕ). HoldsRecord after m (get_or rs j no_record))
      (let z : j ≡ 0 + j = omega arith in z) (s.rows d e j k (omega (arith, s.same)))) f.reading f.good_ones))

  pub finished : Stowed o rs (looked_at (length rs)) before after → Ends (reached o rs (looked_at (length rs)))
  unfolding looked_at pick
  finished s =
      test (ltb limit.units (length rs)) (λ q. long (ltb-true limit.units (length rs) q) (reached o rs (looked_at (length rs))))
      (λ q. let h = ltb-false limit.units (length rs) q in
      let z : looked_at (length rs) ≡ length rs = rw (le-leb (length rs) limit.units h) in
      subst (λ (k : ℕ). Ends (reached o rs k)) (sym z) (fits h (subst (λ (k : ℕ). Stowed o rs k before after) z s) (reached o rs (length rs)) refl))

-- and so they are what demand 3 asks
pub demanded : (rs : List UnitRecord) (o : List ℕ) (work : ℕ) (out after : List ℕ) → after ≡ writer_output rs o work out
    → Demand3For rs o work out (writer_answer rs o work (length out)) after
demanded rs o work out after e =
    subst (λ (l : List ℕ). Demand3For rs o work out (writer_answer rs o work (length out)) l) (sym e) (writer_demand3 rs o work out)
