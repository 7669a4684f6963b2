-- The runs that calls with lists give, from the first position on, are those by number (`calls_in_order`): a call from a position before run k
-- gives run k, k + 1 and so on, by as many single steps (`order`). Of a refused string each call answers the refusal (`calls_refused`).
use Rattle.element.proofs.Names.{ℕ, zero, suc, ◌+◌, ◌≤◌, ◌<◌, zero-le, arith, ◌≡◌, refl, ap, sym, ◌∙◌, Bool, true, false, List, [], ◌∷◌, eqb, ltb}
use Rattle.element.proofs.Names.{length, eqb-false, eq-eqb, ne_eqb, ltb-true, ltb-false, answer, refused_at, pick, test, on_lt, fresh, State}
use Rattle.base.specs.Limit as limit
use Rattle.base.specs.Refusal as refusal
use Rattle.grammar.specs.Reading.{check_of}
use Rattle.reader.proofs.Whole.{may_stand_lem, fresh-fit}
use Rattle.runs.specs.Runs.{no_run, run_at}
use Rattle.runs.specs.Steps.{first_position, run_from, known_of}
use Rattle.run_lists.specs.Listed.{GivenRuns, gives_none, end_of, given_from, next_runs_of, after_calls, given_by, runs_at, Next}
use Rattle.runs.specs.declared.Bounds.{Bounds}
use Rattle.runs.specs.declared.stepping.RunPosition.{RunPosition}
use Rattle.runs.specs.declared.stepping.RunStep.{RunStep}
use Rattle.runs.proofs.InOrder.{Good, good, Stands, Stepped, by_number, runs_past, is_known, is_may, from_step, stands_first}
use Rattle.run_lists.proofs.Lists.{stepped, on_good, on_bad, on_long, on_may}

-- none is left, and c are given
end_of_none : (n c : ℕ) → end_of n c (refused_at refusal.bad_unit 0) ≡ answer refusal.accepted n c
unfolding end_of pick
end_of_none n zero = refl
end_of_none n (suc c) = rw (ne_eqb (suc c) 0 (λ z. omega (arith, z)))

-- what the check says of a string that is too long, and that it is asked at the first position
too_long : (s : List ℕ) → limit.octets < length s → refused_at refusal.too_long 0 ≡ check_of s
unfolding check_of
too_long s h = on_lt _ _ _ _ _ h refl

known_false : (s : List ℕ) → check_of s ≡ known_of s false
unfolding known_of pick
known_false s = refl

-- what is given of an accepted string from before run k on, where c runs are given before in this call
record Ordered (s : List ℕ) (k c room : ℕ) (g : GivenRuns) : Type 0 where
  runs : g.runs ≡ runs_at s k (length g.runs)
  counts : g.step.answer ≡ answer refusal.accepted (length s) (c + length g.runs)
  fits : length g.runs ≤ room
  all : length g.runs < room → run_at s (k + length g.runs) ≡ no_run (refused_at refusal.bad_unit 0)
  after : Stands s (k + length g.runs) g.step.position.place g.step.position.state

module _ (s : List ℕ) (accepts : Good s) where
  first_of : (k c m : ℕ) (r : RunStep) → Stepped s k r
      → ((j d : ℕ) → Stands s j r.position.place r.position.state → Ordered s j d m (given_from s d m r.position.place r.position.state))
      → (b : Bool) → eqb r.run.answer.number refusal.accepted ≡ b → Ordered s k c (suc m) (stepped s c m r)
  unfolding runs_at pick
  first_of k c m r h go true e =
      let g = given_from s (suc c) m r.position.place r.position.state in
      let n = go (suc k) (suc c) h.after in
      let more : suc k + length g.runs ≡ k + suc (length g.runs) = omega arith in
      let given : suc c + length g.runs ≡ c + suc (length g.runs) = omega arith in
      rw e (record {
        runs = ap (λ (x : Bounds). x ∷ g.runs) h.shown ∙ ap (λ (x : List Bounds). run_at s k ∷ x) n.runs;
        counts = rw given at n.counts;
        fits = omega (arith, n.fits);
        all = λ l. rw more at (n.all (omega (arith, l)));
        after = rw more at n.after;
      })
  first_of k c m r h go false e =
      let no : (run_at s k).answer.number ≡ refusal.accepted → ⊥ = λ z. eqb-false _ _ e (ap (λ (x : Bounds). x.answer.number) h.shown ∙ z) in
      let past = runs_past s accepts k in
      let here : k + 0 ≡ k = omega arith in
      let given : c + 0 ≡ c = omega arith in
      rw e (record {
        runs = refl;
        counts = rw given
            (ap (λ (x : Bounds). end_of (length s) c x.answer) (h.shown ∙ rw here at (past 0 no)) ∙ end_of_none (length s) c);
        fits = zero-le;
        all = λ l. past 0 no;
        after = rw here (record {
          within = h.after.within;
          fit = h.after.fit;
          clear = h.after.clear;
          runs = λ j.
              let m : suc k + j ≡ k + suc j = omega arith in
              h.after.runs j ∙ (rw m (by_number s accepts (k + suc j) ∙ past (suc j) no) ∙ sym (by_number s accepts (k + j) ∙ past j no));
        });
      })

  order : (m k c at : ℕ) (st : State) → Stands s k at st → Ordered s k c m (given_from s c m at st)
  unfolding given_from runs_at
  order zero k c at st h =
      let here : k + 0 ≡ k = omega arith in
      let given : c + 0 ≡ c = omega arith in
      record { runs = refl; counts = rw given; fits = zero-le; all = λ l. absurd (omega (arith, l)); after = rw here h }
  order (suc m) k c at st h =
      first_of k c m (run_from s at st) (from_step s accepts k at st h)
      (λ j d x. order m j d (run_from s at st).position.place (run_from s at st).position.state x)
      (eqb (run_from s at st).run.answer.number refusal.accepted) refl

  -- a call from before run k
  call : (k room : ℕ) (p : RunPosition) → Stands s k p.place p.state → Ordered s k 0 room (next_runs_of s p room)
  call k room p h =
      rw (on_may s p room accepts.short (is_may s accepts k p.place p.state h) ∙ on_good s p room _ refl (is_known s accepts p.checked))
      (order room k 0 p.place p.state h)

  calls : (rooms : List ℕ) (k : ℕ) (p : RunPosition) → Stands s k p.place p.state
      → Stands s (k + given_by s p rooms) (after_calls s p rooms).place (after_calls s p rooms).state
  unfolding after_calls given_by
  calls [] k p h = let here : k + 0 ≡ k = omega arith in rw here h
  calls (room ∷ rooms) k p h =
      let g = next_runs_of s p room in
      let n = calls rooms (k + length g.runs) g.step.position (call k room p h).after in
      let z : k + length g.runs + given_by s g.step.position rooms ≡ k + (length g.runs + given_by s g.step.position rooms) = omega arith in
      rw z at n

-- from the first position on each call gives the next runs by number, whatever the lengths of the lists, until none is left
pub calls_in_order : (s : List ℕ) → (check_of s).number ≡ refusal.accepted → (rooms : List ℕ) (room : ℕ)
    → Next s (given_by s first_position rooms) room (next_runs_of s (after_calls s first_position rooms) room)
calls_in_order s e rooms room =
    let accepts = good s (eq-eqb _ _ e) in
    let z : 0 + given_by s first_position rooms ≡ given_by s first_position rooms = omega arith in
    let g = next_runs_of s (after_calls s first_position rooms) room in
    let y : 0 + length g.runs ≡ length g.runs = omega arith in
    let x = call s accepts (given_by s first_position rooms) room (after_calls s first_position rooms)
    (rw z at (calls s accepts rooms 0 first_position (stands_first s accepts))) in
    record { runs = x.runs; counts = rw y at x.counts; fits = x.fits; all = x.all }

-- ---- a refused string

module _ (s : List ℕ) (no : (check_of s).number ≡ refusal.accepted → ⊥) where
  refused_call : (room : ℕ) → next_runs_of s first_position room ≡ gives_none first_position (check_of s)
  refused_call room =
      test (ltb limit.octets (length s))
      (λ l. on_long s first_position room (ltb-true _ _ l) ∙ ap (gives_none first_position) (too_long s (ltb-true _ _ l)))
      (λ l. on_may s first_position room (ltb-false _ _ l) (may_stand_lem (length s) 0 fresh zero-le fresh-fit) ∙
      on_bad s first_position room (check_of s) (known_false s) no)

  -- each call answers the refusal, and stays
  pub calls_refused : (rooms : List ℕ) (room : ℕ) → next_runs_of s (after_calls s first_position rooms) room ≡ gives_none first_position (check_of s)
  unfolding after_calls
  calls_refused [] room = refused_call room
  calls_refused (first ∷ rooms) room = rw (refused_call first) (calls_refused rooms room)
