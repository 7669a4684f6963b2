-- The runs one after the other, from the first position on, are those by number (`in_order`). At each place there is no piece, or one that the
-- others follow (`cuts`); so a step from a position of an accepted string shows the first of the runs that are left, and the runs that are left after
-- it are the others (`one_step`). Of a refused string each step answers the refusal and stays.
use Rattle.element.proofs.Names.{ℕ, zero, suc, ◌+◌, ◌-◌, ◌≤◌, ◌<◌, zero-le, arith, not-suc-le-zero, ◌≡◌, refl, ap, sym, ◌∙◌, true, false, Bool, List}
use Rattle.element.proofs.Names.{[], ◌∷◌, eqb, ltb, length, eq-eqb, eqb-true, eqb-false, ltb-false, le-ltb, refused_at, pick, from, off, clash, test, Answer}
use Rattle.element.proofs.Names.{on_true, on_false, on_ne, fresh, State, Element, End, Refused, Silent, Found}
use Rattle.base.specs.Limit as limit
use Rattle.base.specs.Refusal as refusal
use Rattle.element.proofs.Sizes.{Fit}
use Rattle.grammar.specs.Reading.{check_of, none_refused}
use Rattle.grammar.proofs.Places.{from_start, at_refused}
use Rattle.grammar.proofs.Agrees.{zero_none}
use Rattle.reader.specs.Step.{may_stand}
use Rattle.reader.proofs.Whole.{may_stand_lem, fresh-fit}
use Rattle.pieces.specs.Pieces.{is_run, same_run_of, longer, joined, pieces_of}
use Rattle.pieces.specs.Pieces.{Piece}
use Rattle.pieces.proofs.Step.{element_at, piece_at, rest, no_refusal}
use Rattle.runs.specs.Runs.{runs_in, runs_of, shown_of, no_run, nth_run_of, run_at}
use Rattle.runs.specs.Steps.{first_position, stays, run_step_to, stop_at, run_from, known_of, checked_from, next_run_of, position_after}
use Rattle.runs.specs.declared.Bounds.{Bounds}
use Rattle.runs.specs.declared.stepping.RunPosition.{RunPosition}
use Rattle.runs.specs.declared.stepping.RunStep.{RunStep}
use Rattle.runs.proofs.Steps.{Leads, leads_here, leads_on, Cut, Moved, moved, none_by, run_none, run_shown, run_later}

-- ---- the runs among pieces

module _ (p : Piece) (ps : List Piece) where
  runs_first : is_run p.kind ≡ true → runs_in (p ∷ ps) ≡ p ∷ runs_in ps
  unfolding runs_in pick
  runs_first e = rw e

  runs_other : is_run p.kind ≡ false → runs_in (p ∷ ps) ≡ runs_in ps
  unfolding runs_in pick
  runs_other e = rw e

module _ (s : List ℕ) where
  -- ---- the first piece at a place

  data Cuts (at : ℕ) (st : State) : Type 0 where
    over : (piece_at s at st).end ≡ at → rest s at st ≡ [] → Cuts at st
    cut : {p : Piece} {next : State} → Cut s at st p next → Cuts at st

  -- a piece before those that follow it
  cuts_by : (at : ℕ) (st : State) (q : Piece) → Moved s at st q → Cuts q.end q.state → Cuts at st
  unfolding joined
  cuts_by at st q m (over n e) =
      cut {p = q} (record {
        is = m.is ∙ (ap (joined q) e ∙ ap (λ (ps : List Piece). q ∷ ps) (sym e));
        more = m.more;
        within = m.within;
        leads = m.leads;
      })
  cuts_by at st q m (cut {p} {next} c) =
      test (same_run_of q.kind p.kind)
      (λ e. cut {p = longer q p} (record {
        is = m.is ∙ (ap (joined q) c.is ∙ sym (on_true _ _ _ _ e refl));
        more = omega (arith, m.more, c.more);
        within = c.within;
        leads = leads_on s m.leads c.leads;
      }))
      (λ e. cut {p = q} (record {
        is = m.is ∙ (ap (joined q) c.is ∙ (sym (on_false _ _ _ _ e refl) ∙ ap (λ (ps : List Piece). q ∷ ps) (sym c.is)));
        more = m.more;
        within = m.within;
        leads = m.leads;
      }))

  cuts : (n at : ℕ) (st : State) → length s - at < n → Cuts at st
  cuts zero at st h = absurd (not-suc-le-zero h)
  cuts (suc n) at st h =
      test (eqb (piece_at s at st).end at) (λ e. over (eqb-true _ _ e) (none_by s at st (element_at s at st) refl (eqb-true _ _ e)).1)
      (λ e.
      let m = moved s at st (piece_at s at st) refl (eqb-false _ _ e) in
      cuts_by at st (piece_at s at st) m (cuts n (piece_at s at st).end (piece_at s at st).state (omega (arith, m.more, m.within))))

  -- ---- a step from a place: the first run is shown, and the others are left

  record Shows (at : ℕ) (st : State) : Type 0 where
    place : ℕ
    state : State
    leads : Leads s at st place state
    within : at ≤ length s → place ≤ length s
    step : run_from s at st ≡ run_step_to place state (nth_run_of (length s) 0 (runs_in (rest s at st)))
    left : (j : ℕ) → nth_run_of (length s) j (runs_in (rest s place state)) ≡ nth_run_of (length s) (suc j) (runs_in (rest s at st))

  -- no element is refused, so where no piece is left the string ends
  none_left : (at : ℕ) (st : State) (e : Element) → element_at s at st ≡ e → no_refusal s at st ≡ true
      → stop_at at st e ≡ run_step_to at st (no_run (refused_at refusal.bad_unit 0))
  unfolding stop_at none_refused
  none_left at st End is h = refl
  none_left at st (Refused n o) is h = off (sym (ap none_refused (at_refused s at st _ refl is)) ∙ h)
  none_left at st (Silent k next) is h = refl
  none_left at st (Found p next) is h = refl

  -- a piece that is no run is passed
  shows_on : {at b : ℕ} {st next : State} → Leads s at st b next → b ≤ length s → run_from s b next ≡ run_from s at st
      → runs_in (rest s at st) ≡ runs_in (rest s b next) → Shows b next → Shows at st
  shows_on l w e f x =
      record {
        place = x.place;
        state = x.state;
        leads = leads_on s l x.leads;
        within = λ h. x.within w;
        step = rw (← e, f) x.step;
        left = λ j. rw f (x.left j);
      }

  shows_by : (n at : ℕ) (st : State) → Cuts at st → length s - at < suc n → no_refusal s at st ≡ true
      → ((b : ℕ) (next : State) → length s - b < n → no_refusal s b next ≡ true → Shows b next) → Shows at st
  unfolding nth_run_of runs_in
  shows_by n at st (over e f) k h go =
      record {
        place = at;
        state = st;
        leads = leads_here s at st;
        within = λ l. l;
        step = sym (run_none s at st e) ∙ (none_left at st (element_at s at st) refl h ∙ rw f);
        left = λ j. rw f;
      }
  shows_by n at st (cut {p} {next} c) k h go =
      test (is_run p.kind)
      (λ r.
      let is = ap runs_in c.is ∙ runs_first p (rest s p.end next) r in
      record {
        place = p.end;
        state = next;
        leads = c.leads;
        within = λ l. c.within;
        step = sym (run_shown s at st c r) ∙ ap (λ (ps : List Piece). run_step_to p.end next (nth_run_of (length s) 0 ps)) (sym is);
        left = λ j. sym (ap (nth_run_of (length s) (suc j)) is);
      })
      (λ r. shows_on c.leads c.within (run_later s at st c r) (ap runs_in c.is ∙ runs_other p (rest s p.end next) r)
      (go p.end next (omega (arith, c.more, c.within)) (sym c.leads.clear ∙ h)))

  shows : (n at : ℕ) (st : State) → length s - at < n → no_refusal s at st ≡ true → Shows at st
  shows zero at st k h = absurd (not-suc-le-zero k)
  shows (suc n) at st k h = shows_by n at st (cuts (suc (length s)) at st (omega arith)) k h (shows n)

-- ---- the steps of an accepted string

-- what a check that accepts says
pub record Good (s : List ℕ) : Type 0 where
  pub accepted : eqb (check_of s).number refusal.accepted ≡ true
  pub short : length s ≤ limit.octets
  pub clear : no_refusal s 0 fresh ≡ true

pub good : (s : List ℕ) → eqb (check_of s).number refusal.accepted ≡ true → Good s
unfolding check_of pick from
good s e =
    test (ltb limit.octets (length s))
    (λ l. clash (sym (rw l at (eqb-true (check_of s).number refusal.accepted e))))
    (λ l.
    let z = rw l at (eqb-true (check_of s).number refusal.accepted e) in
    record { accepted = e; short = ltb-false limit.octets (length s) l; clear = zero_none s 0 (from_start s) z })

-- a place and a state from which the runs are those of the string from number k on
pub record Stands (s : List ℕ) (k place : ℕ) (st : State) : Type 0 where
  pub within : place ≤ length s
  pub fit : Fit st
  pub clear : no_refusal s place st ≡ true
  pub runs : (j : ℕ) → nth_run_of (length s) j (runs_in (rest s place st)) ≡ nth_run_of (length s) (k + j) (runs_of s)

-- the k-th run is shown, and the position then stands before the next
pub record Stepped (s : List ℕ) (k : ℕ) (r : RunStep) : Type 0 where
  pub shown : r.run ≡ run_at s k
  pub after : Stands s (suc k) r.position.place r.position.state

module _ (s : List ℕ) (g : Good s) where
  pub by_number : (k : ℕ) → nth_run_of (length s) k (runs_of s) ≡ run_at s k
  unfolding run_at pick
  by_number k = rw g.accepted

  pub stands_first : Stands s 0 0 fresh
  unfolding runs_of pieces_of from
  stands_first = record { within = zero-le; fit = fresh-fit; clear = g.clear; runs = λ j. let n : 0 + j ≡ j = omega arith in rw n }

  pub is_known : (checked : Bool) → (known_of s checked).number ≡ refusal.accepted
  unfolding known_of pick
  is_known true = refl
  is_known false = eqb-true _ _ g.accepted

  module _ (k place : ℕ) (st : State) (h : Stands s k place st) where
    pub is_may : may_stand (length s) place st ≡ true
    is_may = may_stand_lem (length s) place st h.within h.fit

    pub from_step : Stepped s k (run_from s place st)
    from_step =
        let x = shows s (suc (length s)) place st (omega arith) h.clear in
        let n : k + 0 ≡ k = omega arith in
        rw x.step (record {
          shown = rw n at (h.runs 0) ∙ by_number k;
          after = record {
            within = x.within h.within;
            fit = x.leads.fit h.fit;
            clear = sym x.leads.clear ∙ h.clear;
            runs = λ j. let m : k + suc j ≡ suc k + j = omega arith in x.left j ∙ rw m at (h.runs (suc j));
          };
        })

  one_step : (k : ℕ) (p : RunPosition) → Stands s k p.place p.state → Stepped s k (next_run_of s p)
  unfolding next_run_of checked_from pick
  one_step k p h =
      rw (le-ltb limit.octets (length s) g.short, is_may k p.place p.state h, is_known p.checked) (from_step k p.place p.state h)

  stands : (k : ℕ) → Stands s k (position_after s k).place (position_after s k).state
  unfolding position_after
  stands zero = stands_first
  stands (suc k) = (one_step k (position_after s k) (stands k)).after

  accepted_runs : (k : ℕ) → (next_run_of s (position_after s k)).run ≡ run_at s k
  accepted_runs k = (one_step k (position_after s k) (stands k)).shown

-- ---- a refused string: each step from the first position on stays

module _ (s : List ℕ) (no : eqb (check_of s).number refusal.accepted ≡ false) where
  refused_first : next_run_of s first_position ≡ stays first_position (check_of s)
  unfolding next_run_of checked_from known_of check_of pick
  refused_first =
      test (ltb limit.octets (length s)) (λ l. rw l)
      (λ l. let n = rw l at no in rw (l, may_stand_lem (length s) 0 fresh zero-le fresh-fit, n))

  refused_stays : (k : ℕ) → position_after s k ≡ first_position
  unfolding position_after
  refused_stays zero = refl
  refused_stays (suc k) = ap (λ (p : RunPosition). (next_run_of s p).position) (refused_stays k) ∙ ap (λ (r : RunStep). r.position) refused_first

  refused_runs : (k : ℕ) → (next_run_of s (position_after s k)).run ≡ run_at s k
  unfolding run_at pick
  refused_runs k = ap (λ (p : RunPosition). (next_run_of s p).run) (refused_stays k) ∙ (ap (λ (r : RunStep). r.run) refused_first ∙ rw no)

-- ---- every string

-- the run of the step after k steps is the k-th run; past the last run, and of a refused string, each step repeats the answer
pub in_order : (s : List ℕ) (k : ℕ) → (next_run_of s (position_after s k)).run ≡ run_at s k
in_order s k = test (eqb (check_of s).number refusal.accepted) (λ e. accepted_runs s (good s e) k) (λ e. refused_runs s e k)

-- ---- the run of a number, by steps

-- where a number shows no run, it and all after it are answered 11
nth_past : (n k j : ℕ) (ps : List Piece) → ((nth_run_of n k ps).answer.number ≡ refusal.accepted → ⊥)
    → nth_run_of n (k + j) ps ≡ no_run (refused_at refusal.bad_unit 0)
unfolding nth_run_of shown_of
nth_past n k j [] h = refl
nth_past n zero j (p ∷ ps) h = absurd (h refl)
nth_past n (suc k) j (p ∷ ps) h = let z : suc k + j ≡ suc (k + j) = omega arith in rw z (nth_past n k j ps h)

pub runs_past : (s : List ℕ) → Good s → (k j : ℕ) → ((run_at s k).answer.number ≡ refusal.accepted → ⊥)
    → run_at s (k + j) ≡ no_run (refused_at refusal.bad_unit 0)
runs_past s g k j h =
    sym (by_number s g (k + j)) ∙
    nth_past (length s) k j (runs_of s) (λ z. h (sym (ap (λ (x : Bounds). x.answer.number) (by_number s g k)) ∙ z))

-- the invariant of `numbered`: so many steps are left to the run that is asked for
pub record Numbered (s : List ℕ) (k at : ℕ) (st : State) (left : ℕ) : Type 0 where
  pub fits : left ≤ k
  pub accepts : Good s
  pub stands : Stands s (k - left) at st

pub number_first : (s : List ℕ) (k : ℕ) (a : Answer) → a ≡ check_of s → a.number ≡ refusal.accepted → Numbered s k 0 fresh k
number_first s k a is e =
    let z : k - k ≡ 0 = omega arith in
    let g = good s (eq-eqb _ _ (sym (ap (λ (x : Answer). x.number) is) ∙ e)) in
    record { fits = omega arith; accepts = g; stands = rw z (stands_first s g) }

-- a refused string
pub number_refused : (s : List ℕ) (k : ℕ) (a : Answer) → a ≡ check_of s → (a.number ≡ refusal.accepted → ⊥) → no_run a ≡ run_at s k
unfolding run_at
number_refused s k a is n = on_ne _ _ _ _ _ (λ z. n (ap (λ (x : Answer). x.number) is ∙ z)) (ap no_run is)

module _ {s : List ℕ} {k at : ℕ} {st : State} {left : ℕ} (h : Numbered s k at st left) (t : RunStep) (e : t ≡ run_from s at st) where
  at_step : Stepped s (k - left) t
  at_step = rw e (from_step s h.accepts (k - left) at st h.stands)

  pub at_number : left ≡ 0 → t.run ≡ run_at s k
  at_number n = let z : k - left ≡ k = omega arith in rw z at at_step.shown

  pub past_number : (t.run.answer.number ≡ refusal.accepted → ⊥) → t.run ≡ run_at s k
  past_number n =
      let z : k - left + left ≡ k = omega (arith, h.fits) in
      let y : k - left + 0 ≡ k - left = omega arith in
      let past = runs_past s h.accepts (k - left) in
      let no : (run_at s (k - left)).answer.number ≡ refusal.accepted → ⊥ = λ x. n (ap (λ (r : Bounds). r.answer.number) at_step.shown ∙ x) in
      at_step.shown ∙ (rw y at (past 0 no) ∙ sym (rw z at (past left no)))

  pub next_number : (left ≡ 0 → ⊥) → Numbered s k t.position.place t.position.state (left - 1)
  next_number n =
      let f = h.fits in
      let z : k - (left - 1) ≡ suc (k - left) = omega arith in
      record { fits = omega arith; accepts = h.accepts; stands = rw z at_step.after }
