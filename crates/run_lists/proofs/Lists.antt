-- The turns of the loops over a list, on plain values. What is still given from where a list has come to is, by one step: a run before what is
-- given after it (`on_shown`), what is given from a later place where the first run is the same (`on_passed`), or nothing (`ends_stopped`). So the end
-- stays the same from turn to turn (`Onward`).
use Rattle.element.proofs.Names.{ℕ, zero, suc, ◌+◌, ◌-◌, ◌*◌, ◌^◌, ◌≤◌, ◌<◌, zero-le, arith, ◌≡◌, refl, ap, sym, ◌∙◌, Bool, true, false, List, eqb}
use Rattle.element.proofs.Names.{length, set, length-set, sets, eq-eqb, ne_eqb, lt-ltb, answer, refused_at, pick, from, Answer, on_true, on_false, on_eq}
use Rattle.element.proofs.Names.{on_ne, on_lt, on_ge, Side, GL, GR, designated_of, State, Element, End, Refused, Silent, Found}
use mathlib.Core.List.{map}
use lib.ListN.{length-map}
use lib.Seq.{sets-eq}
use Rattle.base.specs.Limit as limit
use Rattle.base.specs.Refusal as refusal
use Rattle.grammar.specs.Reading.{Octets}
use Rattle.grammar.proofs.Places.{refused_number}
use Rattle.reader.specs.Step.{may_stand}
use Rattle.state.specs.Directions.{in_force_of}
use Rattle.stretch.specs.Characters.{settled_of}
use Rattle.std.proofs.Common.{Ok}
use Rattle.std.specs.Prelude.{Result}
use Rattle.designations.specs.Designation.{named_or, designation_at}
use Rattle.designations.specs.declared.Designation.{Designation}
use Rattle.designations.specs.declared.Unnamed.{Unnamed}
use Rattle.pieces.specs.Pieces.{piece, is_run, set_in}
use Rattle.pieces.specs.Pieces.{Piece}
use Rattle.pieces.proofs.Step.{element_at, piece_at}
use Rattle.run_ends.specs.Ends.{left_to, right_to}
use Rattle.run_ends.proofs.Spans.{left_grows, right_grows}
use Rattle.runs.specs.Runs.{shown_of}
use Rattle.runs.specs.Steps.{position, run_step_to, stop_at, run_from, known_of}
use Rattle.run_lists.specs.Listed.{word_of, upper_of, words_after, runs_step, GivenRuns, before, gives_none, end_of, given_from, checked_runs, next_runs_of}
use Rattle.run_lists.specs.Listed.{stand, finished, Onward}
use Rattle.runs.specs.declared.Bounds.{Bounds}
use Rattle.run_lists.specs.declared.RunsStep.{RunsStep}
use Rattle.run_lists.specs.declared.Stand.{Stand}
use Rattle.runs.specs.declared.stepping.RunPosition.{RunPosition}
use Rattle.runs.specs.declared.stepping.RunStep.{RunStep}
use Rattle.runs.proofs.Steps.{Cut, run_shown, run_later, cut_text, cut_found, turn_none}

-- ---- what is given, by one step

-- what a step gives, where k runs are given before it and there is room for m after it
abbrev pub stepped : List ℕ → ℕ → ℕ → RunStep → GivenRuns
stepped s k m r =
    pick (eqb r.run.answer.number refusal.accepted)
    (before r.run (given_from s (suc k) m r.position.place r.position.state))
    (gives_none r.position (end_of (length s) k r.run.answer))

abbrev filled : ℕ → List ℕ → GivenRuns → RunsStep × List ℕ
filled k out g = (g.step, sets out k (map word_of g.runs))

-- no more than there is room for
pub given_fits : (s : List ℕ) (k m at : ℕ) (st : State) → length (given_from s k m at st).runs ≤ m
unfolding given_from pick
given_fits s k zero at st = zero-le
given_fits s k (suc m) at st =
    by (run_from s at st) (eqb (run_from s at st).run.answer.number refusal.accepted) refl (λ b next. given_fits s (suc k) m b next)
  where
    by : (r : RunStep) (b : Bool) → eqb r.run.answer.number refusal.accepted ≡ b
        → ((i : ℕ) (next : State) → length (given_from s (suc k) m i next).runs ≤ m) → length (stepped s k m r).runs ≤ suc m
    by r true e f = let z = f r.position.place r.position.state in rw e (omega arith)
    by r false e f = rw e zero-le

list_after_lem : (bs : List Bounds) (o : List ℕ) → length bs ≤ length o → sets o 0 (map word_of bs) ≡ words_after bs o
unfolding words_after
list_after_lem bs o h =
    let n : length (map word_of bs) ≡ length bs = length-map bs word_of in
    let z : 0 + length (map word_of bs) ≡ length bs = omega arith in
    sets-eq (map word_of bs) o 0 (omega arith) ∙ rw z

module _ (s : List ℕ) (at k : ℕ) (st : State) (out : List ℕ) where
  -- a list that is full
  pub finish_full : length out ≤ k → finished s (stand at k st) out ≡ filled k out (given_from s k 0 at st)
  finish_full h = let z : length out - k ≡ 0 = omega arith in rw z

  finish_step : k < length out → finished s (stand at k st) out ≡ filled k out (stepped s k (length out - (k + 1)) (run_from s at st))
  unfolding given_from
  finish_step h = let z : length out - k ≡ suc (length out - (k + 1)) = omega arith in rw z

  -- a run is shown, and stored
  pub finish_shown : (e : ℕ) (next : State) (run : Bounds) (w : ℕ) → k < length out → run_step_to e next run ≡ run_from s at st
      → run.answer.number ≡ refusal.accepted → w ≡ word_of run
      → finished s (stand e (k + 1) next) (set out k w) ≡ finished s (stand at k st) out
  unfolding pick
  finish_shown e next run w h is a v =
      let n : length (set out k w) ≡ length out = length-set out k w in
      let z : k + 1 ≡ suc k = omega arith in
      let y : eqb run.answer.number refusal.accepted ≡ true = eq-eqb _ _ a in
      sym (finish_step h ∙ (ap (λ (r : RunStep). filled k out (stepped s k (length out - (k + 1)) r)) (sym is) ∙ rw (y, n, z, v)))

  -- no run is shown
  pub finish_none : (r : RunStep) → k < length out → r ≡ run_from s at st → (r.run.answer.number ≡ refusal.accepted → ⊥)
      → finished s (stand at k st) out ≡ (runs_step r.position (end_of (length s) k r.run.answer), out)
  unfolding pick
  finish_none r h is a =
      let y = ne_eqb _ _ a in
      finish_step h ∙ (ap (λ (x : RunStep). filled k out (stepped s k (length out - (k + 1)) x)) (sym is) ∙ rw y)

-- where an element stops the steps, the position stays and no run is shown
module _ (s : List ℕ) (at : ℕ) (st : State) where
  stop_by_lem : (e : Element) → element_at s at st ≡ e
      → ((stop_at at st e).position ≡ position at st true) × ((stop_at at st e).run.answer.number ≡ refusal.accepted → ⊥)
  unfolding stop_at
  stop_by_lem End is = (refl, λ z. omega (arith, z))
  stop_by_lem (Refused n o) is = let y = refused_number s at st (element_at s at st) refl is in (refl, λ z. omega (arith, z, y))
  stop_by_lem (Silent k next) is = (refl, λ z. omega (arith, z))
  stop_by_lem (Found p next) is = (refl, λ z. omega (arith, z))

-- ---- how a list comes on

pub on_first_lem : (s : List ℕ) (l : Stand) (o : List ℕ) → Onward s l o l o
on_first_lem s l o = record { same = refl; further = omega arith; long = refl }

-- what is done from a place on is done from the start
pub on_join : {s : List ℕ} {l r : Stand} {o : List ℕ} {m : Stand} {out n : List ℕ} → Onward s l o m out → Onward s m out r n
    → Onward s l o (stand r.place r.count r.state) n
on_join a b = record { same = b.same ∙ a.same; further = omega (arith, a.further, b.further); long = b.long ∙ a.long }

module _ {s : List ℕ} {l : Stand} {o : List ℕ} {at k : ℕ} {st : State} {out : List ℕ} (h : Onward s l o (stand at k st) out) where
  module _ {p : Piece} {next : State} (room : k < length out) (c : Cut s at st p next) where
    -- a run is shown and stored
    pub on_shown : (w : ℕ) → p.kind < 2 → w ≡ word_of (shown_of 0 p) → Onward s l o (stand p.end (k + 1) next) (set out k w)
    unfolding shown_of
    on_shown w low v =
        record {
          same = finish_shown s at k st out p.end next (shown_of (length s) p) w room (run_shown s at st c (lt-ltb p.kind 2 low)) refl v ∙ h.same;
          further = omega (arith, h.further, c.more);
          long = length-set out k w ∙ h.long;
        }

    -- what shows no run is passed: the first run from the place after it is the same
    pub on_passed : is_run p.kind ≡ false → Onward s l o (stand p.end k next) out
    on_passed r =
        record {
          same = finish_step s p.end k next out room ∙
              (ap (λ (x : RunStep). filled k out (stepped s k (length out - (k + 1)) x)) (run_later s at st c r) ∙
              (sym (finish_step s at k st out room) ∙ h.same));
          further = omega (arith, h.further, c.more);
          long = h.long;
        }

  -- where it ends
  abbrev pub Ends : ℕ → State → RunsStep → Type 0
  Ends place state r =
      (r ≡ (given_from s 0 (length o) place state).step) × (out ≡ words_after (given_from s 0 (length o) place state).runs o)

  module _ (place : ℕ) (state : State) (from_start : l ≡ stand place 0 state) (r : RunsStep) where
    ends_by : finished s (stand at k st) out ≡ (r, out) → Ends place state r
    ends_by e =
        let n : length o - 0 ≡ length o = omega arith in
        let z : (r, out) ≡ filled 0 o (given_from s 0 (length o) place state) = rw n at
        (sym e ∙ (h.same ∙ ap (λ (x : Stand). finished s x o) from_start)) in
        (ap (λ (x : RunsStep × List ℕ). x.0) z, ap (λ (x : RunsStep × List ℕ). x.1) z ∙ list_after_lem _ o (given_fits s 0 (length o) place state))

    pub ends_full : length out ≤ k → r ≡ runs_step (position at st true) (answer refusal.accepted (length s) k) → Ends place state r
    unfolding given_from
    ends_full room e = ends_by (finish_full s at k st out room ∙ ap (λ (x : RunsStep). (x, out)) (sym e))

    pub ends_stopped : (q : Piece) (a : Answer) → k < length out → q ≡ piece_at s at st → q.end ≡ at
        → a ≡ (stop_at at st (element_at s at st)).run.answer → r ≡ runs_step (position at st true) (end_of (length s) k a) → Ends place state r
    ends_stopped q a room is i e f =
        let b = stop_by_lem s at st (element_at s at st) refl in
        ends_by
        (finish_none s at k st out (stop_at at st (element_at s at st)) room (turn_none s at st q is i refl) b.1 ∙
        ap (λ (x : RunsStep). (x, out))
        (ap (λ (x : RunPosition). runs_step x (end_of (length s) k (stop_at at st (element_at s at st)).run.answer)) b.0 ∙
        (ap (λ (x : Answer). runs_step (position at st true) (end_of (length s) k x)) (sym e) ∙ sym f)))

-- ---- text and designations

-- the words of both sides
pub record Words (st : State) (direction left right : ℕ) : Type 0 where
  pub left_is : (left ≡ upper_of st.sets.gl direction) × (left < 2 ^ 57)
  pub right_is : (right ≡ upper_of st.sets.gr direction) × (right < 2 ^ 57)

-- the invariant of `list_text`
pub record Texts (s : List ℕ) (l : Stand) (o : List ℕ) (direction at k : ℕ) (st : State) (left right : ℕ) (out : List ℕ) : Type 0 where
  pub onward : Onward s l o (stand at k st) out
  pub settled : settled_of st.directions ≡ true
  pub way : direction ≡ in_force_of st.directions
  pub words : Words st direction left right

designated_keeps : (side : Side) (c : ℕ) (st : State) → (designated_of side c st).directions ≡ st.directions
designated_keeps GL c st = refl
designated_keeps GR c st = refl

module _ {s : List ℕ} {l : Stand} {o : List ℕ} {direction at k : ℕ} {st : State} {left right : ℕ} {out : List ℕ}
    (h : Texts s l o direction at k st left right out) where
  -- text of a side, to the end that the code finds
  pub left_cut : Octets s → {e : ℕ} → e ≡ left_to st.sets at (from at s) → at < e → Cut s at st (piece at e 0 st) st
  left_cut octets x m = cut_text s at st 0 (omega arith) (rw x (left_grows s st h.settled octets at)) m

  pub right_cut : Octets s → {e : ℕ} → e ≡ right_to st.sets at (from at s) → at < e → Cut s at st (piece at e 1 st) st
  right_cut octets x m = cut_text s at st 1 (omega arith) (rw x (right_grows s st h.settled octets at)) m

  module _ (room : k < length out) where
    pub text_run : (j e part w : ℕ) → j < 2 → Cut s at st (piece at e j st) st → part ≡ upper_of (set_in (piece at e j st)) direction
        → w ≡ at + e * 0x10000 + part → Texts s l o direction e (k + 1) st left right (set out k w)
    unfolding shown_of
    text_run j e part w low c p v =
        record { onward = on_shown h.onward room c w low (v ∙ rw (p, h.way)); settled = h.settled; way = h.way; words = h.words }

    -- a designation
    pub designates : (x : Result Designation Unnamed) (d : Designation) (next : State) {left' right' : ℕ} → x ≡ named_or (designation_at (from at s))
        → x ≡ Ok d → next ≡ designated_of d.side d.set st → Words next direction left' right'
        → Texts s l o direction (at + d.octets) k next left' right' out
    designates x d next e f is words =
        let keeps = ap (λ (y : State). y.directions) is ∙ designated_keeps d.side d.set st in
        record {
          onward = rw is (on_passed h.onward room (cut_found s at st x d e f) refl);
          settled = ap settled_of keeps ∙ h.settled;
          way = h.way ∙ sym (ap in_force_of keeps);
          words = words;
        }

-- ---- the check before the first run

-- what is answered and stored is what is given
abbrev pub Gave : GivenRuns → List ℕ → RunsStep → List ℕ → Type 0
Gave g o r n = (r ≡ g.step) × (n ≡ words_after g.runs o)

pub gave_none : {g : GivenRuns} {o : List ℕ} {r : RunsStep} (p : RunPosition) (a : Answer) → r ≡ runs_step p a → g ≡ gives_none p a → Gave g o r o
unfolding words_after
gave_none p a e is = rw is (e, refl)

pub gave_same : {g h : GivenRuns} (o : List ℕ) {r : RunsStep} {n : List ℕ} → g ≡ h → Gave h o r n → Gave g o r n
gave_same o e x = rw e x

module _ (s : List ℕ) (p : RunPosition) (room : ℕ) (a : Answer) (is : a ≡ known_of s p.checked) where
  pub on_good : a.number ≡ refusal.accepted → checked_runs s p room ≡ given_from s 0 room p.place p.state
  unfolding checked_runs
  on_good k = sym (on_eq _ _ _ _ _ (sym (ap (λ (x : Answer). x.number) is) ∙ k) refl)

  pub on_bad : (a.number ≡ refusal.accepted → ⊥) → checked_runs s p room ≡ gives_none p a
  unfolding checked_runs
  on_bad k = sym (on_ne _ _ _ _ _ (λ z. k (ap (λ (x : Answer). x.number) is ∙ z)) (ap (gives_none p) is))

module _ (s : List ℕ) (p : RunPosition) (room : ℕ) where
  pub on_long : limit.octets < length s → next_runs_of s p room ≡ gives_none p (refused_at refusal.too_long 0)
  unfolding next_runs_of
  on_long h = sym (on_lt _ _ _ _ _ h refl)

  pub on_may : length s ≤ limit.octets → may_stand (length s) p.place p.state ≡ true → next_runs_of s p room ≡ checked_runs s p room
  unfolding next_runs_of
  on_may h m = sym (on_ge _ _ _ _ _ h (on_true _ _ _ _ m refl))

  pub on_none : length s ≤ limit.octets → may_stand (length s) p.place p.state ≡ false
      → next_runs_of s p room ≡ gives_none p (refused_at refusal.bad_unit 0)
  unfolding next_runs_of
  on_none h m = sym (on_ge _ _ _ _ _ h (on_false _ _ _ _ m refl))
