-- The first run from a place and a state on, by the pieces there. Where a piece stands with others after it (`Cut`), it is shown if it is a run
-- (`run_shown`), and else the first run is the one after it (`run_later`); where none stands, no run is left (`run_none`). What the code passes at once
-- is such a piece: a run that grows by pieces of its kind (`cut_run`), a designation, or any other element (`cut_other`).
use Rattle.element.proofs.Names.{ℕ, suc, ◌+◌, ◌≤◌, ◌<◌, arith, ◌≡◌, refl, ap, sym, ◌∙◌, true, false, List, [], ◌∷◌, ltb, length, eq-eqb, lt-ltb}
use Rattle.element.proofs.Names.{pick, from, Answer, test, pick_by, no_set, designated_of, fresh, State, Element, End, Refused, Silent, Found}
use Rattle.element.proofs.Sizes.{Fit, silent, found}
use Rattle.element.proofs.Names.{refused_at}
use Rattle.base.specs.Refusal as refusal
use Rattle.std.proofs.Common.{Ok}
use Rattle.state.specs.Elements.{element_seen}
use Rattle.state.specs.declared.elements.Element.{Element as CodeElement}
use Rattle.state.specs.declared.elements.Element.TheVariants.{End as CodeEnd, Silent as CodeSilent, Found as CodeFound}
use Rattle.grammar.specs.Reading.{Octets, none_refused}
use Rattle.grammar.proofs.Places.{ahead, at_end, at_refused, at_passed, step_passed}
use Rattle.stretch.specs.Characters.{settled_of}
use Rattle.std.specs.Prelude.{Result}
use Rattle.designations.proofs.Found.{ok_named}
use Rattle.designations.specs.Designation.{named_or, designation_at}
use Rattle.designations.specs.declared.Designation.{Designation}
use Rattle.designations.specs.declared.Unnamed.{Unnamed}
use Rattle.designations.proofs.Designations.{designation_silent}
use Rattle.pieces.specs.PieceKind as piece_kind
use Rattle.pieces.specs.Pieces.{Piece, piece, no_piece, kind_number, viewed, side_kind_of, piece_of, is_run, same_run_of, joined, pieces_from}
use Rattle.pieces.specs.declared.Piece.{Piece as CodePiece}
use Rattle.pieces.specs.declared.PieceKind.{PieceKind}
use Rattle.pieces.specs.declared.PieceKind.TheVariants.{GlRun, GrRun, Tab, Newline, Control, Segment}
use Rattle.pieces.specs.Partition.{EndToEnd, state_from}
use Rattle.pieces.specs.Partition as tile
use Rattle.pieces.proofs.Joined.{same_kind, joined_apart, joined_same}
use Rattle.pieces.proofs.Partition.{tiled}
use Rattle.pieces.proofs.Laws.{state_after, first_state}
use Rattle.pieces.proofs.Step.{Step, stops, goes, step, element_at, piece_at, rest, no_refusal, fits, on_past}
use Rattle.run_ends.specs.Ends.{text_to}
use Rattle.run_ends.proofs.Spans.{Grows, none, more, text_settled, text_grows}
use Rattle.runs.specs.Runs.{shown_of, no_run}
use Rattle.runs.specs.Steps.{run_step_to, stop_at, last_of, first_of, run_from}
use Rattle.runs.specs.declared.stepping.RunStep.{RunStep}

-- ---- the first run among pieces

module _ (n : ℕ) (there : ℕ → State) (left : RunStep) (p : Piece) (ps : List Piece) where
  first_run : is_run p.kind ≡ true → first_of n there left (p ∷ ps) ≡ run_step_to p.end (there p.end) (shown_of n p)
  unfolding first_of pick
  first_run e = rw e

  first_other : is_run p.kind ≡ false → first_of n there left (p ∷ ps) ≡ first_of n there left ps
  unfolding first_of pick
  first_other e = rw e

-- it asks for no state before the place where the pieces start
agree : (n : ℕ) (left : RunStep) {f g : ℕ → State} {a e : ℕ} {ps : List Piece} → EndToEnd a e ps → ((i : ℕ) → a ≤ i → f i ≡ g i)
    → first_of n f left ps ≡ first_of n g left ps
unfolding first_of
agree n left tile.none h = refl
agree n left {f} {g} (tile.more {p} {ps} b l t) h =
    ap (λ (x : State). pick (is_run p.kind) (run_step_to p.end x (shown_of n p)) (first_of n f left ps)) (h p.end (omega arith)) ∙
    ap (λ (r : RunStep). pick (is_run p.kind) (run_step_to p.end (g p.end) (shown_of n p)) r) (agree n left t (λ i k. h i (omega arith)))

-- each kind is that of a piece
kind_low : (k : PieceKind) → kind_number k < piece_kind.none
kind_low GlRun = omega arith
kind_low GrRun = omega arith
kind_low Tab = omega arith
kind_low Newline = omega arith
kind_low Control = omega arith
kind_low Segment = omega arith

joined_other : (p : Piece) (ps : List Piece) → is_run p.kind ≡ false → joined p ps ≡ p ∷ ps
unfolding joined same_run_of pick
joined_other p [] e = refl
joined_other p (q ∷ qs) e = rw e

-- ---- where no run is left

pub stopped_as : (s : List ℕ) (at : ℕ) (st : State) (r : Answer) (e x : Element) → e ≡ element_at s at st → e ≡ x
    → r ≡ (stop_at at st x).run.answer → r ≡ (stop_at at st (element_at s at st)).run.answer
stopped_as s at st r e x is k h = h ∙ ap (λ (z : Element). (stop_at at st z).run.answer) (sym k ∙ is)

-- where the element is not refused
pub stopped_found : (s : List ℕ) (at : ℕ) (st : State) (x : CodeElement) {r : Answer} → element_seen (Ok x) ≡ element_at s at st
    → r ≡ refused_at refusal.bad_unit 0 → r ≡ (stop_at at st (element_at s at st)).run.answer
unfolding stop_at
stopped_found s at st CodeEnd is h = stopped_as s at st _ _ _ is refl h
stopped_found s at st (CodeSilent k next) is h = stopped_as s at st _ _ _ is refl h
stopped_found s at st (CodeFound p next) is h = stopped_as s at st _ _ _ is refl h

pub stop_as : (at : ℕ) (st : State) (e : Element) → run_step_to at st (no_run (stop_at at st e).run.answer) ≡ stop_at at st e
unfolding stop_at
stop_as at st End = refl
stop_as at st (Refused n o) = refl
stop_as at st (Silent k next) = refl
stop_as at st (Found p next) = refl

module _ (s : List ℕ) where
  abbrev last_from : ℕ → State → RunStep
  last_from at st = last_of st (ahead s at st)

  -- the elements lead from a place and a state to others
  pub record Leads (at : ℕ) (st : State) (b : ℕ) (next : State) : Type 0 where
    pub since : at ≤ b
    pub fit : Fit st → Fit next
    pub clear : no_refusal s at st ≡ no_refusal s b next
    pub left : last_from at st ≡ last_from b next
    pub later : (i : ℕ) → b ≤ i → state_from s at st i ≡ state_from s b next i

  pub leads_here : (at : ℕ) (st : State) → Leads at st at st
  leads_here at st = record { since = omega arith; fit = λ f. f; clear = refl; left = refl; later = λ i h. refl }

  pub leads_on : {at b c : ℕ} {st next after : State} → Leads at st b next → Leads b next c after → Leads at st c after
  leads_on x y =
      record {
        since = omega (arith, x.since, y.since);
        fit = λ f. y.fit (x.fit f);
        clear = x.clear ∙ y.clear;
        left = x.left ∙ y.left;
        later = λ i h. x.later i (omega (arith, y.since)) ∙ y.later i h;
      }

  leads_by : (at : ℕ) (st : State) (e : Element) → element_at s at st ≡ e → ((piece_of s at e).end ≡ at → ⊥)
      → Leads at st (piece_of s at e).end (piece_of s at e).state
  unfolding piece_of last_of none_refused
  leads_by at st End is h = absurd (h refl)
  leads_by at st (Refused n o) is h = absurd (h refl)
  leads_by at st (Silent k next) is h =
      let a = at_passed s at st _ refl silent is in
      record {
        since = omega arith;
        fit = (step_passed s at st _ refl silent is).fit;
        clear = ap none_refused a;
        left = ap (last_of st) a;
        later = λ i g. (state_after s at st (Silent k next) is i h).1 g;
      }
  leads_by at st (Found p next) is h =
      let a = at_passed s at st _ refl found is in
      record {
        since = omega arith;
        fit = (step_passed s at st _ refl found is).fit;
        clear = ap none_refused a;
        left = ap (last_of st) a;
        later = λ i g. (state_after s at st (Found p next) is i h).1 g;
      }

  -- a piece, and the pieces after it from its end on
  pub record Cut (at : ℕ) (st : State) (p : Piece) (next : State) : Type 0 where
    pub is : rest s at st ≡ p ∷ rest s p.end next
    pub more : at < p.end
    pub within : p.end ≤ length s
    pub leads : Leads at st p.end next

  module _ (at : ℕ) (st : State) where
    pub none_by : (e : Element) → element_at s at st ≡ e → (piece_of s at e).end ≡ at → (stop_at at st e ≡ last_from at st) × (rest s at st ≡ [])
    unfolding piece_of last_of pieces_from
    none_by End is h = let a = at_end s at st _ refl is in (sym (ap (last_of st) a), ap (pieces_from s) a)
    none_by (Refused n o) is h = let a = at_refused s at st _ refl is in (sym (ap (last_of st) a), ap (pieces_from s) a)
    none_by (Silent k next) is h = let z = fits s at st silent is in absurd (omega arith)
    none_by (Found p next) is h = let z = fits s at st found is in absurd (omega arith)

    pub run_none : (piece_at s at st).end ≡ at → stop_at at st (element_at s at st) ≡ run_from s at st
    unfolding first_of
    run_none h = let z = none_by (element_at s at st) refl h in rw z.1 z.0

    module _ {p : Piece} {next : State} (c : Cut at st p next) where
      pub run_shown : is_run p.kind ≡ true → run_step_to p.end next (shown_of (length s) p) ≡ run_from s at st
      run_shown r =
          let there : state_from s at st p.end ≡ next = c.leads.later p.end (omega arith) ∙
          first_state s p.end next (element_at s p.end next) refl in
          sym (ap (first_of (length s) (state_from s at st) (last_from at st)) c.is ∙
          (first_run _ _ _ p _ r ∙ ap (λ (x : State). run_step_to p.end x (shown_of (length s) p)) there))

      pub run_later : is_run p.kind ≡ false → run_from s p.end next ≡ run_from s at st
      run_later r =
          sym (ap (first_of (length s) (state_from s at st) (last_from at st)) c.is ∙
          (first_other _ _ _ p _ r ∙
          (agree (length s) (last_from at st) (tiled s (suc (length s)) p.end next c.within (omega arith)).tiles c.leads.later ∙
          ap (λ (x : RunStep). first_of (length s) (state_from s p.end next) x (rest s p.end next)) c.leads.left)))

    -- ---- what is passed at once

    -- a piece that is there, before it is joined to others
    pub record Moved (q : Piece) : Type 0 where
      pub starts : q.start ≡ at
      pub more : at < q.end
      pub within : q.end ≤ length s
      pub is : rest s at st ≡ joined q (rest s q.end q.state)
      pub leads : Leads at st q.end q.state

    moved_by : {q : Piece} → Step s at st q → (q.end ≡ at → ⊥) → Leads at st q.end q.state → Moved q
    moved_by (stops e x) n h = absurd (n refl)
    moved_by (goes b l u e x) n h = record { starts = b; more = l; within = u; is = e; leads = h }

    pub moved : (q : Piece) → q ≡ piece_at s at st → (q.end ≡ at → ⊥) → Moved q
    moved q is n = rw is (moved_by (step s at st) (rw is at n) (leads_by at st (element_at s at st) refl (rw is at n)))

    -- what is given at a place is a piece of some octets
    given-moves : {q : Piece} → Step s at st q → q.kind < piece_kind.none → q.end ≡ at → ⊥
    given-moves (stops e x) h n = omega arith
    given-moves (goes b l u e x) h n = omega arith

    pub given_moves : (p : CodePiece) → viewed p ≡ piece_at s at st → p.end ≡ at → ⊥
    given_moves p is = given-moves {q = viewed p} (rw is (step s at st)) (kind_low p.kind)

    run-moves : {q : Piece} → Step s at st q → q.kind < 2 → q.end ≡ at → ⊥
    run-moves (stops e x) h n = omega arith
    run-moves (goes b l u e x) h n = omega arith

    moved-run : (q : Piece) → q ≡ piece_at s at st → q.kind < 2 → Moved q
    moved-run q is h = moved q is (run-moves {q = q} (rw is (step s at st)) h)

    -- a piece of another kind is not joined
    apart : (a k : ℕ) {q : Piece} → Step s at st q → (q.kind ≡ k → ⊥)
        → joined (piece a at k st) (rest s at st) ≡ piece a at k st ∷ rest s at st
    unfolding joined
    apart a k (stops e x) n = rw e
    apart a k (goes {q} b l u e x) n =
        rw e (joined_apart (piece a at k st) q (rest s q.end q.state) (test (same_run_of k q.kind) (λ y. absurd (n (sym (same_kind _ _ y)))) (λ y. y)))

    -- a piece of the same run is
    longer : (a k w : ℕ) → k < 2 → Moved (piece at (at + w) k st)
        → joined (piece a at k st) (rest s at st) ≡ joined (piece a (at + w) k st) (rest s (at + w) st)
    unfolding same_run_of pick
    longer a k w low m =
        ap (joined (piece a at k st)) m.is ∙
        joined_same (piece a at k st) (piece at (at + w) k st) (rest s (at + w) st) refl (rw (lt-ltb k 2 low) (eq-eqb k k refl))

  -- a run grows by pieces of its kind
  pub record Grown (a k : ℕ) (st : State) (i e : ℕ) : Type 0 where
    is : joined (piece a i k st) (rest s i st) ≡ piece a e k st ∷ rest s e st
    leads : Leads i st e st
    within : i ≤ length s → e ≤ length s

  grown : (a k : ℕ) (st : State) {i e : ℕ} → k < 2 → Grows s st k i e → Grown a k st i e
  grown a k st low (none {at = i} n) = record { is = apart i st a k (step s i st) n; leads = leads_here i st; within = λ h. h }
  grown a k st low (more {at = i} w is g) =
      let m = moved-run i st (piece i (i + w) k st) (sym is) low in
      let r = grown a k st low g in
      record { is = longer i st a k w low m ∙ r.is; leads = leads_on m.leads r.leads; within = λ h. r.within m.within }

  module _ (at : ℕ) (st : State) where
    -- a run from its first element on
    pub cut_run : (q : Piece) {e : ℕ} → q ≡ piece_at s at st → q.kind < 2 → Grows s q.state q.kind q.end e
        → Cut at st (piece q.start e q.kind q.state) q.state
    cut_run q is low g =
        let m = moved-run at st q is low in
        let r = grown q.start q.kind q.state low g in
        record {
          is = m.is ∙ r.is;
          more = omega (arith, m.more, r.leads.since);
          within = r.within m.within;
          leads = leads_on m.leads r.leads;
        }

    -- in a state that text leaves as it is
    pub cut_text : (k : ℕ) {e : ℕ} → k < 2 → Grows s st k at e → at < e → Cut at st (piece at e k st) st
    cut_text k low (none n) l = absurd (omega arith)
    cut_text k low (more w is g) l = cut_run (piece at (at + w) k st) (sym is) low g

    -- an element that is no character or space
    pub cut_other : (q : Piece) → q ≡ piece_at s at st → (q.end ≡ at → ⊥) → is_run q.kind ≡ false → Cut at st q q.state
    cut_other q is n r =
        let m = moved at st q is n in
        record { is = m.is ∙ joined_other q _ r; more = m.more; within = m.within; leads = m.leads }

    -- a designation that is found by its octets
    pub cut_designation : (d : Designation) → d ≡ designation_at (from at s) → d.set < no_set
        → Cut at st (piece at (at + d.octets) piece_kind.control (designated_of d.side d.set st)) (designated_of d.side d.set st)
    unfolding piece_of
    cut_designation d e k =
        let is = designation_silent (from at s) st d e k in
        let z = fits s at st silent (sym is) in
        cut_other (piece at (at + d.octets) piece_kind.control (designated_of d.side d.set st)) (ap (piece_of s at) is) (λ y. omega (arith, z.0, y)) refl

    -- ---- the turns of the loops

    pub cut_found : (o : Result Designation Unnamed) (d : Designation) → o ≡ named_or (designation_at (from at s)) → o ≡ Ok d
        → Cut at st (piece at (at + d.octets) piece_kind.control (designated_of d.side d.set st)) (designated_of d.side d.set st)
    cut_found o d e f = let h = ok_named o _ e d f in cut_designation d h.0 h.1

    -- text that leaves the state, up to the end that the code finds for a number j, which is that of the kind
    pub text_cut : Octets s → (k e j : ℕ) → k < 2 → settled_of st.directions ≡ true → j ≡ k → e ≡ text_to st.sets j at (from at s) → at < e
        → Cut at st (piece at e k st) st
    text_cut o k e j low settled same is l = cut_text k low (rw (is, same) (text_grows s st settled o k low at)) l

    -- the first text of a string, or of what a position made by hand leaves open
    pub begun_cut : Octets s → (q : Piece) (e j : ℕ) → q ≡ piece_at s at st → q.kind < 2 → j ≡ q.kind
        → e ≡ text_to q.state.sets j q.end (from q.end s) → Cut at st (piece q.start e q.kind q.state) q.state
    begun_cut o q e j is low same end =
        let settled : settled_of q.state.directions ≡ true = rw is (text_settled s st at (lt-ltb _ 2 (rw is at low))) in
        cut_run q is low (rw (end, same) (text_grows s q.state settled o q.kind low q.end))

    pub begun_starts : (q : Piece) → q ≡ piece_at s at st → q.kind < 2 → q.start ≡ at
    begun_starts q is low = (moved-run at st q is low).starts

    pub turn_shown : {p q : Piece} {r : RunStep} → Cut at st p p.state → p.kind < 2 → q ≡ p
        → r ≡ run_step_to q.end q.state (shown_of (length s) q) → r ≡ run_from s at st
    turn_shown {p} c low e g =
        g ∙ (ap (λ (x : Piece). run_step_to x.end x.state (shown_of (length s) x)) e ∙ run_shown at st c (lt-ltb p.kind 2 low))

    pub turn_none : (q : Piece) {r : RunStep} → q ≡ piece_at s at st → q.end ≡ at → r ≡ stop_at at st (element_at s at st) → r ≡ run_from s at st
    turn_none q is h e = e ∙ run_none at st (sym (ap (λ (x : Piece). x.end) is) ∙ h)

    pub turn_over : {r : RunStep} → length s ≤ at → r ≡ stop_at at st (element_at s at st) → r ≡ run_from s at st
    turn_over h e = turn_none (no_piece at) (on_past s at st (no_piece at) h refl) refl e

-- in whatever state
pub designation_fits : (s : List ℕ) (at : ℕ) (d : Designation) → d ≡ designation_at (from at s) → d.set < no_set
    → (at < at + d.octets) × (at + d.octets ≤ length s)
designation_fits s at d e k = let c = cut_designation s at fresh d e k in (c.more, c.within)

pub found_fits : (s : List ℕ) (at : ℕ) (o : Result Designation Unnamed) (d : Designation) → o ≡ named_or (designation_at (from at s)) → o ≡ Ok d
    → (at < at + d.octets) × (at + d.octets ≤ length s)
found_fits s at o d e f = let h = ok_named o _ e d f in designation_fits s at d h.0 h.1

pub side_low : {k : ℕ} (b : ℕ) → k ≡ side_kind_of b → k < 2
unfolding side_kind_of
side_low b e = rw e (pick_by (λ (k : ℕ). k < 2) (ltb b 128) (λ _. omega arith) (λ _. omega arith))
