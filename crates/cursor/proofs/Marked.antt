-- A mark that is read by its second octet is the element there, where a unit is next (`marked_is`): what starts with 9B is refused or is the mark
-- of that octet, and then the step of the direction rule decides of both. `mark_goes` and `mark_stops` say the turn of a mark by its step.
use Rattle.element.proofs.Names.{ℕ, ◌+◌, ◌%◌, ◌^◌, ◌≤◌, ◌<◌, arith, ◌≡◌, refl, ap, sym, ◌∙◌, Bool, true, false, List, [], ◌∷◌, eqb, ltb}
use Rattle.element.proofs.Names.{length, get_or, eqb-true, ltb-true, ltb-false, le-ltb, pick, test, clash, from, from_octet, from_end, UnitRecord}
use Rattle.element.proofs.Names.{part, next, step_of, State, Directions, Step, Goes, Stops as Halts, Part, Shape, Refuses, Gives as Makes}
use Rattle.element.proofs.Names.{Refused, Found}
use native.Mathlib.Nat.{mod-eq_of_lt}
use Rattle.base.specs.Kind as kind
use Rattle.base.specs.Limit as limit
use Rattle.control.specs.Mark.{begin_of, csi_of}
use Rattle.state.specs.Directions.{counts_as_text}
use Rattle.state.specs.State.{directed_to}
use Rattle.element.specs.Element.{shape_of, stepped_of, directed_of, element_of}
use Rattle.element.specs.Start.{start_of, begun_by}
use Rattle.units.specs.Next.{next_of}
use Rattle.units.specs.Next.{Gives, Stops}
use Rattle.units.proofs.Turn.{outcome, gives_refused, gives_found}
use Rattle.cursor.specs.Cursor.{state_in, outcome_turn, element_turn, step_turn, mark_turn, after_csi, mark_of, marked_turn}
use Rattle.cursor.specs.declared.Cursor.{Cursor}
use Rattle.cursor.specs.declared.Turn.{Turn}

-- ---- the turn of a mark by its step
module _ (k octets : ℕ) (c : Cursor) (other r : Turn) (st : State) (x : Step) (kept : st ≡ state_in c) (is : x ≡ step_of false k st.directions) where
  by_step : r ≡ step_turn c.place k octets st other x → r ≡ mark_turn c.place k octets (state_in c) other
  by_step q = q ∙ ap (step_turn c.place k octets st other) is ∙ ap (λ (z : State). mark_turn c.place k octets z other) kept

  pub mark_goes : (d : Directions) → x ≡ Goes d → r ≡ step_turn c.place k octets st other (Goes d)
      → r ≡ mark_turn c.place k octets (state_in c) other
  mark_goes d e q = by_step (rw e q)

  pub mark_stops : (n : ℕ) → x ≡ Halts n → r ≡ other → r ≡ mark_turn c.place k octets (state_in c) other
  unfolding step_turn
  mark_stops n e q = by_step (rw e q)

-- ---- the shape after 9B

-- a shape that is refused, or is a mark of a kind and so many octets
abbrev mark_part : ℕ → ℕ → Part
mark_part k octets = part k 0 0 0 octets false

data Mark (k octets : ℕ) : Shape → Type 0 where
  bad : {n o : ℕ} → Mark k octets (Refuses n o)
  good : Mark k octets (Makes (mark_part k octets))

either : (k octets : ℕ) (b : Bool) {x y : Shape} → Mark k octets x → Mark k octets y → Mark k octets (pick b x y)
unfolding pick
either k octets true h i = h
either k octets false h i = i

begins : (k : ℕ) → counts_as_text k 0 ≡ false → (t : List ℕ) → Mark k 3 (begin_of k t)
unfolding begin_of next
begins k e [] = bad
begins k e (b ∷ t) = either _ _ (eqb b 0x5D) (rw e good) bad

-- ---- the unit that is next
module _ (s : List ℕ) (c : Cursor) (short : length s ≤ limit.octets) where
  abbrev at : ℕ
  at = c.place

  abbrev st : State
  st = state_in c

  abbrev other : Turn
  other = element_turn s c

  next_is : next_of s at st ≡ outcome s at st
  unfolding next_of pick
  next_is = rw (le-ltb limit.octets (length s) short) refl

  module _ {u : UnitRecord} {place : ℕ} {after : State} (given : next_of s at st ≡ Gives u place after) (inside : at < length s) where
    no_refusal_lem : {n o : ℕ} {X : Type 0} → Refused n o ≡ element_of (from at s) st → X
    no_refusal_lem {n} {o} e =
        let z : Gives u place after ≡ Stops n (at + o) at st = sym given ∙ next_is ∙ sym (gives_refused s at st _ e refl) in
        clash (cc)

    -- a mark that is found is the unit that is next
    found_is : (k octets : ℕ) (d : Directions) → Found (mark_part k octets) (directed_to d st) ≡ element_of (from at s) st
        → step_turn at k octets st other (Goes d) ≡ other
    unfolding step_turn element_turn outcome_turn
    found_is k octets d e =
        let m : at % 2 ^ 32 ≡ at + 0 = mod-eq_of_lt (omega (arith, inside, short)) ∙ (let z : at ≡ at + 0 = omega arith in z) in
        let n : at + octets ≡ at + (0 + octets) = omega arith in
        rw (m, n) (ap (outcome_turn c) (gives_found s at st _ e refl refl ∙ sym next_is))

    stepped-is : (k octets : ℕ) (x : Step) → stepped_of (mark_part k octets) st x ≡ element_of (from at s) st
        → step_turn at k octets st other x ≡ other
    unfolding step_turn stepped_of
    stepped-is k octets (Goes d) e = found_is k octets d e
    stepped-is k octets (Halts n) e = refl

    mark-is : (k octets : ℕ) {x : Shape} → Mark k octets x → directed_of x st ≡ element_of (from at s) st → mark_turn at k octets st other ≡ other
    unfolding directed_of
    mark-is k octets bad e = no_refusal_lem e
    mark-is k octets good e = stepped-is k octets (step_of false k st.directions) e

    -- by the octets after 9B
    csi-is : (t : List ℕ) → directed_of (csi_of t) st ≡ element_of (from at s) st → after_csi at t st other ≡ other
    unfolding after_csi csi_of next directed_of pick
    csi-is [] e = refl
    csi-is (b ∷ t) e =
        test (eqb b 0x31) (λ i. let q = eqb-true b 0x31 i in rw q (mark-is _ _ (begins _ refl t) (rw q at e)))
        (λ i. test (eqb b 0x32) (λ j. let q = eqb-true b 0x32 j in rw q (mark-is _ _ (begins _ refl t) (rw q at e)))
        (λ j. test (eqb b 0x5D) (λ h. rw (i, j) (mark-is kind.revert 2 good (rw (h) at e))) (λ h. no_refusal_lem (rw (h, i, j) at e))))

  by_octet : {u : UnitRecord} {place : ℕ} {after : State} → next_of s at st ≡ Gives u place after → at < length s
      → (b : ℕ) → get_or s at 0 ≡ b → pick (eqb b 0x9B) (after_csi at (from (at + 1) s) st other) other ≡ other
  unfolding pick shape_of start_of begun_by
  by_octet given inside b e =
      test (eqb b 0x9B)
      (λ i. let q : from at s ≡ 0x9B ∷ from (at + 1) s = from_octet s at inside ∙ ap (λ (x : ℕ). x ∷ from (at + 1) s) (e ∙ eqb-true b 0x9B i) in
      rw i (csi-is given inside (from (at + 1) s) (sym (ap (λ (t : List ℕ). element_of t st) q))))
      (λ i. rw i)

  -- where a unit is next, it is the one of the elements
  pub marked_is : {u : UnitRecord} {place : ℕ} {after : State} → next_of s at st ≡ Gives u place after → marked_turn s c ≡ other
  unfolding marked_turn mark_of pick
  marked_is given =
      rw (le-ltb limit.octets (length s) short)
      (test (ltb at (length s)) (λ h. rw (from_octet s at (ltb-true _ _ h)) (by_octet given (ltb-true _ _ h) (get_or s at 0) refl))
      (λ h. rw (from_end s at (ltb-false _ _ h))))
