-- The unit at a cursor of a string, if one is ahead, is that of the elements from there on (`advance_ahead`), where the cursor's sets are
-- theirs. An element that is not refused is the same under such a state (`next_ahead`, `by_element`), and so is a mark (`by_marked`); what is taken
-- for text is the element or is left to it (`text_turns`); and a designation that is passed is the element (`passed_on`).
use Rattle.element.proofs.Names.{ℕ, ◌+◌, ◌%◌, ◌^◌, ◌≤◌, ◌<◌, arith, ◌≡◌, refl, ap, ◌∙◌, subst, Bool, true, false, List, [], ◌∷◌, eqb, ltb}
use Rattle.element.proofs.Names.{length, le-ltb, ltb-true, pick, from, UnitRecord, no_set, designated_of, State, Part, Element, End, Refused}
use Rattle.element.proofs.Names.{Silent, Found}
use native.Mathlib.Nat.{mod-eq_of_lt}
use Rattle.base.specs.Limit as limit
use Rattle.state.specs.Directions.{in_force_of}
use Rattle.element.specs.Element.{element_of}
use Rattle.element.proofs.Sizes.{silent as is-silent, found as is_found}
use Rattle.grammar.specs.Reading.{Elements, size}
use Rattle.grammar.proofs.Places.{ahead, at_passed, Ahead, ends, stops, passes, reads}
use Rattle.designations.specs.Designation.{designation_at}
use Rattle.designations.specs.declared.Designation.{Designation}
use Rattle.designations.proofs.Designations.{designation_silent}
use Rattle.units.specs.Records.{record_of, records_from}
use Rattle.units.specs.Next.{outcome_of, next_of}
use Rattle.units.specs.Next.{Outcome}
use Rattle.units.specs.Next.{Gives}
use Rattle.cursor.specs.Cursor.{flagged, kept, cursor, turn, outcome_turn, element_turn, marked_turn, placed_of, passed_of, text_turn, advance_at}
use Rattle.cursor.specs.Cursor.{advance_of}
use Rattle.cursor.specs.declared.Cursor.{Cursor}
use Rattle.cursor.specs.declared.Turn.{Turn}
use Rattle.cursor.proofs.Free.{Like, like, texted, same_sets_lem, Same, silent as same-silent, found as same-found, same_element}
use Rattle.cursor.proofs.Marked.{marked_is}
use Rattle.cursor.proofs.Quick.{Only, refused, found, text_part, text_at, Quick, as-text, as-other, quick_turn}

-- a turn is that of a unit which is given
pub data Turns : Turn → Outcome → Type 0 where
  turns : {u : UnitRecord} {place : ℕ} {st to : State} → Like st to → Turns (turn u (cursor place to)) (Gives u place st)

-- ---- any element

silent_is : {k : ℕ} {next : State} {e : Element} → Same (Silent k next) e → e ≡ Silent k (kept next)
silent_is same-silent = refl

found_is : {p : Part} {next : State} {e : Element} → Same (Found p next) e → (m : Bool) × (t : Bool) × (e ≡ Found p (flagged m t next))
found_is (same-found {marked = m} {texted = t}) = (m, t, refl)

-- an outcome that gives a unit, and the same with other flags
pub data Alike : Outcome → Outcome → Type 0 where
  alike : {u : UnitRecord} {place : ℕ} {st : State} {marked texted : Bool} → Alike (Gives u place (flagged marked texted st)) (Gives u place st)

module _ (s : List ℕ) where
  same_next : {at : ℕ} {st to : State} {es : Elements} → Ahead s at st es → Like st to → 1 ≤ length (records_from es)
      → Alike (outcome_of to (ahead s at to)) (outcome_of st es)
  unfolding records_from outcome_of in_force_of
  same_next (ends e) l h = absurd (omega arith)
  same_next (stops f e) l h = absurd (omega arith)
  same_next {at} {st} (passes t e a) like h =
      let i = silent_is (rw t.is at (same_element (from at s) st)) in
      rw (at_passed s at (kept st) _ refl is-silent i) (same_next a like h)
  same_next {at} {st} (reads t m e a) like h =
      let i = found_is (rw t.is at (same_element (from at s) st)) in
      rw (at_passed s at (kept st) _ refl is_found i.2) (alike {marked = i.0} {texted = i.1})

turned : {o given : Outcome} (c : Cursor) → Alike o given → Turns (outcome_turn c o) given
unfolding outcome_turn
turned c alike = turns like

module _ (s : List ℕ) (short : length s ≤ limit.octets) where
  -- the unit that is next by the elements
  pub next_ahead : {at : ℕ} {st to : State} {es : Elements} → Ahead s at st es → Like st to → 1 ≤ length (records_from es)
      → Alike (next_of s at to) (outcome_of st es)
  unfolding next_of pick
  next_ahead a l h = rw (le-ltb limit.octets (length s) short) (same_next s a l h)

  pub by_element : {at : ℕ} {st to : State} {es : Elements} → Ahead s at st es → Like st to → 1 ≤ length (records_from es)
      → Turns (element_turn s (cursor at to)) (outcome_of st es)
  unfolding element_turn
  by_element {at} {st} a like h = turned (cursor at st) (next_ahead a like h)

  -- what is alike gives a unit
  gives_some : {o given : Outcome} → Alike o given → (u : UnitRecord) × (place : ℕ) × (after : State) × (o ≡ Gives u place after)
  gives_some (alike {u = u} {place = place} {st = st} {marked = m} {texted = t}) = (u, place, flagged m t st, refl)

  by_marked : {at : ℕ} {st to : State} {es : Elements} → Ahead s at st es → Like st to → 1 ≤ length (records_from es)
      → Turns (marked_turn s (cursor at to)) (outcome_of st es)
  by_marked {at} {st} a like h = rw (marked_is s (cursor at st) short (gives_some (next_ahead a like h)).3) (by_element a like h)

  -- ---- text

  same_part : {p q : Part} {st next : State} → Only q st (Found p next) → (q ≡ p) × (texted st ≡ next)
  same_part found = (refl, refl)

  not_silent : {q : Part} {st next : State} {e : Element} {k : ℕ} → Only q st e → e ≡ Silent k next → ⊥
  not_silent {next = next} {k = k} (refused {n} {o}) i =
      let h : Refused n o ≡ Silent k next = i in
      let z : ◌≡◌ {A = ℕ} 0 1 = cc in
      omega arith
  not_silent {q} {st} {next} {k = k} found i =
      let h : Found q (texted st) ≡ Silent k next = i in
      let z : ◌≡◌ {A = ℕ} 0 1 = cc in
      omega arith

  -- text keeps the directions
  of_text : (at : ℕ) {st to : State} (p : Part) → Like st to
      → Turns (turn (record_of p at to.directions) (cursor (at + size p) to)) (Gives (record_of p at (texted st).directions) (at + size p) (texted st))
  unfolding in_force_of
  of_text at p like = turns like

  found_by : {at : ℕ} {st to : State} {same : st.sets ≡ to.sets} {p : Part} {next : State} {r other : Turn} → at < 2 ^ 32 → Like st to
      → Quick at st to same other (Found p next) r → Turns other (Gives (record_of p at next.directions) (at + size p) next)
      → Turns r (Gives (record_of p at next.directions) (at + size p) next)
  found_by h l as-other e = e
  found_by {at} {st} {to} {p = p} {next} h l (as-text k set code octets o) e =
      let m : at % 2 ^ 32 ≡ at + 0 = mod-eq_of_lt h ∙ (let z : at ≡ at + 0 = omega arith in z) in
      let n : at + octets ≡ at + (0 + octets) = omega arith in
      let q : Part = text_part k set code octets in
      let a : text_at at to k set code octets ≡ turn (record_of q at to.directions) (cursor (at + size q) to) = rw (m, n) in
      let t : Turn = turn (record_of q at to.directions) (cursor (at + size q) to) in
      rw a (subst (λ (x : Part). Turns t (Gives (record_of x at next.directions) (at + size x) next)) (same_part o).0
      (subst (λ (x : State). Turns t (Gives (record_of q at x.directions) (at + size q) x)) (same_part o).1 (of_text at q l)))

  silent_by : {at : ℕ} {st to : State} {same : st.sets ≡ to.sets} {e : Element} {k : ℕ} {next : State} {r other : Turn} → e ≡ Silent k next
      → Quick at st to same other e r → r ≡ other
  silent_by i as-other = refl
  silent_by i (as-text k set code octets o) = absurd (not_silent o i)

  quick : (at : ℕ) {st to : State} (l : Like st to)
      → Quick at st to (same_sets_lem l) (marked_turn s (cursor at to)) (element_of (from at s) st) (text_turn s (cursor at to))
  unfolding text_turn
  quick at {st} like = quick_turn at st (kept st) (same_sets_lem like) (marked_turn s (cursor at st)) (from at s)

  text_turns : {at : ℕ} {st to : State} {es : Elements} → Ahead s at st es → Like st to → 1 ≤ length (records_from es)
      → Turns (text_turn s (cursor at to)) (outcome_of st es)
  unfolding records_from outcome_of
  text_turns (ends e) l h = absurd (omega arith)
  text_turns (stops f e) l h = absurd (omega arith)
  text_turns {at} (passes t e a) l h = rw (silent_by t.is (quick at l)) (by_marked (passes t e a) l h)
  text_turns {at} (reads t m e a) l h = found_by (omega (arith, t.fits, short)) l (rw t.is at (quick at l)) (by_marked (reads t m e a) l h)

  -- ---- designations

  -- the octets and the state after an element that gives no unit
  octets_in : Element → ℕ
  octets_in End = 0
  octets_in (Refused n o) = 0
  octets_in (Silent k st) = k
  octets_in (Found p st) = 0

  state_in : State → Element → State
  state_in z End = z
  state_in z (Refused n o) = z
  state_in z (Silent k st) = st
  state_in z (Found p st) = z

  like_designated : {st to : State} (d : Designation) → Like st to → Like (designated_of d.side d.set st) (designated_of d.side d.set to)
  like_designated d like = like

  -- a cursor that stands where other elements do, which give the same unit next
  record Onward (c : Cursor) (o : Outcome) : Type 0 where
    at : ℕ
    st : State
    to : State
    es : Elements
    from-there : Ahead s at st es
    same : Like st to
    is : c ≡ cursor at to
    some : 1 ≤ length (records_from es)
    gives : outcome_of st es ≡ o

  here : {at : ℕ} {st to : State} {es : Elements} → Ahead s at st es → Like st to → 1 ≤ length (records_from es)
      → Onward (cursor at to) (outcome_of st es)
  here {at} {st} {to} {es} a l h =
      record { at = at; st = st; to = to; es = es; from-there = a; same = l; is = refl; some = h; gives = refl }

  placed_on : {at : ℕ} {st to : State} {es : Elements} → Ahead s at st es → Like st to → 1 ≤ length (records_from es) → (d : Designation)
      → Silent d.octets (designated_of d.side d.set st) ≡ element_of (from at s) st
      → Onward (cursor (at + d.octets) (designated_of d.side d.set to)) (outcome_of st es)
  unfolding records_from outcome_of octets_in state_in
  placed_on (ends e) l h d i = absurd (omega arith)
  placed_on (stops f e) l h d i = absurd (omega arith)
  placed_on {at} {st} {to} (passes {k = k} {next = next} t e a) l h d i =
      let j : Silent d.octets (designated_of d.side d.set st) ≡ Silent k next = i ∙ t.is in
      let g : Like next (designated_of d.side d.set to) =
      subst (λ (x : State). Like x (designated_of d.side d.set to)) (ap (state_in st) j) (like_designated d l) in
      rw (ap octets_in j) (here a g h)
  placed_on {at} {st} (reads {p = p} {next = next} t m e a) l h d i =
      let j : Silent d.octets (designated_of d.side d.set st) ≡ Found p next = i ∙ t.is in
      let z : ◌≡◌ {A = ℕ} 0 1 = cc in
      absurd (omega arith)

  placed_by : {at : ℕ} {st to : State} {es : Elements} → Ahead s at st es → Like st to → 1 ≤ length (records_from es)
      → (d : Designation) → d ≡ designation_at (from at s) → (b : Bool) → ltb d.set no_set ≡ b
      → Onward (pick b (cursor (at + d.octets) (designated_of d.side d.set to)) (cursor at to)) (outcome_of st es)
  unfolding pick
  placed_by {at} {st} a l h d e true k = placed_on a l h d (designation_silent (from at s) st d e (ltb-true d.set no_set k))
  placed_by a l h d e false k = here a l h

  passed_on : {at : ℕ} {st to : State} {es : Elements} → Ahead s at st es → Like st to → 1 ≤ length (records_from es)
      → Onward (passed_of s (cursor at to)) (outcome_of st es)
  unfolding passed_of placed_of
  passed_on {at} a l h = placed_by a l h (designation_at (from at s)) refl (ltb (designation_at (from at s)).set no_set) refl

  twice : {c : Cursor} {o : Outcome} → Onward c o → Onward (passed_of s c) o
  twice {c} {o} n = rw (n.is, ← n.gives) (passed_on n.from-there n.same n.some)

  turns_on : {c : Cursor} {o : Outcome} → Onward c o → Turns (text_turn s c) o
  turns_on n = rw (n.is, ← n.gives) (text_turns n.from-there n.same n.some)

  -- ---- the unit at a cursor

  either : {x y : Turn} {o : Outcome} (b : Bool) → Turns x o → Turns y o → Turns (pick b x y) o
  unfolding pick
  either true h k = h
  either false h k = k

  advance_by : (t : List ℕ) {c : Cursor} {o : Outcome} → Onward c o → Turns (advance_at t s c) o
  unfolding advance_at
  advance_by [] n = turns_on n
  advance_by (b ∷ t) n = either (eqb b 0x1B) (turns_on (twice (twice n))) (turns_on n)

  pub advance_ahead : {at : ℕ} {st to : State} {es : Elements} → Ahead s at st es → Like st to → 1 ≤ length (records_from es)
      → Turns (advance_of s (cursor at to)) (outcome_of st es)
  advance_ahead {at} a l h = advance_by (from at s) (here a l h)
