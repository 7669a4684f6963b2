-- The grammar and the reader's definition agree. What the reader accepts is of the grammar (`told`): each of its elements starts with
-- the octets of a designation or a unit, and its step by the direction rule goes on. What is of the grammar is accepted (`answered`):
-- by induction on how it reads. The theorems stand at the end.
use Rattle.element.proofs.Names.{ℕ, ◌+◌, ◌≤◌, arith, ◌≡◌, refl, sym, ap, ap₂, ◌∙◌, subst, true, false, List, [], ◌∷◌, ◌++◌, ◌↔◌, ◌⊎◌, inl}
use Rattle.element.proofs.Names.{inr, ⊎_elim, ltb, length, drop, length-append, ltb-false, le-ltb, pick, from, off, clash, test, Side, GL, GR, allowed}
use Rattle.element.proofs.Names.{may_use, Standing, on, put, designated_of, fresh, step_of, Sets, Directions, State, Step, Goes, Stops, Part, Shape, Element}
use Rattle.element.proofs.Names.{End, Refused, Silent, Found, Answer, answer}
use lib.Seq.{drop-append_seam, drop_at, get_or-drop}
use Rattle.base.proofs.Ladder.{from_from}
use Rattle.state.specs.State.{state, put'}
use Rattle.element.specs.Element.{shape_of, stepped_of, directed_of, element_of}
use Rattle.element.proofs.Sizes.{Fair, stops as stops-fairly, fair, Passed, silent, found, element_size, of_end}
use Rattle.grammar.specs.Units.{TextUnit, octets, designation}
use Rattle.grammar.specs.Grammar.{Reads, done, designate, show, Accepted, Legal}
use Rattle.base.specs.Limit as limit
use Rattle.base.specs.Refusal as refusal
use Rattle.grammar.proofs.Rule.{directed, passes as goes_on, direction_rule}
use Rattle.grammar.specs.Reading.{Elements, end_at, stopped_at, silent_at, found_at, direct, size, onward, elements, elements_of, answer_of, check_of}
use Rattle.grammar.specs.Reading.{none_refused, unit_at, units_of, reading_of, Octets, ReadAs}
use Rattle.grammar.proofs.Elements.{next_at, at_nothing, none_passed, elements_passed}
use Rattle.grammar.proofs.Places.{Ahead, ends, stops, passes, reads, from_start}
use Rattle.grammar.proofs.Sound.{Shown, Changed, Sound, refuses, designates, finds, sound}
use Rattle.grammar.proofs.Complete.{starts_designation, starts_unit, part_of, part_size, part_unit}

-- ---- the sets in force stay legal

pub fresh_legal : Legal fresh.sets
unfolding allowed may_use
fresh_legal = record { left = refl; right = refl }

pub put_legal : (p : Standing) (s : Sets) → allowed p.side p.set ≡ true → Legal s → Legal (put p s)
unfolding put
put_legal p s a l = go p.side a
  where
    go : (d : Side) → allowed d p.set ≡ true → Legal (put' d p.set s)
    go GL e = record { left = e; right = l.right }
    go GR e = record { left = l.left; right = e }

-- ---- an element, with the direction rule

pub data Right (st : State) (w : List ℕ) : Element → Type 0 where
  refused : {n o : ℕ} → 1 ≤ n → Right st w (Refused n o)
  passed : {k : ℕ} (d : Side) (c : ℕ) (t : List ℕ) → Changed w k (on d c) t → Right st w (Silent k (designated_of d c st))
  read : {p : Part} {next : Directions} (u : TextUnit) (d : Side) (t : List ℕ) → Shown st.sets w p u d t → direct st.directions u ≡ Goes next
      → Right st w (Found p (state st.sets next))

module _ (st : State) (w : List ℕ) where
  stepped : {p : Part} (u : TextUnit) (d : Side) (t : List ℕ) → Shown st.sets w p u d t → (x : Step) → direct st.directions u ≡ x
      → Fair st.directions x
      → Right st w (stepped_of p st x)
  unfolding stepped_of
  stepped u d t h (Goes next) e f = read u d t h e
  stepped u d t h (Stops n) e (stops-fairly f) = refused {n = n} (omega (arith, f.0))

  pub right : {x : Shape} → Sound st.sets w x → Right st w (directed_of x st)
  unfolding directed_of
  right (refuses h) = refused h
  right (designates d c t h) = passed d c t h
  right (finds {p} u d t h) =
      stepped u d t h _ (ap₂ (λ x k. step_of x k st.directions) (sym h.text) (sym h.kind))
      (fair st.directions p.text p.kind)

-- ---- what is accepted is of the grammar

record Told (st : State) (t : List ℕ) (us : List TextUnit) : Type 0 where
  reads : Reads st.sets t us
  rule : directed us st.directions ≡ true

-- the element of octets that are left, where it is passed
right_passed : (st : State) (w : List ℕ) {e : Element} {k : ℕ} {next : State} → Legal st.sets → Octets w → Passed e k next → element_of w st ≡ e
    → Right st w e
right_passed st [] l o v e = absurd (none_passed v (sym (at_nothing st) ∙ e))
right_passed st (b ∷ t) l o v e = rw e at (right st _ (sound st.sets l b t o))

module _ (st : State) (w : List ℕ) (l : Legal st.sets) where
  told_passed : {k : ℕ} {next : State} {us : List TextUnit} → Right st w (Silent k next) → (Legal next.sets → Told next (drop k w) us)
      → Told st w us
  told_passed {k} (passed d c t h) f =
      let r = f (put_legal (on d c) st.sets h.may l) in
      record { reads = rw h.are (designate _ h.may (rw (h.are, drop_at _ t k h.size) at r.reads)); rule = r.rule }

  told_read : {p : Part} {next : State} {us : List TextUnit} → Right st w (Found p next) → (Legal next.sets → Told next (drop (size p) w) us)
      → Told st w (unit_at p w ∷ us)
  unfolding directed
  told_read {p} (read u d t h e) f =
      let r = f l in
      rw h.unit (record {
        reads = rw h.are (show u d h.fit h.shows (rw (h.are, drop_at _ t _ h.size) at r.reads));
        rule = rw e r.rule;
      })

-- nothing is left where the elements end
ends_empty : (w : List ℕ) (at : ℕ) (st : State) → elements w 0 at st ≡ end_at at → w ≡ []
unfolding elements onward
ends_empty [] at st e = refl
ends_empty (b ∷ t) at st e = go (element_of (b ∷ t) st) refl e
  where
    go : (x : Element) → element_of (b ∷ t) st ≡ x → onward at x (λ k next. elements t k (at + 1) next) ≡ end_at at → b ∷ t ≡ []
    go End q e = absurd (omega (arith, of_end (rw q at (element_size (b ∷ t) st))))
    go (Refused n o) q e = clash (cc)
    go (Silent k next) q e = clash (cc)
    go (Found p next) q e = clash (cc)

module _ (s : List ℕ) (o : Octets s) where
  pub octets_from : (at : ℕ) → Octets (from at s)
  unfolding from
  octets_from at i = rw (get_or-drop at s i 0) (o _)

  told : {at : ℕ} {st : State} {es : Elements} → Ahead s at st es → Legal st.sets → none_refused es ≡ true
      → Told st (from at s) (units_of (from at s) es)
  unfolding units_of directed none_refused
  told {at} {st} (ends e) l z = record { reads = rw (ends_empty _ at st e) done; rule = refl }
  told (stops h e) l z = off z
  told {at} {st} (passes {k = k} t e a) l z =
      told_passed st _ l (right_passed st (from at s) l (octets_from at) silent t.is) (λ m. rw (from_from s at k) (told a m z))
  told {at} {st} (reads {p = p} t m e a) l z =
      told_read st _ l (right_passed st (from at s) l (octets_from at) found t.is) (λ m. rw (from_from s at (size p)) (told a m z))

-- ---- what is of the grammar is accepted

record Answered (st : State) (t : List ℕ) (us : List TextUnit) (at count : ℕ) : Type 0 where
  answers : answer_of count (elements t 0 at st) ≡ answer 0 (at + length t) (count + length us)
  units : units_of t (elements t 0 at st) ≡ us

-- the octets w of an element before others
elements_after : (w t : List ℕ) (at : ℕ) (st : State) {x : Shape} {e : Element} {k : ℕ} {next : State} → Passed e k next → length w ≡ k
    → shape_of (w ++ t) st.sets ≡ x → directed_of x st ≡ e → elements (w ++ t) 0 at st ≡ next_at at e (elements t 0 (at + k) next)
elements_after w t at st {k = k} v z f e = rw (drop_at w t k z) at (elements_passed at st (w ++ t) v (ap (λ (y : Shape). directed_of y st) f ∙ e))

answered : {s : Sets} {t : List ℕ} {us : List TextUnit} → Reads s t us → (d : Directions) → Legal s → directed us d ≡ true → (at count : ℕ)
    → Answered (state s d) t us at count
unfolding answer_of elements units_of directed directed_of stepped_of
answered done d l e at count = record { answers = ap₂ (answer 0) (omega arith) (omega arith); units = refl }
answered {s} (designate {t = t} p a r) d l e at count =
    let v = elements_after (designation p) t at (state s d) silent refl (starts_designation s _ _ t a) refl in
    let i = answered r d (put_legal p s a l) e _ count in
    record {
      answers = rw v (i.answers ∙ ap₂ (answer 0) (omega (arith, length-append (designation p) t)) refl);
      units =
          rw v (ap (λ (x : List ℕ). units_of x (elements t 0 (at + length (designation p)) (state (put p s) d))) (drop-append_seam (designation p) t)
          ∙ i.units);
    }
answered {s} (show {t = t} {us = us} u b g h r) d l e at count =
    go (direct d u) refl e (λ m f. answered r m l f (at + size (part_of u)) (count + 1))
  where
    go : (x : Step) → direct d u ≡ x → goes_on x (λ m. directed us m) ≡ true
        → ((m : Directions) → directed us m ≡ true → Answered (state s m) t us (at + size (part_of u)) (count + 1))
        → Answered (state s d) (octets b u ++ t) (u ∷ us) at count
    go (Stops m) q e k = off e
    go (Goes m) q e k =
        let v = elements_after (octets b u) t at (state s d) found (part_size u b) (starts_unit s l u b t g h) (ap (stepped_of (part_of u) (state s d)) q) in
        let i = k m e in
        record {
          answers = rw v (i.answers ∙ ap₂ (answer 0) (omega (arith, length-append (octets b u) t, part_size u b)) (omega arith));
          units =
              rw v (ap₂ ◌∷◌ (part_unit u b t)
              (ap (λ (x : List ℕ). units_of x (elements t 0 (at + size (part_of u)) (state s m))) (drop_at (octets b u) t _ (part_size u b)) ∙ i.units));
        }

-- ---- what is not refused is answered 0

pub zero_none : (s : List ℕ) (count : ℕ) {at : ℕ} {st : State} {es : Elements} → Ahead s at st es → (answer_of count es).number ≡ 0
    → none_refused es ≡ true
unfolding answer_of none_refused
zero_none s count (ends e) z = refl
zero_none s count (stops {n = n} h e) z = absurd (let y : n ≡ 0 = z in omega arith)
zero_none s count (passes t e a) z = zero_none s count a z
zero_none s count (reads t m e a) z = zero_none s (count + 1) a z

-- and what is refused has count 0
by_refusal : (count : ℕ) (es : Elements) → ((answer_of count es).number ≡ 0) ⊎ ((none_refused es ≡ false) × ((answer_of count es).count ≡ 0))
unfolding answer_of none_refused
by_refusal count (end_at at) = inl refl
by_refusal count (stopped_at at n o) = inr (refl, refl)
by_refusal count (silent_at at k st es) = by_refusal count es
by_refusal count (found_at at p st es) = by_refusal (count + 1) es

-- ---- the theorems

-- an accepted string is answered 0, its length and the number of its units
pub accepted_answer : (s : List ℕ) (us : List TextUnit) → Accepted s us → check_of s ≡ answer 0 (length s) (length us)
unfolding check_of pick
accepted_answer s us a =
    rw (le-ltb _ _ a.short)
    ((answered a.reads _ fresh_legal ((direction_rule us).1 a.rule) 0 0).answers ∙ ap₂ (answer 0) (omega arith) (omega arith))

reading_is : (s : List ℕ) (us : List TextUnit) → Accepted s us → reading_of s ≡ us
unfolding reading_of
reading_is s us a = (answered a.reads _ fresh_legal ((direction_rule us).1 a.rule) 0 0).units

correct : (s : List ℕ) → Octets s → (check_of s).number ≡ 0 → Accepted s (reading_of s)
unfolding check_of reading_of pick from
correct s o z =
    test (ltb limit.octets (length s)) (λ e. clash (cc (rw e at z)))
    (λ e. let r = told s o (from_start s) fresh_legal (zero_none s 0 (from_start s) (rw e at z)) in
    record { reads = r.reads; rule = (direction_rule _).0 r.rule; short = ltb-false _ _ e })

-- the two layers agree: the reader accepts a string of octets and reads it as units exactly where the grammar says so
pub agrees : (s : List ℕ) (us : List TextUnit) → Octets s → ReadAs s us ↔ Accepted s us
agrees s us o = (
  λ r. subst (Accepted s) r.reading (correct s o r.accepted),
  λ a. record { octets = o; accepted = ap (λ (x : Answer). x.number) (accepted_answer s us a); reading = reading_is s us a },
)

-- a string has at most one reading
pub one_reading : (s : List ℕ) (us vs : List TextUnit) → Accepted s us → Accepted s vs → us ≡ vs
one_reading s us vs a b = sym (reading_is s us a) ∙ reading_is s vs b

-- an accepted string of octets, by its answer alone
pub accepted_whole : (s : List ℕ) → Octets s → (check_of s).number ≡ 0 → check_of s ≡ answer 0 (length s) (length (reading_of s))
accepted_whole s o z = accepted_answer s _ (correct s o z)

-- a refusal has count 0
pub refused_count : (s : List ℕ) → ((check_of s).number ≡ 0 → ⊥) → (check_of s).count ≡ 0
unfolding check_of pick
refused_count s n =
    test (ltb limit.octets (length s)) (λ e. rw e)
    (λ e. rw e (⊎_elim (λ z. absurd (n (rw e z))) (λ z. z.1) (by_refusal 0 _)))

-- which strings are accepted (rule U5)
pub accepted_where : (s : List ℕ) → Octets s
    → ((check_of s).number ≡ refusal.accepted) ↔ ((length s ≤ limit.octets) × (none_refused (elements_of s) ≡ true))
unfolding check_of pick
accepted_where s o = (
  λ z. test (ltb limit.octets (length s)) (λ e. clash (cc (rw e at z)))
      (λ e. (ltb-false _ _ e, zero_none s 0 (from_start s) (rw e at z))),
  λ h. rw (le-ltb _ _ h.0) (⊎_elim (λ z. z) (λ z. off (sym z.0 ∙ h.1)) (by_refusal 0 _)),
)
