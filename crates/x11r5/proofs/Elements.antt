-- The elements of a string with those refused that X11R5 does not have, beside the base reader's. Where their answer is not 15 they are the same
-- (`same_elements`), and where it is, such a thing starts at its place (`marked`). Where one starts the element there is refused by 15 (`refused_first`),
-- since an element starts with the octets of its designation or unit (`starts_silent`, `starts_unit`). So, of a string that the base reader accepts, they are
-- the same exactly where X11R5 has each unit (`supported_same`, `same_supported`).
use Rattle.element.proofs.Names.{ℕ, ◌+◌, arith, ◌≡◌, refl, sym, ap, ◌∙◌, true, List, [], ◌∷◌, ◌⊎◌, inl, inr, from, pick, test, off, clash, ◌<◌}
use Rattle.element.proofs.Names.{ltb, ltb-true, ltb-false, length, from_end, State, Part, Element, End, Refused, Silent, Found, false}
use Rattle.base.proofs.Ladder.{from_from}
use Rattle.base.specs.Refusal as refusal
use Rattle.element.specs.Element.{element_of}
use Rattle.element.proofs.Sizes.{element_size, of_end, Fit, Passed, silent, found}
use Rattle.grammar.specs.Reading.{Elements, end_at, stopped_at, silent_at, found_at, size, answer_of, none_refused, unit_at, units_of, Octets}
use Rattle.grammar.proofs.Agrees.{Right, passed, read, right, octets_from}
use Rattle.grammar.proofs.Elements.{at_nothing, none_passed}
use Rattle.grammar.proofs.Places.{ahead, at_refused, at_passed, Ahead, ends, stops, passes, reads}
use Rattle.grammar.proofs.Sound.{sound}
use Rattle.x11r5.specs.Reading.{unsupported_at, supported}
use Rattle.x11r5.specs.Writing.{unsupported_unit}
use Rattle.x11r5.specs.Theorems.{Supported}
use Rattle.x11r5.proofs.Octets.{unit_starts, designation_starts}

module _ (t : List ℕ) where
  pub same_elements : (c : ℕ) (es : Elements) → ((answer_of c (supported t es)).number ≡ refusal.unsupported → ⊥) → supported t es ≡ es
  unfolding supported answer_of pick
  same_elements c (end_at at) n = refl
  same_elements c (stopped_at at m o) n = test (unsupported_at (from at t)) (λ e. absurd (n (rw e))) (λ e. rw e)
  same_elements c (silent_at at k st es) n = ap (silent_at at k st) (same_elements c es n)
  same_elements c (found_at at p st es) n =
      test (unsupported_at (from at t)) (λ e. absurd (n (rw e))) (λ e. rw e (ap (found_at at p st) (same_elements (c + 1) es (rw e at n))))

  -- what X11R5 does not have starts at the place, or the elements are the same
  pub marked : (c : ℕ) (es : Elements) → (answer_of c (supported t es)).number ≡ refusal.unsupported
      → (unsupported_at (from (answer_of c (supported t es)).place t) ≡ true) ⊎ (supported t es ≡ es)
  unfolding supported answer_of pick
  marked c (end_at at) n = inr refl
  marked c (stopped_at at m o) n =
      let z : at + 0 ≡ at = omega arith in
      test (unsupported_at (from at t)) (λ e. inl (rw e (rw z e))) (λ e. inr (rw e))
  marked c (silent_at at k st es) n = again (marked c es n)
    where
      again : (unsupported_at (from (answer_of c (supported t es)).place t) ≡ true) ⊎ (supported t es ≡ es)
          → (unsupported_at (from (answer_of c (supported t es)).place t) ≡ true) ⊎ (silent_at at k st (supported t es) ≡ silent_at at k st es)
      again (inl e) = inl e
      again (inr e) = inr (ap (silent_at at k st) e)
  marked c (found_at at p st es) n =
      let z : at + 0 ≡ at = omega arith in
      test (unsupported_at (from at t)) (λ e. inl (rw e (rw z e))) (λ e. rw e (again (marked (c + 1) es (rw e at n))))
    where
      again : (unsupported_at (from (answer_of (c + 1) (supported t es)).place t) ≡ true) ⊎ (supported t es ≡ es)
          → (unsupported_at (from (answer_of (c + 1) (supported t es)).place t) ≡ true) ⊎ (found_at at p st (supported t es) ≡ found_at at p st es)
      again (inl e) = inl e
      again (inr e) = inr (ap (found_at at p st) e)

-- ---- an element that is passed starts as its unit does, and a designation as nothing that X11R5 does not have

module _ (w : List ℕ) (st : State) (f : Fit st) (o : Octets w) where
  pub element_right : {e : Element} {k : ℕ} {next : State} → Passed e k next → element_of w st ≡ e → Right st w e
  element_right {e} v q = go w o q
    where
      go : (w : List ℕ) → Octets w → element_of w st ≡ e → Right st w e
      go [] o q = absurd (none_passed v (sym (at_nothing st) ∙ q))
      go (b ∷ t) o q = rw q at (right st _ (sound st.sets (record { left = f.left; right = f.right }) b t o))

  starts_unit : {p : Part} {next : State} → element_of w st ≡ Found p next → unsupported_at w ≡ unsupported_unit (unit_at p w)
  starts_unit e = told (element_right found e)
    where
      told : {p : Part} {next : State} → Right st w (Found p next) → unsupported_at w ≡ unsupported_unit (unit_at p w)
      told (read u d r h g) = ap unsupported_at h.are ∙ unit_starts u d r h.fit ∙ ap unsupported_unit (sym h.unit)

  starts_silent : {k : ℕ} {next : State} → element_of w st ≡ Silent k next → unsupported_at w ≡ false
  starts_silent e = told (element_right silent e)
    where
      told : {k : ℕ} {next : State} → Right st w (Silent k next) → unsupported_at w ≡ false
      told (passed d c r h) = ap unsupported_at h.are ∙ designation_starts d c r

nothing_starts : unsupported_at [] ≡ false
unfolding unsupported_at pick
nothing_starts = refl

pub starts_within : (t : List ℕ) (p : ℕ) → unsupported_at (from p t) ≡ true → p < length t
starts_within t p e =
    test (ltb p (length t)) (ltb-true p (length t)) (λ q. off (sym nothing_starts ∙ ap unsupported_at (sym (from_end t p (ltb-false _ _ q))) ∙ e))

none_starts : (w : List ℕ) (st : State) → element_of w st ≡ End → unsupported_at w ≡ false
none_starts [] st e = nothing_starts
none_starts (b ∷ t) st e = absurd (omega (arith, of_end (rw e at (element_size (b ∷ t) st))))

-- where such a thing starts, the first element is refused by 15
pub refused_first : (t : List ℕ) (at : ℕ) (st : State) → Octets t → Fit st → unsupported_at (from at t) ≡ true
    → supported t (ahead t at st) ≡ stopped_at at refusal.unsupported 0
unfolding supported pick
refused_first t at st o f u = go (element_of (from at t) st) refl
  where
    go : (e : Element) → e ≡ element_of (from at t) st → supported t (ahead t at st) ≡ stopped_at at refusal.unsupported 0
    go End i = off (sym (none_starts (from at t) st (sym i)) ∙ u)
    go (Refused n k) i = ap (supported t) (at_refused t at st (Refused n k) i refl) ∙ rw u
    go (Silent k next) i = off (sym (starts_silent (from at t) st f (octets_from t o at) (sym i)) ∙ u)
    go (Found p next) i = ap (supported t) (at_passed t at st (Found p next) i found refl) ∙ rw u

module _ (t : List ℕ) (o : Octets t) where
  pub supported_same : {at : ℕ} {st : State} {es : Elements} → Ahead t at st es → Fit st → none_refused es ≡ true
      → Supported (units_of (from at t) es) → supported t es ≡ es
  unfolding supported none_refused units_of pick
  supported_same (ends e) f z h = refl
  supported_same (stops n e) f z h = off z
  supported_same {at} (passes {k = k} {next = next} s e a) f z h =
      ap (silent_at at k next) (supported_same a (s.fit f) z (rw (from_from t at k) at h))
  supported_same {at} {st} (reads {p = p} {next = next} s m e a) f z h =
      rw (starts_unit (from at t) st f (octets_from t o at) s.is ∙ h.0)
      (ap (found_at at p next) (supported_same a (s.fit f) z (rw (from_from t at (size p)) at h.1)))

  pub same_supported : {at : ℕ} {st : State} {es : Elements} → Ahead t at st es → Fit st → supported t es ≡ es → Supported (units_of (from at t) es)
  unfolding supported units_of pick
  same_supported (ends e) f z = tt
  same_supported (stops n e) f z = tt
  same_supported {at} (passes {k = k} s e a) f z = rw (from_from t at k) (same_supported a (s.fit f) (cc))
  same_supported {at} {st} (reads {p = p} s m e a) f z =
      test (unsupported_at (from at t)) (λ q. clash (cc (rw q at z)))
      (λ q. (
        sym (starts_unit (from at t) st f (octets_from t o at) s.is) ∙ q,
        rw (from_from t at (size p)) (same_supported a (s.fit f) (cc (rw q at z))),
      ))
