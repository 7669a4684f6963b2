-- The elements of a string from a place on, one at a time: each has an octet at least and no more than are left, its unit's fields that
-- mean nothing are 0, a refusal has a number above 0, a state that is fit stays fit, and the elements after it are those of the place
-- after it (`ahead_from`). What is shown of all elements of a string goes by induction on `Ahead`.
use Rattle.element.proofs.Names.{ℕ, zero, suc, ◌+◌, ◌-◌, ◌≤◌, arith, ◌≡◌, refl, ap, sym, ◌∙◌, subst, List, ltb, length, ltb-false, from, clash, test}
use Rattle.element.proofs.Names.{tested, from_end, from_length, fresh, State, Part, Element, End, Refused, Silent, Found}
use Rattle.base.proofs.Ladder.{from_from}
use Rattle.element.specs.Element.{element_of}
use Rattle.element.specs.Meant.{MeantPart}
use Rattle.element.proofs.Sizes.{Sized, Fit, Passed, silent, found, element_size, of_refused, of_passed, of_meant}
use Rattle.element.proofs.Pointed.{Pointed, element_pointed, of_place}
use Rattle.grammar.specs.Reading.{Elements, end_at, stopped_at, silent_at, found_at, size, elements, elements_of}
use Rattle.grammar.proofs.Elements.{next_at, at_nothing, elements_end, elements_refused, elements_passed}

-- the elements from a place on, under a state
abbrev pub ahead : List ℕ → ℕ → State → Elements
ahead s at st = elements (from at s) 0 at st

-- the element at a place of s, which has k octets and leads to a state
pub record Step (s : List ℕ) (at : ℕ) (st : State) (e : Element) (k : ℕ) (next : State) : Type 0 where
  pub is : element_of (from at s) st ≡ e
  pub some : 1 ≤ k
  pub fits : at + k ≤ length s
  pub fit : Fit st → Fit next

-- the element at a place, and those after it
module _ (s : List ℕ) (at : ℕ) (st : State) (e : Element) (is : e ≡ element_of (from at s) st) where
  sized : Sized (length s - at) st e
  sized = rw (is, ← (from_length s at)) (element_size _ st)

  pub at_end : e ≡ End → ahead s at st ≡ end_at at
  at_end k = elements_end at st (from at s) (sym is ∙ k)

  pub at_refused : {n o : ℕ} → e ≡ Refused n o → ahead s at st ≡ stopped_at at n o
  at_refused k = elements_refused at st (from at s) (sym is ∙ k)

  -- the place of a refusal
  pub refused_within : {n o : ℕ} → e ≡ Refused n o → at + o ≤ length s
  refused_within {n} {o} k =
      let g : o ≤ length (from at s) = of_place (subst (Pointed (from at s) st) (sym is ∙ k) (element_pointed (from at s) st)) in
      test (ltb at (length s)) (λ h. omega (tested, g, from_length s at))
      (λ h. clash (cc (ap (λ (t : List ℕ). element_of t st) (from_end s at (ltb-false _ _ h)), at_nothing st)))

  pub refused_number : {n o : ℕ} → e ≡ Refused n o → 1 ≤ n
  refused_number k = of_refused (rw k at sized)

  module _ {x : Element} {k : ℕ} {next : State} (v : Passed x k next) (i : e ≡ x) where
    pub step_passed : Step s at st x k next
    step_passed =
        let z = of_passed v (rw i at sized) in
        record { is = sym is ∙ i; some = z.0; fits = omega (arith, z.0, z.1); fit = z.2 }

    pub at_passed : ahead s at st ≡ next_at at x (ahead s (at + k) next)
    at_passed = rw (← (from_from s at k)) (elements_passed at st (from at s) v (sym is ∙ i))

  pub found_meant : {p : Part} {next : State} → e ≡ Found p next → MeantPart p
  found_meant i = of_meant (rw i at sized)

pub data Ahead (s : List ℕ) : ℕ → State → Elements → Type 0 where
  ends : {at : ℕ} {st : State} → ahead s at st ≡ end_at at → Ahead s at st (end_at at)
  stops : {at : ℕ} {st : State} {n o : ℕ} → 1 ≤ n → ahead s at st ≡ stopped_at at n o → Ahead s at st (stopped_at at n o)
  passes : {at : ℕ} {st : State} {k : ℕ} {next : State} {es : Elements} → Step s at st (Silent k next) k next
      → ahead s at st ≡ silent_at at k next es → Ahead s (at + k) next es → Ahead s at st (silent_at at k next es)
  reads : {at : ℕ} {st : State} {p : Part} {next : State} {es : Elements} → Step s at st (Found p next) (size p) next → MeantPart p
      → ahead s at st ≡ found_at at p next es → Ahead s (at + size p) next es → Ahead s at st (found_at at p next es)

past : (s : List ℕ) (at : ℕ) (st : State) → length s ≤ at → ahead s at st ≡ end_at at
unfolding elements
past s at st h = rw (from_end s at h)

-- the element at a place, where those after it are known
onward : (s : List ℕ) (at : ℕ) (st : State)
    → ((e : Element) (k : ℕ) (next : State) → Step s at st e k next → Ahead s (at + k) next (ahead s (at + k) next))
    → (e : Element) → e ≡ element_of (from at s) st → Ahead s at st (ahead s at st)
onward s at st after End i =
    let e = at_end s at st End i refl in
    rw e (ends e)
onward s at st after (Refused r o) i =
    let e = at_refused s at st (Refused r o) i refl in
    rw e (stops (refused_number s at st (Refused r o) i refl) e)
onward s at st after (Silent k next) i =
    let e = at_passed s at st (Silent k next) i silent refl in
    let t = step_passed s at st (Silent k next) i silent refl in
    rw e (passes t e (after _ k next t))
onward s at st after (Found p next) i =
    let e = at_passed s at st (Found p next) i found refl in
    let t = step_passed s at st (Found p next) i found refl in
    rw e (reads t (found_meant s at st (Found p next) i refl) e (after _ (size p) next t))

-- n bounds the octets that are left
go : (n : ℕ) (s : List ℕ) (at : ℕ) (st : State) → length s - at ≤ n → Ahead s at st (ahead s at st)
go zero s at st h =
    let e : ahead s at st ≡ end_at at = past s at st (omega arith) in
    rw e (ends e)
go (suc n) s at st h =
    onward s at st (λ _ k next t. go n s _ next (omega (arith, t.some, t.fits))) (element_of _ st) refl

pub ahead_from : (s : List ℕ) (at : ℕ) (st : State) → Ahead s at st (ahead s at st)
ahead_from s at st = go (length s) s at st (omega arith)

-- of a whole string
pub from_start : (s : List ℕ) → Ahead s 0 fresh (elements_of s)
unfolding from
from_start s = ahead_from s 0 fresh

-- they are the elements from the place on
pub ahead_is : (s : List ℕ) {at : ℕ} {st : State} {es : Elements} → Ahead s at st es → ahead s at st ≡ es
ahead_is s (ends e) = e
ahead_is s (stops f e) = e
ahead_is s (passes t e a) = e
ahead_is s (reads t m e a) = e
