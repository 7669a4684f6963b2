-- What the place of a refusal tells, of every string (rule N2): 2 is at the string's length (`cut_at_length`); 3 to 7 are at an octet of the string,
-- inside the refused element (`octet_inside`); 8 and 9 are at its start (`direction_at_start`); what stands before the place is in order: alone it is
-- accepted, or only cut, where it ends (`before_the_place`); and what follows the refused element changes nothing (`nothing_after`). By one walk over the
-- elements: they lead to the refused one (`Offence`), and those before it are the same in each part of the string that ends after them, since an element
-- that is passed does not depend on what follows it.
use Rattle.element.proofs.Names.{ℕ, zero, suc, ◌+◌, ◌-◌, ◌<◌, ◌≤◌, arith, ◌≡◌, refl, sym, ap, ◌∙◌, subst, List, [], ◌∷◌, ◌⊎◌, inl, inr, ⊎_elim}
use Rattle.element.proofs.Names.{ltb, length, take, drop, length-take, length-take-le, le-ltb, ltb-false, clash, test, pick, from, from_length}
use Rattle.element.proofs.Names.{refused_at, Answer, fresh, State, Element, End, Refused, Silent, Found}
use Rattle.base.specs.Limit as limit
use Rattle.base.specs.Refusal as refusal
use Rattle.element.specs.Element.{element_of}
use Rattle.element.proofs.Sizes.{Passed, silent, found}
use Rattle.element.proofs.Pointed.{Octet, Pointed, element_pointed, of_passed, of_before, of_cut, of_direction, of_extent}
use Rattle.grammar.specs.Reading.{Elements, stopped_at, elements, elements_of, answer_of, check_of, Stop, stop, stop_of}
use Rattle.grammar.proofs.Elements.{next_at, elements_refused}
use Rattle.grammar.proofs.Places.{ahead, Ahead, ends, stops, passes, reads, Step, at_end, at_refused, at_passed, refused_within, from_start}

-- ---- a part of a string from its start to p

take_nil : (n : ℕ) → ◌≡◌ {A = List ℕ} (take n []) []
take_nil zero = refl
take_nil (suc n) = refl

drop_take : (at p : ℕ) (s : List ℕ) → drop at (take p s) ≡ take (p - at) (drop at s)
drop_take zero p s =
    let e : p ≡ p - 0 = omega arith in
    ap (λ (n : ℕ). take n s) e
drop_take (suc at) p [] = ap (drop (suc at)) (take_nil p) ∙ sym (take_nil (p - suc at))
drop_take (suc at) zero (x ∷ s) =
    let e : 0 ≡ 0 - suc at = omega arith in
    ap (λ (n : ℕ). take n (drop at s)) e
drop_take (suc at) (suc p) (x ∷ s) =
    let e : p - at ≡ suc p - suc at = omega arith in
    drop_take at p s ∙ ap (λ (n : ℕ). take n (drop at s)) e

from_part : (at p : ℕ) (s : List ℕ) → from at (take p s) ≡ take (p - at) (from at s)
unfolding from
from_part at p s = drop_take at p s

-- ---- a passed element before others

-- the units with it
abbrev counted : {e : Element} {k : ℕ} {next : State} → Passed e k next → ℕ → ℕ
counted silent c = c
counted found c = c + 1

answer_next : {e : Element} {k : ℕ} {next : State} (v : Passed e k next) (at c : ℕ) (es : Elements)
    → answer_of c (next_at at e es) ≡ answer_of (counted v c) es
unfolding answer_of
answer_next silent at c es = refl
answer_next found at c es = refl

stop_next : {e : Element} {k : ℕ} {next : State} → Passed e k next → (at : ℕ) (st : State) (es : Elements)
    → stop_of st (next_at at e es) ≡ stop_of next es
unfolding stop_of
stop_next silent at st es = refl
stop_next found at st es = refl

-- ---- the element that is refused

module _ (s : List ℕ) where
  -- what the elements from a place on answer, in the part of the string that ends at p: as those from a further place on
  pub record Leads (p at : ℕ) (st : State) (start : ℕ) (there : State) (c : ℕ) : Type 0 where
    pub count : ℕ
    pub same : answer_of c (ahead (take p s) at st) ≡ answer_of count (ahead (take p s) start there)

  -- the elements stop at a refused one
  pub record Offence (at : ℕ) (st : State) (es : Elements) : Type 0 where
    pub start : ℕ
    pub there : State
    pub number : ℕ
    pub offset : ℕ
    pub stopped : stop_of st es ≡ stop start there
    pub is : element_of (from start s) there ≡ Refused number offset
    pub answered : (c : ℕ) → answer_of c es ≡ refused_at number (start + offset)
    pub after : at ≤ start
    pub leads : (p : ℕ) → start ≤ p → (c : ℕ) → Leads p at st start there c

  module _ {at : ℕ} {st : State} {e : Element} {k : ℕ} {next : State} (v : Passed e k next) (t : Step s at st e k next) where
    -- a passed element is the same in each part that ends after it
    kept : (p : ℕ) → at + k ≤ p → ahead (take p s) at st ≡ next_at at e (ahead (take p s) (at + k) next)
    kept p h =
        let x = subst (Pointed (from at s) st) t.is (element_pointed (from at s) st) in
        at_passed (take p s) at st (element_of (from at (take p s)) st) refl v
        (ap (λ (u : List ℕ). element_of u st) (from_part at p s) ∙ of_passed v x (p - at) (omega arith))

    -- so what stops elements after it stops those from it on
    before : {es : Elements} → Offence (at + k) next es → Offence at st (next_at at e es)
    before x =
        record {
          start = x.start;
          there = x.there;
          number = x.number;
          offset = x.offset;
          stopped = stop_next v at st _ ∙ x.stopped;
          is = x.is;
          answered = λ c. answer_next v at c _ ∙ x.answered (counted v c);
          after = omega (arith, x.after);
          leads = λ p h c. let y = x.leads p h (counted v c) in
              record { count = y.count; same = ap (answer_of c) (kept p (omega (arith, h, x.after))) ∙ answer_next v at c _ ∙ y.same };
        }

  -- the element at the place where the elements stop
  refused_is : (at : ℕ) (st : State) {n o : ℕ} → ahead s at st ≡ stopped_at at n o → element_of (from at s) st ≡ Refused n o
  refused_is at st {n} {o} h = by (element_of (from at s) st) refl
    where
      by : (e : Element) → e ≡ element_of (from at s) st → e ≡ Refused n o
      by End i = clash (cc (at_end s at st End i refl, h))
      by (Refused m q) i = cc (at_refused s at st (Refused m q) i refl, h)
      by (Silent k next) i = clash (cc (at_passed s at st (Silent k next) i silent refl, h))
      by (Found p next) i = clash (cc (at_passed s at st (Found p next) i found refl, h))

  offence : {at : ℕ} {st : State} {es : Elements} → Ahead s at st es → ((c : ℕ) → (answer_of c es).number ≡ refusal.accepted) ⊎ Offence at st es
  unfolding stop_of answer_of
  offence (ends e) = inl (λ c. refl)
  offence {at} {st} (stops {n = n} {o = o} f e) =
      inr (record {
        start = at;
        there = st;
        number = n;
        offset = o;
        stopped = refl;
        is = refused_is at st e;
        answered = λ c. refl;
        after = omega arith;
        leads = λ p h c. record { count = c; same = refl };
      })
  offence (passes t e a) = ⊎_elim (λ h. inl h) (λ x. inr (before silent t x)) (offence a)
  offence (reads t m e a) = ⊎_elim (λ h. inl (λ c. h (c + 1))) (λ x. inr (before found t x)) (offence a)

-- ---- of every string

-- where the reading of a string stops, and the state there
abbrev pub stop_in : List ℕ → Stop
stop_in s = stop_of fresh (elements_of s)

-- a string is refused for the element at which its reading stops
pub record Refusal (s : List ℕ) : Type 0 where
  pub offset : ℕ
  pub element : element_of (from (stop_in s).place s) (stop_in s).state ≡ Refused (check_of s).number offset
  pub answered : check_of s ≡ refused_at (check_of s).number ((stop_in s).place + offset)
  pub leads : (p : ℕ) → (stop_in s).place ≤ p → Leads s p 0 fresh (stop_in s).place (stop_in s).state 0

-- accepted, or only cut, where the octets end
abbrev pub Before : Answer → ℕ → Type 0
Before a p = (a.number ≡ refusal.accepted) ⊎ (a ≡ refused_at refusal.cut p)

module _ (s : List ℕ) where
  within_limit : length s ≤ limit.octets → check_of s ≡ answer_of 0 (elements_of s)
  unfolding check_of pick
  within_limit h = rw (le-ltb limit.octets (length s) h)

  pub refused_element : length s ≤ limit.octets → ((check_of s).number ≡ refusal.accepted → ⊥) → Refusal s
  refused_element short never = ⊎_elim (λ h. absurd (never (ap (λ (a : Answer). a.number) (within_limit short) ∙ h 0))) told (offence s (from_start s))
    where
      told : Offence s 0 fresh (elements_of s) → Refusal s
      told x =
          let a = within_limit short ∙ x.answered 0 in
          record {
            offset = x.offset;
            element = rw (x.stopped, a) x.is;
            answered = rw x.stopped (a ∙ ap (λ (n : ℕ). refused_at n (x.start + x.offset)) (sym (ap (λ (y : Answer). y.number) a)));
            leads = λ p h. rw x.stopped (x.leads p (rw x.stopped at h) 0);
          }

  pub refused_place : (r : Refusal s) → (check_of s).place ≡ (stop_in s).place + r.offset
  refused_place r = ap (λ (a : Answer). a.place) r.answered

  -- a refusal for an element is not for the length
  short_by : ((check_of s).number ≡ refusal.too_long → ⊥) → length s ≤ limit.octets
  unfolding check_of pick
  short_by n = test (ltb limit.octets (length s)) (λ e. absurd (n (rw e))) (λ e. ltb-false limit.octets (length s) e)

  module _ (refused : (check_of s).number ≡ refusal.accepted → ⊥) (short : length s ≤ limit.octets) where
    abbrev r : Refusal s
    r = refused_element short refused

    pointed : Pointed (from (stop_in s).place s) (stop_in s).state (Refused (check_of s).number r.offset)
    pointed = subst (Pointed (from (stop_in s).place s) (stop_in s).state) r.element (element_pointed (from (stop_in s).place s) (stop_in s).state)

    lies : (stop_in s).place + r.offset ≤ length s
    lies = refused_within s (stop_in s).place (stop_in s).state _ refl r.element

    -- the octets before the place are nothing, or an element that is cut
    abbrev Begun : Type 0
    Begun = (r.offset ≡ 0) ⊎ (element_of (take r.offset (from (stop_in s).place s)) (stop_in s).state ≡ Refused refusal.cut r.offset)

    begun : Begun
    begun = of_before r.element pointed

    -- the element in the part of the string before the place
    last : (c : ℕ) → Before (answer_of c (ahead (take ((stop_in s).place + r.offset) s) (stop_in s).place (stop_in s).state)) ((stop_in s).place + r.offset)
    unfolding elements answer_of
    last c =
        let p = (stop_in s).place + r.offset in
        let e : p - (stop_in s).place ≡ r.offset = omega arith in
        let t : from (stop_in s).place (take p s) ≡ take r.offset (from (stop_in s).place s) =
        from_part (stop_in s).place p s ∙ ap (λ (n : ℕ). take n (from (stop_in s).place s)) e in
        rw t (⊎_elim (λ z. inl (rw z)) (λ z. inr (ap (answer_of c) (elements_refused (stop_in s).place (stop_in s).state _ z))) begun)

-- a number of refusal that is neither 0 nor 1 is for an element
for_element : (s : List ℕ) → 2 ≤ (check_of s).number → ((check_of s).number ≡ refusal.accepted → ⊥) × (length s ≤ limit.octets)
for_element s h = (λ z. omega (arith, h, z), short_by s (λ z. omega (arith, h, z)))

-- 2 is at the string's length
pub cut_at_length : (s : List ℕ) → (check_of s).number ≡ refusal.cut → (check_of s).place ≡ length s
cut_at_length s e =
    let f = for_element s (omega (arith, e)) in
    let x = refused_element s f.1 f.0 in
    let o = of_cut (subst (λ (n : ℕ). Pointed (from (stop_in s).place s) (stop_in s).state (Refused n x.offset)) e (pointed s f.0 f.1)) in
    omega (arith, refused_place s x, o, from_length s (stop_in s).place, lies s f.0 f.1)

-- 3 to 7 are at an octet of the string, in the refused element: not before its start, and the octets of it before that one are none, or are cut
pub record Inside (s : List ℕ) (start place : ℕ) (there : State) : Type 0 where
  pub below : place < length s
  pub after : start ≤ place
  pub begun : (place ≡ start) ⊎ (element_of (take (place - start) (from start s)) there ≡ Refused refusal.cut (place - start))

pub octet_inside : (s : List ℕ) → Octet (check_of s).number → Inside s (stop_in s).place (check_of s).place (stop_in s).state
octet_inside s n =
    let f = for_element s (omega (arith, n.0)) in
    let x = refused_element s f.1 f.0 in
    let o = of_extent n.0 (pointed s f.0 f.1) in
    let p = refused_place s x in
    let e : x.offset ≡ (check_of s).place - (stop_in s).place = omega (arith, p) in
    record {
      below = omega (arith, p, o.ends.0, o.decided.there, from_length s (stop_in s).place, lies s f.0 f.1);
      after = omega (arith, p);
      begun = ⊎_elim (λ z. inl (omega (arith, p, z)))
          (λ z. inr (subst (λ (k : ℕ). element_of (take k (from (stop_in s).place s)) (stop_in s).state ≡ Refused refusal.cut k) e z))
          (begun s f.0 f.1);
    }

-- 8 and 9 are at the start of the refused element
pub direction_at_start : (s : List ℕ) → refusal.direction ≤ (check_of s).number → (check_of s).place ≡ (stop_in s).place
direction_at_start s n =
    let f = for_element s (omega (arith, n)) in
    let x = refused_element s f.1 f.0 in
    let o = of_direction n (pointed s f.0 f.1) in
    omega (arith, refused_place s x, o)

-- what stands before the place of a refusal is in order: alone it is accepted, or only cut, at its length, which is the place
pub before_the_place : (s : List ℕ) → 2 ≤ (check_of s).number → Before (check_of (take (check_of s).place s)) (check_of s).place
unfolding from
before_the_place s n =
    let f = for_element s n in
    let x = refused_element s f.1 f.0 in
    let p = (stop_in s).place + x.offset in
    let z : length (take p s) ≡ p = length-take-le p s (lies s f.0 f.1) in
    let y = x.leads p (omega arith) in
    rw (refused_place s x) (subst (λ (a : Answer). Before a p)
    (sym (within_limit (take p s) (omega (arith, z, f.1, lies s f.0 f.1)) ∙ y.same)) (last s f.0 f.1 y.count))

-- so many octets of a string decide its answer, whatever follows them: they end after the place, and of 3 to 6 directly after it
pub record Decides (s : List ℕ) : Type 0 where
  pub end : ℕ
  pub after : (check_of s).place < end
  pub there : end ≤ length s
  pub same : (i : ℕ) → end ≤ i → check_of (take i s) ≡ check_of s
  pub last : (check_of s).number ≤ refusal.version → end ≡ (check_of s).place + 1

-- what follows the refused element changes neither number nor place of 3 to 9
pub nothing_after : (s : List ℕ) → refusal.unused ≤ (check_of s).number → Decides s
unfolding from answer_of
nothing_after s n =
    let f = for_element s (omega (arith, n)) in
    let x = refused_element s f.1 f.0 in
    let e = of_extent n (pointed s f.0 f.1) in
    let p = refused_place s x in
    record {
      end = (stop_in s).place + e.octets;
      after = omega (arith, p, e.ends.0);
      there = omega (arith, e.decided.there, from_length s (stop_in s).place, lies s f.0 f.1);
      same = λ i h. let y = x.leads i (omega arith) in
          let z : length (take i s) ≤ limit.octets = simp length-take (omega (arith, f.1)) in
          let d = ap (λ (u : List ℕ). element_of u (stop_in s).state) (from_part (stop_in s).place i s)
          ∙ e.decided.same (i - (stop_in s).place) (omega arith) in
          within_limit (take i s) z ∙ y.same ∙ ap (answer_of y.count) (elements_refused (stop_in s).place (stop_in s).state _ d) ∙ sym x.answered;
      last = λ v. omega (arith, p, e.ends.1 v);
    }
