-- Units of one width that stand one after the other are elements one by one: the law is stated once, over the width, and of the elements
-- themselves. Where each of the tests that pass says that an element of `suc w` octets starts there and leaves the state, as many tests as
-- pass are as many elements, and then those after.
use Rattle.element.proofs.Names.{ℕ, zero, suc, ◌+◌, ◌*◌, ◌-◌, ◌≤◌, zero-le, arith, ◌≡◌, refl, ap, sym, ◌∙◌, subst, Bool, true, false, List, [], ◌∷◌}
use Rattle.element.proofs.Names.{length, pick, from, from_length, State, Part, Element, Found}
use native.Mathlib.Nat.{zero-add, mul-suc, suc-add}
use Rattle.base.proofs.Ladder.{from_from}
use Rattle.element.specs.Element.{element_of}
use Rattle.element.proofs.Sizes.{found, element_size, of_passed}
use Rattle.grammar.specs.Reading.{Elements, found_at, size, onward, elements, answer_of}
use Rattle.grammar.proofs.Elements.{elements_drop}
use Rattle.grammar.proofs.Places.{ahead}
use Rattle.stretch.specs.Characters.{lead_of}

-- n units from a place on, each of which leaves the state, and then other elements
pub data Units (st : State) : ℕ → ℕ → Elements → Elements → Type 0 where
  none : {at : ℕ} {es : Elements} → Units st 0 at es es
  more : {n at : ℕ} {p : Part} {es after : Elements} → Units st n (at + size p) es after → Units st (suc n) at (found_at at p st es) after

-- what they answer
pub units_answer : {st : State} {n at : ℕ} {es after : Elements} → Units st n at es after → (count : ℕ)
    → answer_of count es ≡ answer_of (count + n) after
unfolding answer_of
units_answer {es = es} none count =
    let e : count ≡ count + 0 = omega arith in
    ap (λ (c : ℕ). answer_of c es) e
units_answer {after = after} (more {n = n} u) count =
    let e : count + 1 + n ≡ count + suc n = omega arith in
    units_answer u (count + 1) ∙ ap (λ (c : ℕ). answer_of c after) e

-- an element of n octets that gives a unit and leaves the state
pub record One (n : ℕ) (st : State) (e : Element) : Type 0 where
  pub unit : Part
  pub is : e ≡ Found unit st
  pub sized : size unit ≡ n

module _ (f : List ℕ → Bool) (w : ℕ) (st : State)
    (one : (b : ℕ) (t : List ℕ) → f (b ∷ t) ≡ true → One (suc w) st (element_of (b ∷ t) st)) where
  -- the octets and the place after k octets that are passed, and after as many units as pass the test
  abbrev Lead : List ℕ → ℕ → ℕ → ℕ → Type 0
  Lead t k at n = Units st n (at + k) (elements t k at st) (elements t (k + suc w * n) at st)

  stay : (t : List ℕ) (k at : ℕ) → Lead t k at 0
  stay t k at =
      let e : k ≡ k + suc w * 0 = omega arith in
      subst (λ (j : ℕ). Units st 0 (at + k) (elements t k at st) (elements t j at st)) e none

  some : (b : ℕ) (t : List ℕ) (at n : ℕ) → One (suc w) st (element_of (b ∷ t) st) → Lead t w (at + 1) n → Lead (b ∷ t) 0 at (suc n)
  unfolding elements onward
  some b t at n u go =
      let m : suc w * suc n ≡ suc w * n + suc w = mul-suc (suc w) n in
      let d : 0 + suc w * suc n ≡ suc (w + suc w * n) = omega arith in
      let z : size u.unit - 1 ≡ w = omega (arith, u.sized) in
      let a : at + 0 ≡ at = omega arith in
      let y : at + 1 + w ≡ at + size u.unit = omega (arith, u.sized) in
      rw (d, u.is, a, z) (more {after = elements t (w + suc w * n) (at + 1) st} (rw y at go))

  by : (b : ℕ) (t : List ℕ) (at : ℕ) (q : Bool) → f (b ∷ t) ≡ q → Lead t w (at + 1) (lead_of f w t w)
      → Lead (b ∷ t) 0 at (pick q (suc (lead_of f w t w)) 0)
  unfolding pick
  by b t at true e go = some b t at (lead_of f w t w) (one b t e) go
  by b t at false e go = stay (b ∷ t) 0 at

  -- as many elements as pass the test, each of suc w octets, after k octets that are passed over
  pub lead_law : (t : List ℕ) (k at : ℕ) → Lead t k at (lead_of f w t k)
  unfolding lead_of elements
  lead_law [] k at = stay [] k at
  lead_law (b ∷ t) zero at = by b t at (f (b ∷ t)) refl (lead_law t w (at + 1))
  lead_law (b ∷ t) (suc k) at =
      let n : ℕ = lead_of f w t k in
      let e : suc k + suc w * n ≡ suc (k + suc w * n) = suc-add k (suc w * n) in
      let a : at + suc k ≡ at + 1 + k = omega arith in
      rw (e, a) (lead_law t k (at + 1))

  -- and the octets are there
  lead_length : (t : List ℕ) (k : ℕ) → k ≤ length t → k + suc w * lead_of f w t k ≤ length t
  unfolding lead_of pick
  lead_length [] k h = omega arith
  lead_length (b ∷ t) zero h = go (f (b ∷ t)) refl (lead_length t w)
    where
      go : (q : Bool) → f (b ∷ t) ≡ q → (w ≤ length t → w + suc w * lead_of f w t w ≤ length t)
          → 0 + suc w * pick q (suc (lead_of f w t w)) 0 ≤ suc (length t)
      go false e r = omega arith
      go true e r =
          let u = one b t e in
          let fits = (of_passed found (rw u.is at (element_size (b ∷ t) st))).1 in
          let m : suc w * suc (lead_of f w t w) ≡ suc w * lead_of f w t w + suc w = mul-suc (suc w) (lead_of f w t w) in
          let l : w ≤ length t = omega (arith, u.sized, fits) in
          omega (arith, r l)
  lead_length (b ∷ t) (suc k) h = omega (arith, lead_length t k (omega arith))

  pub lead_fits : (t : List ℕ) → suc w * lead_of f w t 0 ≤ length t
  lead_fits t = omega (arith, lead_length t 0 zero-le)

-- k octets from a place on are n elements, each a unit that leaves the state, and then come the elements after
pub record Ahead (s : List ℕ) (at k n : ℕ) (st : State) : Type 0 where
  pub fits : at + k ≤ length s
  pub few : n ≤ k
  pub units : Units st n at (ahead s at st) (ahead s (at + k) st)

module _ (f : List ℕ → Bool) (w : ℕ) (st : State)
    (one : (b : ℕ) (t : List ℕ) → f (b ∷ t) ≡ true → One (suc w) st (element_of (b ∷ t) st)) where
  -- n units of suc w octets each
  pub leads : (s : List ℕ) (at n k : ℕ) → n ≡ lead_of f w (from at s) 0 → k ≡ suc w * n → n ≤ k → at + k ≤ length s → Ahead s at k n st
  leads s at n k e m l fits =
      let z : 0 + suc w * n ≡ k = zero-add _ ∙ sym m in
      let a : at + 0 ≡ at = omega arith in
      let h : k ≤ length (from at s) = rw (from_length s at) (omega (arith, fits)) in
      record {
        fits = fits;
        few = l;
        units = rw (← (from_from s at k), ← (elements_drop (from at s) k at st h)) (rw (← e, z, a) at (lead_law f w st one (from at s) 0 at));
      }
