-- The elements of a string, one at a time.
use Rattle.element.proofs.Names.{ℕ, zero, suc, ◌+◌, ◌-◌, ◌≤◌, arith, not-suc-le-zero, ◌≡◌, refl, ap, sym, ◌∙◌, List, [], ◌∷◌, length, drop, clash}
use Rattle.element.proofs.Names.{State, Element, End, Refused, Silent, Found}
use Rattle.element.specs.Element.{element_of, shape_of, directed_of}
use Rattle.element.proofs.Sizes.{Passed, silent, found, element_size, of_passed}
use Rattle.grammar.specs.Reading.{Elements, end_at, stopped_at, silent_at, found_at, onward, elements}

-- the element at a place before those after it
abbrev pub next_at : ℕ → Element → Elements → Elements
next_at at End es = end_at at
next_at at (Refused n o) es = stopped_at at n o
next_at at (Silent k st) es = silent_at at k st es
next_at at (Found p st) es = found_at at p st es

-- octets that are passed
pub elements_drop : (t : List ℕ) (k at : ℕ) (st : State) → k ≤ length t → elements t k at st ≡ elements (drop k t) 0 (at + k) st
unfolding elements
elements_drop [] zero at st h = ap end_at (omega arith)
elements_drop [] (suc k) at st h = absurd (not-suc-le-zero h)
elements_drop (b ∷ t) zero at st h =
    let e : at ≡ at + 0 = omega arith in
    ap (λ (n : ℕ). elements (b ∷ t) 0 n st) e
elements_drop (b ∷ t) (suc k) at st h =
    let e : at + 1 + k ≡ at + suc k = omega arith in
    elements_drop t k _ st (omega arith) ∙ ap (λ (n : ℕ). elements (drop k t) 0 n st) e

pub at_nothing : (st : State) → element_of [] st ≡ End
unfolding shape_of directed_of
at_nothing st = refl

-- the octets after an element of k octets
rest : (b : ℕ) (t : List ℕ) (k at : ℕ) (st : State) → 1 ≤ k → k ≤ suc (length t)
    → elements t (k - 1) (at + 1) st ≡ elements (drop k (b ∷ t)) 0 (at + k) st
rest b t zero at st h g = absurd (not-suc-le-zero h)
rest b t (suc k) at st h g =
    let e : suc k - 1 ≡ k = omega arith in
    let d : at + 1 + k ≡ at + suc k = omega arith in
    rw e (elements_drop t k _ st (omega arith) ∙ ap (λ (n : ℕ). elements (drop k t) 0 n st) d)

-- nothing is passed where no octet is left
pub none_passed : {e : Element} {k : ℕ} {next : State} → Passed e k next → End ≡ e → ⊥
none_passed silent h = clash (cc)
none_passed found h = clash (cc)

module _ (at : ℕ) (st : State) where
  pub elements_end : (t : List ℕ) → element_of t st ≡ End → elements t 0 at st ≡ end_at at
  unfolding elements onward
  elements_end [] e = refl
  elements_end (b ∷ t) e = rw e

  pub elements_refused : (t : List ℕ) {n o : ℕ} → element_of t st ≡ Refused n o → elements t 0 at st ≡ stopped_at at n o
  unfolding elements onward
  elements_refused [] e = clash (cc (at_nothing st))
  elements_refused (b ∷ t) e = rw e

  onward_passed : (b : ℕ) (t : List ℕ) {e : Element} {k : ℕ} {next : State} → Passed e k next → 1 ≤ k → k ≤ suc (length t)
      → onward at e (λ j after. elements t j (at + 1) after) ≡ next_at at e (elements (drop k (b ∷ t)) 0 (at + k) next)
  unfolding onward
  onward_passed b t (silent {k} {next}) h g = ap (silent_at at k next) (rest b t k at next h g)
  onward_passed b t (found {p} {next}) h g = ap (found_at at p next) (rest b t _ at next h g)

  pub elements_passed : (t : List ℕ) {e : Element} {k : ℕ} {next : State} → Passed e k next → element_of t st ≡ e
      → elements t 0 at st ≡ next_at at e (elements (drop k t) 0 (at + k) next)
  unfolding elements
  elements_passed [] v e = absurd (none_passed v (sym (at_nothing st) ∙ e))
  elements_passed (b ∷ t) v e =
      let z = of_passed v (rw e at (element_size (b ∷ t) st)) in
      rw e (onward_passed b t v z.0 z.1)
