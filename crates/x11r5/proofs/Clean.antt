-- Octets in which nothing starts that X11R5 does not have are read as the base reader does (`clean`, `clean_check`): by induction on the elements, none
-- of which is then refused by 15. That it is so is asked of each place, or of its octets (`plain`): no 9B, and no 1B before a 25.
use Rattle.element.proofs.Names.{ℕ, ◌+◌, arith, ◌≡◌, refl, ap, false, List, eqb, get_or, eqb-true, ne_eqb, pick, from, test}
use lib.Seq.{get_or-drop}
use Rattle.grammar.specs.Reading.{Elements, end_at, stopped_at, silent_at, found_at, elements_of, check_of}
use Rattle.x11r5.specs.Reading.{segment_by, unsupported_at, supported, supported_of, unended_check_of}

module _ (t : List ℕ) (c : (i : ℕ) → unsupported_at (from i t) ≡ false) where
  clean_elements : (es : Elements) → supported t es ≡ es
  unfolding supported pick
  clean_elements (end_at at) = refl
  clean_elements (stopped_at at n o) = rw (c at)
  clean_elements (silent_at at k st es) = ap (silent_at at k st) (clean_elements es)
  clean_elements (found_at at p st es) = rw (c at) (ap (found_at at p st) (clean_elements es))

  -- the elements are those of the base reader, and so is the answer
  pub clean : supported_of t ≡ elements_of t
  clean = clean_elements (elements_of t)

  pub clean_check : unended_check_of t ≡ check_of t
  unfolding unended_check_of check_of
  clean_check = rw clean

-- of the octets: no 9B, and no 1B that a 25 follows
pub record Plain (t : List ℕ) : Type 0 where
  pub no_mark : (i : ℕ) → get_or t i 0 ≡ 0x9B → ⊥
  pub no_segment : (i : ℕ) → get_or t i 0 ≡ 0x1B → get_or t (i + 1) 0 ≡ 0x25 → ⊥

module _ (t : List ℕ) (h : Plain t) where
  pub plain_at : (i : ℕ) → unsupported_at (from i t) ≡ false
  unfolding unsupported_at segment_by pick from
  plain_at i =
      rw (get_or-drop i t 0 0, get_or-drop i t 1 0)
      (rw (let z : i + 0 ≡ i = omega arith in z, ne_eqb _ _ (h.no_mark i))
      (test (eqb (get_or t i 0) 0x1B) (λ e. rw (e, ne_eqb _ _ (h.no_segment i (eqb-true _ _ e)))) (λ e. rw e)))

  pub plain : supported_of t ≡ elements_of t
  plain = clean t plain_at

  pub plain_check : unended_check_of t ≡ check_of t
  plain_check = clean_check t plain_at
