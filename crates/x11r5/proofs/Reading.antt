-- The X11R5 reader beside the base reader (rules X1 to X3), with t for the octets before the first 00. What it accepts the base reader accepts with the same
-- answer and elements (`accepted_same`), and it accepts exactly the strings that a 00 ends and of which the base reader accepts t with no mark and no segment
-- in its reading (`accepted_where`, `exactly`). A refusal that is neither 14 nor 15 is the base reader's (`refused_same`), and 15 stands where a mark or a
-- segment starts (`only_unsupported`); 14 is for the strings with no 00 (`not_ended_where`). What follows the 00 is never looked at
-- (`nothing_after_null`).
use Rattle.element.proofs.Names.{ℕ, ◌≤◌, ◌<◌, arith, ◌≡◌, refl, sym, ap, ◌∙◌, subst, true, List, ◌∷◌, ◌++◌, ◌↔◌, ⊎_elim, ltb, length, eqb}
use Rattle.element.proofs.Names.{eqb-true, eqb-false, ltb-true, ltb-false, lt-ltb, le-ltb, from, pick, test, clash, answer, refused_at, Answer, fresh}
use Rattle.base.specs.Limit as limit
use Rattle.base.specs.Refusal as refusal
use Rattle.element.proofs.Sizes.{Fit}
use Rattle.grammar.specs.Reading.{Elements, elements_of, answer_of, check_of, reading_of, Octets}
use Rattle.grammar.proofs.Agrees.{agrees, fresh_legal, accepted_whole, accepted_where as base-accepted}
use Rattle.grammar.proofs.Places.{from_start}
use Rattle.grammar.proofs.Pointed.{cut_at_length}
use Rattle.x11r5.specs.Reading.{before_null, unsupported_at, supported_of, unended_check_of, null_ended_check_of}
use Rattle.x11r5.specs.Theorems.{NoNull, Supported}
use Rattle.x11r5.proofs.Octets.{Proper, All, reads_proper}
use Rattle.x11r5.proofs.Null.{before_proper, before_same, before_all, before_none, none_before, before_octets, ended}
use Rattle.x11r5.proofs.Bounds.{base_bounded}
use Rattle.x11r5.proofs.Elements.{starts_within, same_elements, marked, supported_same, same_supported}

-- ---- the octets before the 00

module _ (t : List ℕ) where
  -- a refusal that is not 15 is the base reader's, and so is acceptance
  pub refused_same : ((unended_check_of t).number ≡ refusal.unsupported → ⊥) → unended_check_of t ≡ check_of t
  unfolding unended_check_of check_of pick
  refused_same n = test (ltb limit.octets (length t)) (λ e. rw e) (λ e. rw e (ap (answer_of 0) (same_elements t 0 (elements_of t) (rw e at n))))

  -- 15 is for what X11R5 does not have, which starts at its place
  pub only_unsupported : (unended_check_of t).number ≡ refusal.unsupported → unsupported_at (from (unended_check_of t).place t) ≡ true
  unfolding unended_check_of check_of pick
  only_unsupported n =
      test (ltb limit.octets (length t)) (λ e. clash (cc (rw e at n)))
      (λ e. rw e (⊎_elim (λ q. q)
      (λ q. let z : (answer_of 0 (elements_of t)).number ≡ refusal.unsupported = ap (λ (es : Elements). (answer_of 0 es).number) (sym q) ∙ (rw e at n) in
      absurd (omega (arith, rw e at (base_bounded t).number, z)))
      (marked t 0 (elements_of t) (rw e at n))))

  -- so at an octet of the string
  pub unsupported_within : (unended_check_of t).number ≡ refusal.unsupported → (unended_check_of t).place < length t
  unsupported_within n = starts_within t (unended_check_of t).place (only_unsupported n)

  -- every place lies within the string
  pub place_within : (unended_check_of t).place ≤ length t
  place_within =
      test (eqb (unended_check_of t).number refusal.unsupported) (λ e. omega (arith, unsupported_within (eqb-true _ _ e)))
      (λ e. rw (refused_same (eqb-false _ _ e)) (base_bounded t).place)

  -- 2 is at the string's length, which is the place of the 00
  pub cut_at_null : (unended_check_of t).number ≡ refusal.cut → (unended_check_of t).place ≡ length t
  cut_at_null n =
      let e = refused_same (λ q. omega (arith, n, q)) in
      rw e (cut_at_length t (rw e at n))

  -- none is 14
  unended_number : (unended_check_of t).number ≡ refusal.not_ended → ⊥
  unended_number n = omega (arith, n, (base_bounded t).number, ap (λ (a : Answer). a.number) (refused_same (λ q. omega (arith, n, q))))

-- ---- the whole string

module _ (s : List ℕ) where
  -- the octets before the 00
  abbrev t : List ℕ
  t = before_null s

  -- the answer of a string that a 00 ends, and of one that none ends
  pub by_null : length t < length s → null_ended_check_of s ≡ unended_check_of t
  unfolding null_ended_check_of pick
  by_null h = rw (lt-ltb _ _ h)

  pub never_ended : length s ≤ length t → null_ended_check_of s ≡ refused_at refusal.not_ended (length s)
  unfolding null_ended_check_of pick
  never_ended h = rw (le-ltb _ _ h)

  -- 14 is for these alone
  pub ends_where : ((null_ended_check_of s).number ≡ refusal.not_ended → ⊥) → length t < length s
  ends_where n =
      test (ltb (length t) (length s)) (λ e. ltb-true _ _ e) (λ e. absurd (n (ap (λ (a : Answer). a.number) (never_ended (ltb-false _ _ e)))))

  -- ---- what it accepts

  module _ (z : (null_ended_check_of s).number ≡ refusal.accepted) where
    accepted-ends : length t < length s
    accepted-ends = ends_where (λ n. clash (cc))

    unended : (unended_check_of t).number ≡ refusal.accepted
    unended = rw (by_null accepted-ends) at z

    -- the base reader answers the same
    pub accepted_same : check_of t ≡ null_ended_check_of s
    accepted_same = sym (refused_same t (λ n. clash (cc unended))) ∙ sym (by_null accepted-ends)

    -- and its elements are the same, so units and records are
    pub accepted_elements : supported_of t ≡ elements_of t
    unfolding unended_check_of pick
    accepted_elements =
        test (ltb limit.octets (length t)) (λ e. clash (cc (rw e at unended)))
        (λ e. same_elements t 0 (elements_of t) (λ n. clash (cc (rw e at unended))))

    -- the answer has the place of the 00 and the count of units
    pub accepted_answer : Octets s → null_ended_check_of s ≡ answer refusal.accepted (length t) (length (reading_of t))
    accepted_answer o =
        sym accepted_same ∙ accepted_whole t (before_octets s o) (ap (λ (a : Answer). a.number) accepted_same ∙ z)

-- ---- exactly these

pub fresh-fit : Fit fresh
fresh-fit = record { left = fresh_legal.left; right = fresh_legal.right; depth = omega arith }

module _ (t : List ℕ) (o : Octets t) where
  -- a string that the base reader accepts has no 00 where its reading has no segment
  pub base_proper : (check_of t).number ≡ refusal.accepted → Supported (reading_of t) → All Proper t
  base_proper z h = reads_proper ((agrees t (reading_of t) o).0 (record { octets = o; accepted = z; reading = refl })).reads h

  -- and its elements are the same
  pub base_elements : (check_of t).number ≡ refusal.accepted → Supported (reading_of t) → supported_of t ≡ elements_of t
  unfolding reading_of from
  base_elements z h = supported_same t o (from_start t) fresh-fit ((base-accepted t o).0 z).1 h

  pub base_unended : (check_of t).number ≡ refusal.accepted → Supported (reading_of t) → unended_check_of t ≡ check_of t
  unfolding unended_check_of check_of
  base_unended z h = rw (base_elements z h)

  -- such a string is accepted, with the same answer, when a 00 and anything at all follow it
  pub exactly : (check_of t).number ≡ refusal.accepted → Supported (reading_of t) → (rest : List ℕ)
      → null_ended_check_of (t ++ (0x00 ∷ rest)) ≡ check_of t
  unfolding null_ended_check_of pick
  exactly z h rest = rw (ended t rest, before_proper t rest (base_proper z h)) (base_unended z h)

-- the strings that are accepted
pub accepted_where : (s : List ℕ) → Octets s
    → ((null_ended_check_of s).number ≡ refusal.accepted)
    ↔ ((length (before_null s) < length s) × ((check_of (before_null s)).number ≡ refusal.accepted) × Supported (reading_of (before_null s)))
unfolding reading_of from
accepted_where s o = (
  λ z. (
    accepted-ends s z,
    ap (λ (a : Answer). a.number) (accepted_same s z) ∙ z,
    same_supported (before_null s) (before_octets s o) (from_start (before_null s)) fresh-fit (accepted_elements s z),
  ),
  λ h. ap (λ (a : Answer). a.number) (by_null s h.0 ∙ base_unended (before_null s) (before_octets s o) h.1 h.2) ∙ h.1,
)

-- ---- refusals, and what follows the 00

module _ (s : List ℕ) where
  -- neither 14 nor 15: the base reader's
  pub refusal_same : ((null_ended_check_of s).number ≡ refusal.not_ended → ⊥) → ((null_ended_check_of s).number ≡ refusal.unsupported → ⊥)
      → null_ended_check_of s ≡ check_of (before_null s)
  refusal_same n m =
      let e = by_null s (ends_where s n) in
      e ∙ refused_same (before_null s) (λ q. m (ap (λ (a : Answer). a.number) e ∙ q))

  -- 15 stands where what X11R5 does not have starts, before the 00
  pub null_unsupported : (null_ended_check_of s).number ≡ refusal.unsupported → unsupported_at (from (null_ended_check_of s).place (before_null s)) ≡ true
  null_unsupported n =
      let e = by_null s (ends_where s (λ q. omega (arith, n, q))) in
      rw e (only_unsupported (before_null s) (rw e at n))

  -- no place is past the 00, or past the end where there is none
  pub null_within : (null_ended_check_of s).place ≤ length s
  null_within =
      test (ltb (length (before_null s)) (length s))
      (λ e. let h = ltb-true (length (before_null s)) (length s) e in
      rw (by_null s h) (omega (arith, place_within (before_null s))))
      (λ e. rw (never_ended s (ltb-false _ _ e)) (omega arith))

  -- 14 is for the strings with no 00
  pub not_ended_where : ((null_ended_check_of s).number ≡ refusal.not_ended) ↔ NoNull s
  not_ended_where = (
    λ n. test (ltb (length (before_null s)) (length s))
        (λ e. absurd (unended_number (before_null s) (rw (by_null s (ltb-true _ _ e)) at n)))
        (λ e. subst NoNull (before_all s (ltb-false _ _ e)) (before_none s)),
    λ n. ap (λ (a : Answer). a.number) (never_ended s (rw (none_before s n) (omega arith))),
  )

-- what follows the first 00 is never looked at
pub nothing_after_null : (t x y : List ℕ) → null_ended_check_of (t ++ (0x00 ∷ x)) ≡ null_ended_check_of (t ++ (0x00 ∷ y))
unfolding null_ended_check_of pick
nothing_after_null t x y = rw (ended t x, ended t y) (ap unended_check_of (before_same t x y))
