-- The base reader's numbers are 0 to 9, and its places lie within the string (`base_bounded`): of a refusal by what an element's refusal points at, and of
-- the end by induction on the elements.
use Rattle.element.proofs.Names.{ℕ, ◌+◌, ◌≤◌, arith, ◌≡◌, refl, subst, List, ltb, length, eqb, eqb-true, eqb-false, Refused, ltb-false, from, pick}
use Rattle.element.proofs.Names.{test, Answer, State}
use Rattle.base.specs.Limit as limit
use Rattle.base.specs.Refusal as refusal
use Rattle.element.proofs.Pointed.{Pointed, at_length, at_octet, at_start, element_pointed, passes}
use Rattle.grammar.specs.Reading.{Elements, answer_of, check_of}
use Rattle.grammar.proofs.Places.{Ahead, ends, stops, passes, reads, from_start, refused_within}
use Rattle.grammar.proofs.Pointed.{stop_in, refused_element, refused_place}

-- its numbers are 0 to 9
of_number : {t : List ℕ} {st : State} {n o : ℕ} → Pointed t st (Refused n o) → n ≤ refusal.too_deep
of_number (at_length e) = omega arith
of_number (at_octet m n h e d) = omega (arith, n.1)
of_number (at_start m n h d) = n.1
of_number (passes x _) = elim x [ ]

-- it ends, where it accepts, within the string
end_within : (t : List ℕ) (c : ℕ) {at : ℕ} {st : State} {es : Elements} → Ahead t at st es → at ≤ length t
    → (answer_of c es).number ≡ refusal.accepted → (answer_of c es).place ≤ length t
unfolding answer_of
end_within t c (ends e) h z = h
end_within t c (stops {n = n} f e) h z = absurd (let y : n ≡ 0 = z in omega arith)
end_within t c (passes s e a) h z = end_within t c a s.fits z
end_within t c (reads s m e a) h z = end_within t (c + 1) a s.fits z

pub record Bounded (t : List ℕ) (a : Answer) : Type 0 where
  pub number : a.number ≤ refusal.too_deep
  pub place : a.place ≤ length t

pub base_bounded : (t : List ℕ) → Bounded t (check_of t)
unfolding check_of pick
base_bounded t =
    test (ltb limit.octets (length t)) (λ e. rw e (record { number = omega arith; place = omega arith }))
    (λ e. test (eqb (check_of t).number refusal.accepted)
    (λ z. let n = eqb-true (check_of t).number refusal.accepted z in
    record { number = omega (arith, n); place = rw e (end_within t 0 (from_start t) (omega arith) (rw e at n)) })
    (λ z. let x = refused_element t (ltb-false _ _ e) (eqb-false (check_of t).number refusal.accepted z) in
    let w = from (stop_in t).place t in
    record {
      number = of_number (subst (Pointed w (stop_in t).state) x.element (element_pointed w (stop_in t).state));
      place = rw (refused_place t x) (refused_within t (stop_in t).place (stop_in t).state _ refl x.element);
    }))
