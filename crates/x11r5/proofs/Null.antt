-- The octets before the first 00, by induction on the string: they have no 00 (`before_none`), the 00 follows them (`before_parts`), and what follows the 00
-- changes nothing (`before_same`). Of octets with no 00 they are all (`before_proper`, `before_all`).
use Rattle.element.proofs.Names.{ℕ, zero, suc, ◌≤◌, ◌<◌, arith, ◌≡◌, refl, ap, true, false, List, [], ◌∷◌, ◌++◌, eqb, ltb, length, get_or, drop}
use Rattle.element.proofs.Names.{length-append, eqb-true, eqb-false, ne_eqb, lt-ltb, pick, test}
use Rattle.grammar.specs.Reading.{Octets}
use Rattle.x11r5.specs.Reading.{before_null}
use Rattle.x11r5.specs.Theorems.{NoNull}
use Rattle.x11r5.proofs.Octets.{Proper, All}

pub before_proper : (t x : List ℕ) → All Proper t → before_null (t ++ (0x00 ∷ x)) ≡ t
unfolding before_null pick
before_proper [] x h = refl
before_proper (b ∷ t) x h = rw (ne_eqb b 0 (λ e. omega (arith, h.0.0))) (ap (◌∷◌ b) (before_proper t x h.1))

pub before_same : (t x y : List ℕ) → before_null (t ++ (0x00 ∷ x)) ≡ before_null (t ++ (0x00 ∷ y))
unfolding before_null pick
before_same [] x y = refl
before_same (b ∷ t) x y = ap (λ (r : List ℕ). pick (eqb b 0) [] (b ∷ r)) (before_same t x y)

-- a 00 ends a string that has one
before_short : (t x : List ℕ) → length (before_null (t ++ (0x00 ∷ x))) ≤ length t
unfolding before_null pick
before_short [] x = omega arith
before_short (b ∷ t) x =
    let h = before_short t x in
    test (eqb b 0) (λ e. rw e (omega arith)) (λ e. rw e (omega arith))

pub ended : (t x : List ℕ) → ltb (length (before_null (t ++ (0x00 ∷ x)))) (length (t ++ (0x00 ∷ x))) ≡ true
ended t x =
    lt-ltb (length (before_null (t ++ (0x00 ∷ x)))) (length (t ++ (0x00 ∷ x))) (omega (arith, before_short t x, length-append t (0x00 ∷ x)))

-- and stands directly after the octets before it
pub before_parts : (s : List ℕ) → length (before_null s) < length s → s ≡ before_null s ++ (0x00 ∷ drop (suc (length (before_null s))) s)
unfolding before_null pick
before_parts [] h = absurd (omega arith)
before_parts (b ∷ t) h =
    test (eqb b 0) (λ e. rw e (ap (λ (x : ℕ). x ∷ t) (eqb-true b 0 e)))
    (λ e. let h' : suc (length (before_null t)) < suc (length t) = rw e at h in
    rw e (ap (◌∷◌ b) (before_parts t (omega arith))))

pub before_none : (s : List ℕ) → NoNull (before_null s)
unfolding before_null pick
before_none [] i h e = omega arith
before_none (b ∷ t) i h e = test (eqb b 0) (λ q. absurd (go (rw q at h))) (λ q. later i q (rw q at h) (rw q at e) (λ j l. before_none t j l))
  where
    go : i < 0 → ⊥
    go l = omega arith

    later : (i : ℕ) → eqb b 0 ≡ false → i < suc (length (before_null t)) → get_or (b ∷ before_null t) i 0 ≡ 0
        → ((j : ℕ) → j < length (before_null t) → get_or (before_null t) j 0 ≡ 0 → ⊥) → ⊥
    later zero q l e f = eqb-false b 0 q e
    later (suc i) q l e f = f i (omega arith) e

pub before_octets : (s : List ℕ) → Octets s → Octets (before_null s)
unfolding before_null pick
before_octets [] o i = o i
before_octets (b ∷ t) o i = test (eqb b 0) (λ e. rw e (omega arith)) (λ e. rw e (later i (before_octets t (λ j. o (suc j)))))
  where
    later : (i : ℕ) → Octets (before_null t) → get_or (b ∷ before_null t) i 0 < 256
    later zero f = o 0
    later (suc i) f = f i

-- a string that no 00 ends: all its octets are before, and it has none
pub before_all : (s : List ℕ) → length s ≤ length (before_null s) → before_null s ≡ s
unfolding before_null pick
before_all [] h = refl
before_all (b ∷ t) h =
    test (eqb b 0) (λ e. absurd (let l : suc (length t) ≤ 0 = rw e at h in omega arith))
    (λ e. let l : suc (length t) ≤ suc (length (before_null t)) = rw e at h in
    rw e (ap (◌∷◌ b) (before_all t (omega arith))))

pub none_before : (s : List ℕ) → NoNull s → before_null s ≡ s
unfolding before_null pick
none_before [] n = refl
none_before (b ∷ t) n =
    rw (ne_eqb b 0 (n 0 (omega arith))) (ap (◌∷◌ b) (none_before t (λ i h. n (suc i) (omega arith))))
