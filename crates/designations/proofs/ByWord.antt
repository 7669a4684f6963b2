-- What the code tells of three octets by one word of sets (`told_by`) is what `sequence` tells where they name a set, and nothing elsewhere
-- (`told_by_lem`): where the octet before the final one is 28, 29 or 2D the number at its place is the designation's set, and else it is that of no set.
use Rattle.element.proofs.Names.{ℕ, ◌+◌, ◌-◌, ◌*◌, ◌/◌, ◌%◌, ◌^◌, ◌<◌, ◌≤◌, arith, ◌≡◌, refl, ap, sym, ◌∙◌, Bool, true, false, eqb, ltb}
use Rattle.element.proofs.Names.{eqb-true, eqb-false, eq-eqb, ne_eqb, ltb-true, ltb-false, test, pick, on_lt, on_ge, on_eq}
use Rattle.element.proofs.Names.{form_96, form_94x94, no_set, GL, GR}
use Rattle.charset.specs.Charsets.{form_94}
use Rattle.charset.specs.Finals.{named_of, placed}
use Rattle.charset.proofs.Laws.{set_most}
use Rattle.charset.proofs.Lookup.{named_rule, named_none}
use Rattle.designations.specs.Designation.{absent, designation_with, multi_octet_at, sequence_of, told_of, side_by, told_on, told_by}
use Rattle.designations.specs.declared.Designation.{Designation}

abbrev judged : Designation → Designation
judged d = pick (ltb d.set no_set) d absent

-- a number at a place, where it is the set s
kept : (octets f n s : ℕ) → n ≡ s → s ≤ no_set → told_on octets f n ≡ judged (designation_with octets (side_by f) s)
unfolding told_on pick
kept octets f n s i m =
    rw i (test (ltb s 15) (λ e. rw (e, ne_eqb s 15 (λ q. omega (arith, ltb-true s 15 e))))
    (λ e. rw (e, eq-eqb s 15 (omega (arith, m, ltb-false s 15 e)))))

-- octets before the final one of which none is asked
blank : (four : Bool) (f x : ℕ)
    → (0x28 ≤ f → f < 0x30 → named_of x / 2 ^ (4 * (f - 0x28 + pick four 8 0)) % 16 ≡ 15) → absent ≡ told_by four f x
unfolding told_by told_on
blank four f x h =
    test (ltb f 0x28) (λ e. on_lt f 0x28 _ _ _ (ltb-true f 0x28 e) refl)
    (λ e. on_ge f 0x28 _ _ _ (ltb-false f 0x28 e)
    (test (ltb 0x2F f) (λ k. on_lt 0x2F f _ _ _ (ltb-true 0x2F f k) refl)
    (λ k. on_ge 0x2F f _ _ _ (ltb-false 0x2F f k) (on_eq _ 15 _ _ _ (h (ltb-false f 0x28 e) (omega (arith, ltb-false 0x2F f k))) refl))))

after_24 : (c d : ℕ) → d < 256 → told_by true c d ≡ judged (multi_octet_at c d)
unfolding told_by multi_octet_at placed side_by pick
after_24 c d h =
    test (eqb c 0x28)
    (λ e. rw (eqb-true c 0x28 e) (kept _ 0x28 _ _ (named_rule d 8 h (omega arith)) (set_most form_94x94 GL d)))
    (λ n. test (eqb c 0x29)
    (λ e. rw (eqb-true c 0x29 e) (kept _ 0x29 _ _ (named_rule d 9 h (omega arith)) (set_most form_94x94 GR d)))
    (λ m. let n' = eqb-false c 0x28 n in
    let m' = eqb-false c 0x29 m in
    rw (n, m)
    (sym (blank true c d (λ l k. named_none d (c - 0x28 + 8) h (omega arith) (λ q. omega arith) (λ q. omega arith) (λ q. omega arith)
    (λ q. n' (omega arith)) (λ q. m' (omega arith)))))))

after_other : (b c d : ℕ) → c < 256 → (b ≡ 0x24 → ⊥) → told_by false b c ≡ judged (sequence_of b c d)
unfolding told_by sequence_of placed side_by pick
after_other b c d h a =
    test (eqb b 0x28)
    (λ e. rw (eqb-true b 0x28 e) (kept _ 0x28 _ _ (named_rule c 0 h (omega arith)) (set_most form_94 GL c)))
    (λ n. test (eqb b 0x29)
    (λ e. rw (eqb-true b 0x29 e) (kept _ 0x29 _ _ (named_rule c 1 h (omega arith)) (set_most form_94 GR c)))
    (λ m. test (eqb b 0x2D)
    (λ e. rw (eqb-true b 0x2D e) (kept _ 0x2D _ _ (named_rule c 5 h (omega arith)) (set_most form_96 GR c)))
    (λ o. let n' = eqb-false b 0x28 n in
    let m' = eqb-false b 0x29 m in
    let o' = eqb-false b 0x2D o in
    rw (ne_eqb b 0x24 a, n, m, o)
    (sym (blank false b c (λ l k. named_none c (b - 0x28 + 0) h (omega arith) (λ q. n' (omega arith)) (λ q. m' (omega arith))
    (λ q. o' (omega arith)) (λ q. omega arith) (λ q. omega arith)))))))

sequence_24 : (c d : ℕ) → multi_octet_at c d ≡ sequence_of 0x24 c d
unfolding sequence_of pick
sequence_24 c d = refl

-- what is added to the place
pub few : (four : Bool) {n : ℕ} → n ≡ pick four 8 0 → n ≤ 8
unfolding pick
few true e = omega arith
few false e = omega arith

-- the octets f and last that the code has chosen
pub told_by_lem : (b c d f last : ℕ) → c < 256 → d < 256 → f ≡ pick (eqb b 0x24) c b → last ≡ pick (eqb b 0x24) d c
    → told_by (eqb b 0x24) f last ≡ told_of b c d
unfolding told_of pick
told_by_lem b c d f last h k i j =
    rw (i, j) (test (eqb b 0x24) (λ e. rw (eqb-true b 0x24 e) (after_24 c d k ∙ ap judged (sequence_24 c d)))
    (λ e. rw e (after_other b c d h (eqb-false b 0x24 e))))
