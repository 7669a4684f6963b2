-- What the code tells without reading the table. The lookup of a designation's set is direct (`lookup_direct`), and it is the search through the
-- table for every form, side and octet (`found_is`). Shown by one test of all 315 pairs of a form and a final octet, which antt computes; what is
-- no such pair finds nothing either way: the search by the range of the table's final octets and by its forms, the lookup since it asks for none.
-- The form and the final octet of a set are those of its row (`form_rule`, `final_rule`), each by one test of the fifteen rows; and the sixteen
-- numbers of a final octet's word are the sets that it names (`named_rule`), by one test of the 256 octets and 16 places.
use Prim.Native.Nat.{ℕ, ◌+◌, ◌-◌, ◌*◌, ◌/◌, ◌%◌, ◌^◌, ◌<◌}
use native.Mathlib.Omega.{arith}
use lib.Dec.{eqb, leb, ltb}
use borrow.Author.Tests.{eqb-true, eqb-false, leb-true, ltb-true, ltb-false, le-ltb, le-leb, ne_eqb}
use mathlib.Core.Path.{◌≡◌, refl, sym, ap, ◌∙◌}
use mathlib.Core.Bool.{Bool, true, false, ◌&&◌}
use Rattle.base.specs.Choice.{pick}
use Rattle.base.proofs.Bools.{and_left, and_right, test, up_to, up_to_both}
use Rattle.base.proofs.Ladder.{on_ne}
use Rattle.charset.specs.Charsets.{row_of, may_use, form_of, fits_of, find, set_of}
use Rattle.charset.specs.Finals.{after_gl94, after_gr94, after_gr96, after94x94, final_by, form_by, found_of, named_of, placed}
use Rattle.charset.specs.Pairs.{form_side, nth_form, at_pair, named, Direct}
use Rattle.charset.specs.declared.Side.{Side, TheVariants.GL, TheVariants.GR}
use Rattle.charset.proofs.Laws.{row_past, final_range, set_most, by_rows, none_left, none_right}

-- ---- the test

agrees : ℕ → ℕ → Bool
agrees i k = eqb (at_pair found_of i k) (at_pair set_of i k)

counts : Bool
counts = eqb (named found_of) 18

all_pairs : (up_to 5 (λ i. up_to 63 (agrees i)) && counts) ≡ true
unfolding agrees counts found_of after_gl94 after_gr94 after_gr96 after94x94 set_of find fits_of may_use pick
all_pairs = refl

at_pair_lem : (i k : ℕ) → i < 5 → k < 63 → at_pair found_of i k ≡ at_pair set_of i k
unfolding agrees
at_pair_lem i k hi hk = eqb-true _ _ (up_to_both 5 63 agrees (and_left (up_to 5 (λ i. up_to 63 (agrees i))) counts all_pairs) i k hi hk)

eighteen : named found_of ≡ 18
unfolding counts
eighteen = eqb-true (named found_of) 18 (and_right (up_to 5 (λ i. up_to 63 (agrees i))) counts all_pairs)

-- ---- final octets outside 40-7E

-- the search finds nothing where a fact of each set that it finds does not hold
none_where : (f : ℕ) (d : Side) (x : ℕ) → (set_of f d x < 15 → ⊥) → set_of f d x ≡ 15
none_where f d x h =
    let m = set_most f d x in test (ltb (set_of f d x) 15) (λ e. absurd (h (ltb-true _ _ e))) (λ e. omega (arith, ltb-false (set_of f d x) 15 e))

search_below : (f : ℕ) (d : Side) (x : ℕ) → x < 0x40 → set_of f d x ≡ 15
search_below f d x l = none_where f d x (λ h. omega (arith, (final_range f d x h).0))

search_above : (f : ℕ) (d : Side) (x : ℕ) → 0x7E < x → set_of f d x ≡ 15
search_above f d x l = none_where f d x (λ h. omega (arith, (final_range f d x h).1))

-- the lookup finds nothing for an octet that is none of 41 to 4D
abbrev NoFinal : ℕ → Type 0
NoFinal x = (k : ℕ) → (leb 0x41 k && leb k 0x4D) ≡ true → eqb x k ≡ false

same : (b : Bool) (n : ℕ) → pick b n n ≡ n
unfolding pick
same true n = refl
same false n = refl

found_none : (f : ℕ) (d : Side) (x : ℕ) → NoFinal x → found_of f d x ≡ 15
unfolding found_of after_gl94 after_gr94 after_gr96 after94x94 pick
found_none f GL x n = rw (n 0x41 refl, n 0x42 refl, n 0x43 refl, n 0x4A refl, same (eqb f 3) 15) (same (eqb f 1) 15)
found_none f GR x n =
    rw (
      n 0x41 refl,
      n 0x42 refl,
      n 0x43 refl,
      n 0x44 refl,
      n 0x46 refl,
      n 0x47 refl,
      n 0x48 refl,
      n 0x49 refl,
      n 0x4C refl,
      n 0x4D refl,
      same (eqb f 3) 15,
      same (eqb f 2) 15,
    ) (same (eqb f 1) 15)

found_below : (f : ℕ) (d : Side) (x : ℕ) → x < 0x40 → found_of f d x ≡ 15
found_below f d x l = found_none f d x (λ k e. ne_eqb x k (λ q. omega (arith, leb-true 0x41 k (and_left _ _ e))))

found_above : (f : ℕ) (d : Side) (x : ℕ) → 0x7E < x → found_of f d x ≡ 15
found_above f d x l = found_none f d x (λ k e. ne_eqb x k (λ q. omega (arith, leb-true k 0x4D (and_right (leb 0x41 k) _ e))))

-- ---- forms

-- a form and side are one of the five, or there is no such form, and nothing is found either way
data Sort (f : ℕ) (d : Side) : Type 0 where
  one : (i : ℕ) → i < 5 → nth_form i ≡ form_side f d → Sort f d
  other : ((x : ℕ) → 15 ≡ set_of f d x) → ((x : ℕ) → found_of f d x ≡ 15) → Sort f d

form_by_lem : (d : Side) (f k : ℕ) → eqb f k ≡ true → form_side k d ≡ form_side f d
form_by_lem d f k e = ap (λ y. form_side y d) (sym (eqb-true f k e))

sort : (f : ℕ) (d : Side) → Sort f d
unfolding found_of pick
sort f GL =
    test (eqb f 1) (λ e. one 0 (omega arith) (form_by_lem GL f 1 e))
    (λ a. test (eqb f 3) (λ e. one 3 (omega arith) (form_by_lem GL f 3 e))
    (λ b. other (λ x. none_left f x (eqb-false f 1 a) (eqb-false f 3 b)) (λ x. rw (a, b))))
sort f GR =
    test (eqb f 1) (λ e. one 1 (omega arith) (form_by_lem GR f 1 e))
    (λ a. test (eqb f 2) (λ e. one 2 (omega arith) (form_by_lem GR f 2 e))
    (λ b. test (eqb f 3) (λ e. one 4 (omega arith) (form_by_lem GR f 3 e))
    (λ c. other (λ x. none_right f x (eqb-false f 1 a) (eqb-false f 2 b) (eqb-false f 3 c)) (λ x. rw (a, b, c)))))

-- a form of the five
found_by : (i : ℕ) → i < 5 → (x : ℕ) → found_of (nth_form i).form (nth_form i).side x ≡ set_of (nth_form i).form (nth_form i).side x
found_by i h x =
    test (ltb x 0x40) (λ a. let l = ltb-true x 0x40 a in found_below _ _ x l ∙ sym (search_below _ _ x l))
    (λ a. test (ltb 0x7E x) (λ b. let l = ltb-true 0x7E x b in found_above _ _ x l ∙ sym (search_above _ _ x l))
    (λ b. let z : 0x40 + (x - 0x40) ≡ x = omega (arith, ltb-false x 0x40 a) in
    rw z at (at_pair_lem i (x - 0x40) h (omega (arith, ltb-false x 0x40 a, ltb-false 0x7E x b)))))

-- ---- every form, side and octet

pub found_is : (f : ℕ) (d : Side) (x : ℕ) → found_of f d x ≡ set_of f d x
found_is f d x = go (sort f d)
  where
    go : Sort f d → found_of f d x ≡ set_of f d x
    go (one i h e) = rw e at (found_by i h x)
    go (other n w) = w x ∙ n x

pub lookup_direct : Direct found_of
lookup_direct =
    record {
      pairs = at_pair_lem;
      eighteen = eighteen;
      below = found_below;
      above = found_above;
      no_form = λ f d x n. none f d x n (sort f d);
    }
  where
    none : (f : ℕ) (d : Side) (x : ℕ) → ((i : ℕ) → i < 5 → nth_form i ≡ form_side f d → ⊥) → Sort f d → found_of f d x ≡ 15
    none f d x n (one i h e) = absurd (n i h e)
    none f d x n (other s w) = w x

-- ---- the form and the final octet of a set, each by one test of the rows

pub form_rule : (c : ℕ) → form_by c ≡ form_of c
unfolding form_by form_of pick
form_rule c =
    eqb-true _ _ (by_rows (λ n. eqb (form_by n) (form_of n)) refl
    (λ n h. rw (row_past n h, le-ltb n 3 (omega arith), le-ltb n 12 (omega arith), le-ltb n 15 h)) c)

pub final_rule : (c : ℕ) → final_by c ≡ (row_of c).last
unfolding final_by pick
final_rule c = eqb-true _ _ (by_rows (λ n. eqb (final_by n) (row_of n).last) refl (λ n h. rw (row_past n h, le-leb 15 n h)) c)

-- ---- the sets that a final octet names, by one test of the octets and the places

placed_right : ℕ → ℕ → Bool
placed_right x p = eqb (named_of x / 2 ^ (4 * p) % 16) (placed p x)

all_placed : up_to 256 (λ x. up_to 16 (placed_right x)) ≡ true
unfolding placed_right named_of placed set_of find fits_of may_use pick
all_placed = refl

pub named_rule : (x p : ℕ) → x < 256 → p < 16 → named_of x / 2 ^ (4 * p) % 16 ≡ placed p x
unfolding placed_right
named_rule x p h k = eqb-true _ _ (up_to_both 256 16 placed_right all_placed x p h k)

-- the places of which none is asked
pub named_none : (x p : ℕ) → x < 256 → p < 16 → (p ≡ 0 → ⊥) → (p ≡ 1 → ⊥) → (p ≡ 5 → ⊥) → (p ≡ 8 → ⊥)
    → (p ≡ 9 → ⊥) → named_of x / 2 ^ (4 * p) % 16 ≡ 15
unfolding placed
named_none x p h k a b c d e =
    named_rule x p h k ∙ sym (on_ne p 0 _ _ _ a (on_ne p 1 _ _ _ b (on_ne p 5 _ _ _ c (on_ne p 8 _ _ _ d (on_ne p 9 _ _ _ e refl)))))
