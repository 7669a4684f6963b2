-- Where a place that serves a class stands, nothing is designated; and where the slots of a row lie.
use Rattle.element.proofs.Names.{◌≡◌, refl, ◌∙◌, Bool, true, ◌||◌, or-true, ℕ, ◌/◌, ◌%◌, ◌<◌, arith, get_or, eqb, ltb, eq-eqb, test}
use mathlib.Core.Bool.{beq}
use Rattle.base.proofs.Bools.{implies, implies_elim, up_to, up_to_both}
use Rattle.numbers.specs.Numbers.{sets_in_gl, places_in_gl, places_in_gr, after_first, after_second, second_slot, chosen_by}
use Rattle.numbers.proofs.Numbers.{beq_eq}

-- where a place that serves the class stands, nothing is designated: by one computed test of all 17 classes and 80 numbers
abbrev stands : ℕ → ℕ → Bool
stands x k = eqb (k / 16) (get_or places_in_gl x 0) || eqb (k % 16) (get_or places_in_gr x 0)

abbrev stays : ℕ → ℕ → Bool
stays x k = eqb (after_first x k) k || eqb (after_second x k) k

all_stay : up_to 17 (λ x. up_to 80 (λ k. implies (stands x k) (stays x k))) ≡ true
unfolding after_first after_second
all_stay = refl

stands_stays : (x k u v : ℕ) → x < 17 → k < 80 → stands x k ≡ true → k ≡ chosen_by x k u v
unfolding chosen_by
stands_stays x k u v hx hk e =
    rw (implies_elim (stands x k) (stays x k) (up_to_both 17 80 (λ y m. implies (stands y m) (stays y m)) all_stay x k hx hk) e)

pub gl_stays : (x k l u v : ℕ) → x < 17 → k < 80 → l ≡ get_or places_in_gl x 0 → k / 16 ≡ l → k ≡ chosen_by x k u v
gl_stays x k l u v hx hk el e = stands_stays x k u v hx hk (rw (eq-eqb (k / 16) (get_or places_in_gl x 0) (e ∙ el)))

pub gr_stays : (x k r u v : ℕ) → x < 17 → k < 80 → r ≡ get_or places_in_gr x 0 → k % 16 ≡ r → k ≡ chosen_by x k u v
gr_stays x k r u v hx hk er e =
    stands_stays x k u v hx hk (rw (eq-eqb (k % 16) (get_or places_in_gr x 0) (e ∙ er)) (or-true (eqb (k / 16) (get_or places_in_gl x 0))))

-- a character's set stands in GL where its place there does
sided : up_to 15 (λ x. up_to 5 (λ g. beq (eqb g (get_or places_in_gl x 0)) (eqb (get_or sets_in_gl g 0) x))) ≡ true
sided = refl

pub its_place : (x g : ℕ) → x < 15 → g < 5 → eqb g (get_or places_in_gl x 0) ≡ eqb (get_or sets_in_gl g 0) x
its_place x g hx hg =
    beq_eq (eqb g (get_or places_in_gl x 0)) (eqb (get_or sets_in_gl g 0) x)
    (up_to_both 15 5 (λ y m. beq (eqb m (get_or places_in_gl y 0)) (eqb (get_or sets_in_gl m 0) y)) sided x g hx hg)

-- the slots lie before the row's unit
pub slot_below : (x k : ℕ) → k < 80 → second_slot x k < 65
slot_below x k h = test (ltb x 15) (λ e. rw e (omega arith)) (λ e. rw e (omega arith))
