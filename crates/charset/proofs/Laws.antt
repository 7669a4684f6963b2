-- The laws of the table of sets. A row that the search finds has the designation's form, side and final octet (`set_named`); a set that may
-- stand anywhere is one of the fifteen (`allowed_below`); the code's table has the rows of the definition (`known_row`, `no_row`); and what is
-- told by a set's number is what the table says, by a test that antt computes for the fifteen rows (`by_rows`, `narrow_form`, `wide_form`).
use Prim.Native.Nat.{ℕ, suc, ◌+◌, ◌-◌, ◌<◌, ◌≤◌}
use native.Mathlib.Omega.{arith}
use lib.Dec.{eqb, leb, ltb}
use borrow.Author.Tests.{eqb-true, ne_eqb, le-leb, ltb-true, ltb-false, not-true}
use mathlib.Core.Path.{◌≡◌, refl, sym}
use mathlib.Core.Bool.{Bool, true, false, not, ◌&&◌}
use mathlib.Core.List.{List, [], ◌∷◌}
use lib.ListN.{length, get_or, get_or-eq_default}
use Rattle.charset.specs.Charsets.{Row, form_96, form_94x94, no_set, first_double, Named, row, rows, row_of, may_use, allowed, fits_of, find, set_of}
use Rattle.charset.specs.Charsets.{form_of, charset_of}
use Rattle.charset.specs.declared.Side.{Side, TheVariants.GL, TheVariants.GR}
use Rattle.charset.specs.declared.approved.Charset.{Charset}
use Rattle.base.specs.Choice.{pick}
use Rattle.base.proofs.Bools.{off, test, pick_both, from-tests, up_to_lem, up_to, up_to_where, NoneOf, none_below}

-- past the table there is no set
pub row_past : (n : ℕ) → 15 ≤ n → row_of n ≡ row 0 0 false false
row_past n h = get_or-eq_default rows (row 0 0 false false) h

-- a row that fits has the designation's form, side and final octet
fits_all : (w : Row) (f : ℕ) (s : Side) (x : ℕ) → fits_of w f s x ≡ true → Named w f s x
unfolding fits_of
fits_all w f s x e =
    let h = pick_both (eqb w.form f) _ e in
    let k = pick_both (eqb w.last x) _ h.1 in
    record { form = eqb-true w.form f h.0; last = eqb-true w.last x k.0; side = k.1 }

module _ (f : ℕ) (s : Side) (x : ℕ) (d : Row) where
  find_from : (ws : List Row) (i : ℕ) → i ≤ find ws f s x i
  unfolding find pick
  find_from [] i = omega arith
  find_from (w ∷ ws) i = let h = find_from ws (suc i) in test (fits_of w f s x) (λ e. rw e (omega arith)) (λ e. rw e (omega arith))

  find_to : (ws : List Row) (i : ℕ) → find ws f s x i ≤ i + length ws
  unfolding find pick
  find_to [] i = omega arith
  find_to (w ∷ ws) i = let h = find_to ws (suc i) in test (fits_of w f s x) (λ e. rw e (omega arith)) (λ e. rw e (omega arith))

  find_fits : (ws : List Row) (i : ℕ) → find ws f s x i < i + length ws → fits_of (get_or ws (find ws f s x i - i) d) f s x ≡ true
  unfolding find pick
  find_fits [] i h = absurd (omega arith)
  find_fits (w ∷ ws) i h =
      test (fits_of w f s x) (λ e. let z : i - i ≡ 0 = omega arith in rw (e, z) e)
      (λ e. let h' : find ws f s x (suc i) < i + suc (length ws) = rw e at h in
      let l = find_from ws (suc i) in
      let z : find ws f s x (suc i) - i ≡ suc (find ws f s x (suc i) - suc i) = omega arith in
      rw (e, z) (find_fits ws (suc i) (omega arith)))

-- a set that a designation names
pub set_named : (f : ℕ) (s : Side) (x : ℕ) → set_of f s x < 15 → Named (row_of (set_of f s x)) f s x
unfolding set_of
set_named f s x h =
    let z : find rows f s x 0 - 0 ≡ find rows f s x 0 = omega arith in
    fits_all _ f s x (rw z at (find_fits f s x (row 0 0 false false) rows 0 (omega arith)))

-- its form is the designation's
pub set_form : (f : ℕ) (s : Side) (x : ℕ) → set_of f s x < 15 → form_of (set_of f s x) ≡ f
unfolding form_of
set_form f s x h = (set_named f s x h).form

pub set_most : (f : ℕ) (s : Side) (x : ℕ) → set_of f s x ≤ 15
unfolding set_of
set_most f s x = find_to f s x (row 0 0 false false) rows 0

-- a final octet of the table lies in 40-7E
pub final_range : (f : ℕ) (s : Side) (x : ℕ) → set_of f s x < 15 → (0x40 ≤ x) × (x < 0x7F)
final_range f s x h =
    let e = up_to_lem 15 (λ c. leb 0x40 (row_of c).last && ltb (row_of c).last 0x7F) refl (set_of f s x) h in
    rw (set_named f s x h).last at (let b : (0x40 ≤ (row_of (set_of f s x)).last) × ((row_of (set_of f s x)).last < 0x7F) = search from-tests in b)

-- a set that may stand anywhere is one of the fifteen
pub allowed_below : (d : Side) (c : ℕ) → allowed d c ≡ true → c < 15
unfolding allowed may_use
allowed_below d c e = test (ltb c 15) (ltb-true c 15) (λ q. past d (rw (row_past c (ltb-false c 15 q)) at e))
  where
    past : (d : Side) → may_use d (row 0 0 false false) ≡ true → c < 15
    past GL q = off q
    past GR q = off q

-- ---- the code's comparisons

-- a test that holds of the fifteen, and past them, holds of each number
pub by_rows : (f : ℕ → Bool) → up_to 15 f ≡ true → ((n : ℕ) → 15 ≤ n → f n ≡ true) → (n : ℕ) → f n ≡ true
by_rows f t past n = test (ltb n 15) (λ e. up_to_lem 15 f t n (ltb-true n 15 e)) (λ e. past n (ltb-false n 15 e))

-- the sets of two octets are the last of the table
pub narrow_form : (c : ℕ) → c < first_double → eqb (form_of c) form_94x94 ≡ false
unfolding form_of
narrow_form c h = not-true (eqb (form_of c) form_94x94) (up_to_lem 12 (λ m. not (eqb (form_of m) form_94x94)) refl c h)

pub wide_form : (c : ℕ) → first_double ≤ c → c < no_set → eqb (form_of c) form_94x94 ≡ true
unfolding form_of
wide_form c h k = up_to_where 15 (leb 12) (λ m. eqb (form_of m) form_94x94) refl c k (le-leb 12 c h)

-- no set of 96 stands in GL
pub left_form : (c : ℕ) → allowed GL c ≡ true → eqb (form_of c) form_96 ≡ false
unfolding allowed may_use form_of
left_form c a = not-true _ (up_to_where 15 (allowed GL) (λ m. not (eqb (form_of m) form_96)) refl c (allowed_below GL c a) a)

-- the row of a number that is known, and of one that is none of the fifteen
pub known_row : (n k : ℕ) {r : Charset} → n ≡ k → r ≡ charset_of k → r ≡ charset_of n
known_row n k e h = rw e h

pub no_row : (n : ℕ) → NoneOf n 15 → charset_of 15 ≡ charset_of n
unfolding charset_of
no_row n h = rw (row_past n (none_below n 15 h))

-- a form that no row of a side has
dead : (a : Bool) → pick a false false ≡ false
unfolding pick
dead true = refl
dead false = refl

other : (a x : ℕ) → (x ≡ a → ⊥) → eqb a x ≡ false
other a x h = ne_eqb a x (λ e. h (sym e))

module _ (f x : ℕ) where
  pub none_left : (f ≡ 1 → ⊥) → (f ≡ 3 → ⊥) → 15 ≡ set_of f GL x
  unfolding set_of find fits_of may_use pick
  none_left a b = simp (other 1 f a, other 3 f b, dead)

  pub none_right : (f ≡ 1 → ⊥) → (f ≡ 2 → ⊥) → (f ≡ 3 → ⊥) → 15 ≡ set_of f GR x
  unfolding set_of find fits_of may_use pick
  none_right a b c = simp (other 1 f a, other 2 f b, other 3 f c)
