-- The least costs from all numbers by one rule: the lesser of two stretches of costs with surcharges, since no cost rises by more than a
-- designation's price.
use Rattle.element.proofs.Names.{◌≡◌, refl, sym, ap, ap₂, ◌∙◌, subst, Bool, true, false, cond, ◌||◌, List, ⊎_elim, ℕ, ◌+◌, ◌-◌, ◌*◌, ◌≤◌}
use Rattle.element.proofs.Names.{◌<◌, min, arith, length, get_or, leb, ltb, eqb, eqb-true, eqb-false, eq-eqb, ne_eqb, leb-true, leb-false, le-leb, ltb-true}
use Rattle.element.proofs.Names.{lt-ltb, test, cond_by, up_to_lem}
use Rattle.base.proofs.Bools.{or_cases, implies, implies_elim, up_to, up_to_where}
use Rattle.numbers.specs.Numbers.{with_gl, with_gr, price_of_class, places_in_gl, places_in_gr, after_first, after_second, chosen_by, surcharge}
use Rattle.table.specs.Table.{SumsFit, Charges, ColumnRead, from_gl}
use Rattle.plan.specs.Costs.{least_by, surcharges, OfGL, Smooth, InGR, OnBoth}
use Rattle.table.proofs.Filled.{all_five}
use Rattle.numbers.proofs.Numbers.{bounded, first_gl, first_gr, second_gr, price_both, price_gr}

-- ---- the least cost is the lesser of the two ways

module _ (x k : ℕ) (next : List ℕ) where
  abbrev a : ℕ
  a = after_first x k

  abbrev b : ℕ
  b = after_second x k

  abbrev at : ℕ → ℕ
  at j = get_or next j 0

  least_min : at k ≤ price_of_class x + at a → at k ≤ price_of_class x + at b → min (surcharge x k a + at a) (surcharge x k b + at b) ≡ least_by x next k
  unfolding least_by chosen_by
  least_min ha hb = go (eqb a k) refl (eqb b k) refl (leb (at a) (at b)) refl
    where
      same : (j : ℕ) → eqb j k ≡ true → at j ≡ at k
      same j q = ap (λ (i : ℕ). get_or next i 0) (eqb-true j k q)

      go : (s : Bool) → eqb a k ≡ s → (t : Bool) → eqb b k ≡ t → (w : Bool) → leb (at a) (at b) ≡ w
          → min (cond s 0 (price_of_class x) + at a) (cond t 0 (price_of_class x) + at b)
          ≡ surcharge x k (cond (s || t) k (cond w a b)) + at (cond (s || t) k (cond w a b))
      go true q true r w z = rw (eq-eqb k k refl) (omega (arith, same a q, same b r))
      go true q false r w z = rw (eq-eqb k k refl) (omega (arith, same a q))
      go false q true r w z = rw (eq-eqb k k refl) (omega (arith, same b r))
      go false q false r true z = rw q (let l = leb-true (at a) (at b) z in omega arith)
      go false q false r false z = rw r (let l = leb-false (at a) (at b) z in omega arith)

-- ---- surcharges

eqb_as : (a b c d : ℕ) → (a ≡ b → c ≡ d) → (c ≡ d → a ≡ b) → eqb a b ≡ eqb c d
eqb_as a b c d f g =
    test (eqb c d) (λ e. eq-eqb a b (g (eqb-true c d e)) ∙ sym e) (λ e. ne_eqb a b (λ z. eqb-false c d e (f z)) ∙ sym e)

cond_most : (t : Bool) (p : ℕ) → cond t 0 p ≤ p
cond_most t p = cond_by (λ m. m ≤ p) t (λ _. omega arith) (λ _. omega arith)

pub unserved_most : (x y : ℕ) → cond (eqb x y) 6 0 ≤ 6
unserved_most x y = cond_by (λ m. m ≤ 6) (eqb x y) (λ _. omega arith) (λ _. omega arith)

-- the table has nothing at 15, and the price at its other places
abbrev Surcharges : ℕ → Type 0
Surcharges p = up_to 32 (λ m. eqb (get_or (surcharges p) m 0) (cond (eqb m 15) 0 p)) ≡ true

-- ---- the two ways to number 16 g + q

module _ (x : ℕ) (next : List ℕ) (g q : ℕ) (hg : g < 5) (hq : q < 16) (sm : Smooth x next) where
  abbrev k : ℕ
  k = 16 * g + q

  by_ways : {u v : ℕ} → u ≡ surcharge x k (after_first x k) + get_or next (after_first x k) 0
      → v ≡ surcharge x k (after_second x k) + get_or next (after_second x k) 0
      → min u v ≡ least_by x next k
  by_ways eu ev = ap₂ min eu ev ∙ least_min x k next (sm.first_near k (omega arith)) (sm.second_near k (omega arith))

  way : (j a p : ℕ) (t : Bool) → a ≡ j → price_of_class x ≡ p → t ≡ eqb a k → get_or next a 0 + cond t 0 p ≡ surcharge x k j + get_or next j 0
  way j a p t e c m =
      omega (arith, ap₂ (λ (b : Bool) (y : ℕ). cond b 0 y) m (sym c), ap (λ (i : ℕ). surcharge x k i + get_or next i 0) e)

  -- by GL's place l, and by GR's place r
  gl_way : (l j p : ℕ) → with_gl l k ≡ j → price_of_class x ≡ p → get_or next (16 * l + q) 0 + cond (eqb g l) 0 p ≡ surcharge x k j + get_or next j 0
  gl_way l j p e c =
      let z : 16 * l + q ≡ with_gl l k = omega arith in
      way j (16 * l + q) p (eqb g l) (z ∙ e) c (eqb_as g l (16 * l + q) k (λ y. omega arith) (λ y. omega arith))

  gr_way : (r j p : ℕ) (table vs : List ℕ) → Surcharges p → with_gr r k ≡ j → price_of_class x ≡ p → r < 13 → table ≡ surcharges p
      → ColumnRead next r vs
      → get_or table (15 - r + q) 0 + get_or vs g 0 ≡ surcharge x k j + get_or next j 0
  gr_way r j p table vs t e c hr et col =
      let z : 16 * g + r ≡ with_gr r k = omega arith in
      let m = 15 - r + q in
      omega (
        arith,
        col.each g hg,
        ap (λ (y : List ℕ). get_or y m 0) et,
        eqb-true (get_or (surcharges p) m 0) (cond (eqb m 15) 0 p)
            (up_to_lem 32 (λ i. eqb (get_or (surcharges p) i 0) (cond (eqb i 15) 0 p)) t m (omega arith)),
        way j (16 * g + r) p (eqb m 15) (z ∙ e) c (eqb_as m 15 (16 * g + r) k (λ y. omega arith) (λ y. omega arith)),
      )

  -- a character of a set of both sides, of GR alone
  pub lesser_both : (l r : ℕ) (ps vs table : List ℕ) → OnBoth x l r → table ≡ surcharges 4 → Charges 4 l ps → ColumnRead next r vs
      → min (get_or next (16 * l + q) 0 + get_or ps g 0) (get_or table (15 - r + q) 0 + get_or vs g 0) ≡ least_by x next k
  lesser_both l r ps vs table (hx, el, er, hl, hr) et ch col =
      let p = price_both x l r hx el er hl hr in
      by_ways (ap (λ (m : ℕ). get_or next (16 * l + q) 0 + m) (ch.each g hg) ∙ gl_way l (after_first x k) 4 (first_gl x l r k el er hx hl) p)
      (gr_way r (after_second x k) 4 table vs refl (second_gr x l r k el er hx hr) p hr et col)

  pub lesser_gr : (r : ℕ) (vs table : List ℕ) → InGR x r → table ≡ surcharges 3 → ColumnRead next r vs
      → min (get_or table (15 - r + q) 0 + get_or vs g 0) (get_or table (15 - r + q) 0 + get_or vs g 0) ≡ least_by x next k
  lesser_gr r vs table (hx, er, hr, hl) et col =
      let p = price_gr x (get_or places_in_gl x 0) hx refl hl in
      by_ways (gr_way r (after_first x k) 3 table vs refl (first_gr x (get_or places_in_gl x 0) r k refl er hx hl) p hr et col)
      (gr_way r (after_second x k) 3 table vs refl (second_gr x (get_or places_in_gl x 0) r k refl er hx hr) p hr et col)

  -- a class that GL serves at place l first, and then at place m
  lesser_gl : (l m : ℕ) → price_of_class x ≡ 3 → with_gl l k ≡ after_first x k → with_gl m k ≡ after_second x k
      → min (get_or next (16 * l + q) 0 + cond (eqb g l) 0 3) (get_or next (16 * m + q) 0 + cond (eqb g m) 0 3) ≡ least_by x next k
  lesser_gl l m p el em = by_ways (gl_way l (after_first x k) 3 el p) (gl_way m (after_second x k) 3 em p)

-- ---- the classes that GL alone serves

-- there are three
of_gl : (x : ℕ) → OfGL x → (eqb x 0 || (eqb x 2 || eqb x 15)) ≡ true
of_gl x (hx, h) =
    implies_elim (leb 13 (get_or places_in_gr x 0)) (eqb x 0 || (eqb x 2 || eqb x 15))
    (up_to_lem 16 (λ y. implies (leb 13 (get_or places_in_gr y 0)) (eqb y 0 || (eqb y 2 || eqb y 15))) refl x hx) (le-leb 13 (get_or places_in_gr x 0) h)

-- row by row from the costs a and b with sets 0 and 2 in GL, which are no more than a designation apart: for set 0, set 2, and a space
abbrev Rows : ℕ → ℕ → ℕ → Type 0
Rows a b g =
    (get_or (from_gl a 0 b 6 3) g 0 ≡ min (a + cond (eqb g 0) 0 3) (a + cond (eqb g 0) 0 3))
    × (get_or (from_gl a 6 b 0 3) g 0 ≡ min (b + cond (eqb g 1) 0 3) (b + cond (eqb g 1) 0 3))
    × (get_or (from_gl a 0 b 0 3) g 0 ≡ min (a + cond (eqb g 0) 0 3) (b + cond (eqb g 1) 0 3))

rows : (a b : ℕ) → b ≤ 3 + a → a ≤ 3 + b → (g : ℕ) → g < 5 → Rows a b g
rows a b h h' =
    all_five (Rows a b)
    (omega arith, omega arith, omega arith)
    (omega arith, omega arith, omega arith)
    (omega arith, omega arith, omega arith)
    (omega arith, omega arith, omega arith)
    (omega arith, omega arith, omega arith)

module _ (next : List ℕ) (g q : ℕ) (hg : g < 5) (hq : q < 16) (sm : (y : ℕ) → y < 17 → Smooth y next) where
  abbrev Least : ℕ → Type 0
  Least x =
      get_or (from_gl (get_or next (16 * 0 + q) 0) (cond (eqb x 2) 6 0) (get_or next (16 * 1 + q) 0) (cond (eqb x 0) 6 0) 3) g 0 ≡ least_by x next (16 * g + q)

  least_gl : (x : ℕ) → OfGL x → Least x
  unfolding after_first after_second price_of_class
  least_gl x o =
      let z : with_gl 0 (16 * 1 + q) ≡ 16 * 0 + q = omega arith in
      let y : with_gl 1 (16 * 0 + q) ≡ 16 * 1 + q = omega arith in
      let row = rows (get_or next (16 * 0 + q) 0) (get_or next (16 * 1 + q) 0)
      (omega (arith, (sm 0 (omega arith)).first_near (16 * 1 + q) (omega arith), ap (λ (j : ℕ). get_or next j 0) z))
      (omega (arith, (sm 2 (omega arith)).first_near (16 * 0 + q) (omega arith), ap (λ (j : ℕ). get_or next j 0) y)) g hg in
      ⊎_elim (λ e. class 0 e (row.0 ∙ lesser_gl 0 next g q hg hq (sm 0 (omega arith)) 0 0 refl refl refl))
      (λ t. ⊎_elim (λ e. class 2 e (row.1 ∙ lesser_gl 2 next g q hg hq (sm 2 (omega arith)) 1 1 refl refl refl))
      (λ e. class 15 e (row.2 ∙ lesser_gl 15 next g q hg hq (sm 15 (omega arith)) 0 1 refl refl refl)) (or_cases (eqb x 2) (eqb x 15) t))
      (or_cases (eqb x 0) (eqb x 2 || eqb x 15) (of_gl x o))
    where
      class : (y : ℕ) → eqb x y ≡ true → Least y → Least x
      class y e h = subst Least (sym (eqb-true x y e)) h

  pub gl_least : (x p p' three : ℕ) → OfGL x → p ≡ cond (eqb x 2) 6 0 → p' ≡ cond (eqb x 0) 6 0 → three ≡ 3
      → get_or (from_gl (get_or next q 0) p (get_or next (16 + q) 0) p' three) g 0 ≡ least_by x next (16 * g + q)
  gl_least x p p' three o ep ep' et =
      let z : q ≡ 16 * 0 + q = omega arith in
      ap₂ (λ (j t : ℕ). get_or (from_gl (get_or next j 0) p (get_or next (16 + q) 0) p' t) g 0) z et
      ∙ ap₂ (λ (m n : ℕ). get_or (from_gl (get_or next (16 * 0 + q) 0) m (get_or next (16 + q) 0) n 3) g 0) ep ep' ∙ least_gl x o

-- a class that a place of GR serves is that of a set: a computed test of the 16 classes that need one
pub in_right : (x r : ℕ) → x < 16 → r ≡ get_or places_in_gr x 0 → r < 13 → x < 15
in_right x r hx er h =
    ltb-true x 15
    (up_to_where 16 (λ y. ltb (get_or places_in_gr y 0) 13) (λ y. ltb y 15) refl x hx (lt-ltb _ 13 (subst (λ (y : ℕ). y < 13) er h)))

-- ---- the sums fit an octet

pub fit-charges : {x : ℕ} {next : List ℕ} (i p l : ℕ) (ps : List ℕ) → Smooth x next → length next ≡ 80 → i ≤ 64 → p ≤ 4 → Charges p l ps
    → SumsFit next i ps
fit-charges {x} {next} i p l ps sm len hi hp ch g hg =
    record { inside = omega arith; sums = λ r hr. omega (arith, sm.small (i + r), ch.each g hg, cond_most (eqb g l) p) }

pub fit-column : {x : ℕ} {next : List ℕ} (p i r : ℕ) (table vs : List ℕ) → up_to 32 (λ m. leb (get_or (surcharges p) m 0) 4) ≡ true
    → table ≡ surcharges p → Smooth x next
    → r < 13 → i ≡ 15 - r → ColumnRead next r vs → SumsFit table i vs
fit-column {x} {next} p i r table vs t e sm hr ei col g hg =
    record {
      inside = omega (arith, ap length e);
      sums = λ q hq.
          omega (arith, ap (λ (z : List ℕ). get_or z (i + q) 0) e, bounded (surcharges p) 4 t (i + q), col.each g hg, sm.small (16 * g + r));
    }

pub charges_as : {l : ℕ} {ps : List ℕ} {p p' : ℕ} → p ≡ p' → Charges p l ps → Charges p' l ps
charges_as {l} {ps} e c = subst (λ (p : ℕ). Charges p l ps) e c

-- the last entry of a table is the price
pub last_surcharge : (table : List ℕ) (p : ℕ) → table ≡ surcharges p → get_or table 31 0 ≡ p
last_surcharge table p e = ap (λ (z : List ℕ). get_or z 31 0) e
