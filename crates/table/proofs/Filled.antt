-- Stores into a list, place by place, and into a table, column by column.
use Rattle.element.proofs.Names.{◌≡◌, refl, sym, ap, ap₂, ◌∙◌, subst, List, ◌⊎◌, inl, inr, ⊎_elim, ℕ, ◌+◌, ◌*◌, ◌/◌, ◌%◌, ◌≤◌}
use Rattle.element.proofs.Names.{◌<◌, min, arith, length, get_or, set, length-set, ltb, eqb, ltb-true, ltb-false, eqb-true, eqb-false, test}
use lib.Seq.{get_or-set_same, get_or-set_other}
use Rattle.table.specs.Table.{FilledTo, ColumnFilled, Columns, Swept, ColumnRead, from_gl}

below_cases : (j k : ℕ) → j < k + 1 → (j < k) ⊎ (j ≡ k)
below_cases j k h = test (ltb j k) (λ e. inl (ltb-true j k e)) (λ e. inr (let l = ltb-false j k e in omega arith))

-- ---- one place more

pub filled_none : (place f : ℕ → ℕ) (before : List ℕ) → FilledTo place f 0 before before
filled_none place f before = record { there = λ r h. absurd (omega arith); kept = λ p h. refl; long = refl }

pub filled_more : (place f : ℕ → ℕ) (m : ℕ) (before after : List ℕ) (v : ℕ) → ((r : ℕ) → r < m → place r ≡ place m → ⊥)
    → FilledTo place f m before after → place m < length after → v ≡ f m
    → FilledTo place f (m + 1) before (set after (place m) v)
filled_more place f m before after v apart s h e =
    record {
      there = λ r l.
          ⊎_elim
          (λ q. get_or-set_other after (place m) (place r) v 0 (apart r q) ∙ s.there r q)
          (λ q. rw q (get_or-set_same after (place m) v 0 h ∙ e))
          (below_cases r m l);
      kept = λ p n. get_or-set_other after (place m) p v 0 (n m (omega arith)) ∙ s.kept p (λ r l. n r (omega arith));
      long = length-set after (place m) v ∙ s.long;
    }

pub filled_end : {place f : ℕ → ℕ} {k : ℕ} {before after : List ℕ} (m : ℕ) → FilledTo place f k before after → k ≤ m → m ≤ k
    → FilledTo place f m before after
filled_end {place} {f} {k} {before} {after} m s l h = subst (λ (i : ℕ). FilledTo place f i before after) (omega arith) s

-- what is read first is what is then stored
pub filled_same : {place f g : ℕ → ℕ} {m : ℕ} {before after : List ℕ} → ((r : ℕ) → r < m → f r ≡ g r) → FilledTo place f m before after
    → FilledTo place g m before after
filled_same e s = record { there = λ r h. s.there r h ∙ e r h; kept = s.kept; long = s.long }

-- ---- columns that are computed from what they hold

pub swept_none : (f : ℕ → ℕ → ℕ) (before : List ℕ) → Swept f 0 before before
swept_none f before = record { there = λ g r h k. absurd (omega arith); kept = λ g r h k. refl; long = refl }

pub swept_more : (f : ℕ → ℕ → ℕ) (h : ℕ → ℕ) (m : ℕ) (before mid after : List ℕ) → m < 16 → ((g : ℕ) → h g ≡ f g m)
    → Swept f m before mid
    → ColumnFilled h m 5 mid after → Swept f (m + 1) before after
swept_more f h m before mid after hm eh s e =
    record {
      there = λ g r hg hr.
          ⊎_elim
          (λ q. other g r (omega arith) (omega arith) ∙ s.there g r hg q)
          (λ q. rw q (e.there g hg ∙ eh g))
          (below_cases r m hr);
      kept = λ g r hm hr. other g r hr (omega arith) ∙ s.kept g r (omega arith) hr;
      long = e.long ∙ s.long;
    }
  where
    other : (g r : ℕ) → r < 16 → (r ≡ m → ⊥) → get_or after (16 * g + r) 0 ≡ get_or mid (16 * g + r) 0
    other g r hr n = e.kept (16 * g + r) (λ j hj z. n (omega arith))

pub swept_end : {f : ℕ → ℕ → ℕ} {k : ℕ} {before after : List ℕ} → Swept f k before after → k ≤ 16 → 16 ≤ k → length before ≡ 80
    → Columns f 16 after
swept_end s l h e = record { there = λ g r hg hr. s.there g r hg (omega arith); long = s.long ∙ e }

pub columns_as : {f : ℕ → ℕ → ℕ} {table : List ℕ} (g : ℕ → ℕ → ℕ) → ((i r : ℕ) → i < 5 → r < 16 → f i r ≡ g i r)
    → Columns f 16 table
    → Columns g 16 table
columns_as g e s = record { there = λ i r h k. s.there i r h k ∙ e i r h k; long = s.long }

pub columns_at : (f : ℕ → ℕ) {table : List ℕ} → Columns (λ g r. f (16 * g + r)) 16 table → (k : ℕ) → k < 80 → get_or table k 0 ≡ f k
columns_at f {table} s k h =
    let z : 16 * (k / 16) + k % 16 ≡ k = omega arith in
    subst (λ (i : ℕ). get_or table i 0 ≡ f i) z (s.there (k / 16) (k % 16) (omega arith) (omega arith))

-- ---- before a unit that GL alone serves: a store in each row, by what the first two rows held

module _ (p q t : ℕ) where
  abbrev pub costs_gl : List ℕ → ℕ → ℕ → ℕ
  costs_gl held g r = get_or (from_gl (get_or held r 0) p (get_or held (16 + r) 0) q t) g 0

  pub gl_column_of : (l : List ℕ) (r a b first second other : ℕ) → r < 16 → length l ≡ 80 → first ≡ min (a + p) (b + t)
      → second ≡ min (b + q) (a + t) → other ≡ min (a + p) (b + q)
      → ColumnFilled (λ g. get_or (from_gl a p b q t) g 0) r 5 l
      (set (set (set (set (set l r first) (16 + r) second) (32 + r) (other + t)) (48 + r) (other + t)) (64 + r) (other + t))
  gl_column_of l r a b first second other hr len e1 e2 e3 =
      let z : 16 * 0 + r ≡ r = omega arith in
      let e = ap (λ (m : ℕ). m + t) e3 in
      let s1 = subst (λ (i : ℕ). ColumnFilled f r 1 l (set l i first)) z (more 0 l first (filled_none (λ g. 16 * g + r) f l) (omega arith) e1) in
      more 4 _ _ (more 3 _ _ (more 2 _ _ (more 1 _ _ s1 (omega arith) e2) (omega arith) e) (omega arith) e) (omega arith) e
    where
      f : ℕ → ℕ
      f g = get_or (from_gl a p b q t) g 0

      more : (m : ℕ) (after : List ℕ) (v : ℕ) → ColumnFilled f r m l after → m < 5 → v ≡ f m
          → ColumnFilled f r (m + 1) l (set after (16 * m + r) v)
      more m after v s h e = filled_more (λ g. 16 * g + r) f m l after v (λ g k z. omega arith) s (omega (arith, s.long)) e

  pub swept_next : {m : ℕ} {before after : List ℕ} → Swept (costs_gl before) m before after → m < 16
      → (get_or after m 0 ≡ get_or before m 0) × (get_or after (16 + m) 0 ≡ get_or before (16 + m) 0)
  swept_next {m} {before} {after} s h =
      let z : 16 * 0 + m ≡ m = omega arith in
      (subst (λ (i : ℕ). get_or after i 0 ≡ get_or before i 0) z (s.kept 0 m (omega arith) h), s.kept 1 m (omega arith) h)

  pub swept_gl : {m : ℕ} {before mid after : List ℕ} → m < 16 → Swept (costs_gl before) m before mid
      → ColumnFilled (λ g. costs_gl mid g m) m 5 mid after
      → Swept (costs_gl before) (m + 1) before after
  swept_gl {m} {before} {mid} {after} h s e =
      let held = swept_next s h in
      swept_more (costs_gl before) (λ g. costs_gl mid g m) m before mid after h
      (λ g. ap₂ (λ (a b : ℕ). get_or (from_gl a p b q t) g 0) held.0 held.1) s e

-- ---- a fact of each of five

pub all_five : (P : ℕ → Type 0) → P 0 → P 1 → P 2 → P 3 → P 4 → (g : ℕ) → g < 5 → P g
all_five P a b c d e g h = at 0 a (λ n0. at 1 b (λ n1. at 2 c (λ n2. at 3 d (λ n3. let z : 4 ≡ g = omega arith in subst P z e))))
  where
    at : (n : ℕ) → P n → ((g ≡ n → ⊥) → P g) → P g
    at n p f = test (eqb g n) (λ q. subst P (sym (eqb-true g n q)) p) (λ q. f (eqb-false g n q))

pub column_at : {costs : List ℕ} {r : ℕ} {v : List ℕ} → r < 16 → ColumnRead costs (r % 16) v → ColumnRead costs r v
column_at {costs} {r} {v} h c = let z : r % 16 ≡ r = omega arith in subst (λ (i : ℕ). ColumnRead costs i v) z c
