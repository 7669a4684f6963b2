-- A block of places, one by one, by a number that is 0 or 1 at each, as a test of its octet is: so far it was 0 at all of them, or the sum is above 0
-- (`Counted`); and blocks one after another (`zero_more`). Of the octets outside of a span that is `Within`.
use Rattle.std.proofs.Common.{◌≡◌, ℕ, ◌+◌, ◌^◌, ◌<◌, ◌≤◌, ltb, List, length, get_or, sym, ◌∙◌, ⊎_elim, eq-or-lt_of_le, arith, ltb-false, ltb-true}
use Rattle.base.proofs.Bools.{pick_by, test}
use Rattle.octet_blocks.specs.Blocks.{outside_of, Within}

-- 0 at every place from one to another
pub record Zero (f : ℕ → ℕ) (at i : ℕ) : Type 0 where
  pub since : at ≤ i
  pub each : (j : ℕ) → at ≤ j → j < i → f j ≡ 0

-- n is the sum at the j places from one on
pub record Counted (f : ℕ → ℕ) (at n j : ℕ) : Type 0 where
  pub few : n ≤ j
  pub none : n ≡ 0 → Zero f at (at + j)

module _ (f : ℕ → ℕ) (at : ℕ) where
  pub zero_none : Zero f at at
  zero_none = record { since = omega arith; each = λ j l m. absurd (omega arith) }

  pub counted_first : Counted f at 0 0
  counted_first =
      let e : at + 0 ≡ at = omega arith in
      record { few = omega arith; none = λ _. rw e zero_none }

  pub zero_more : (i j : ℕ) → Zero f at i → Zero f i j → Zero f at j
  zero_more i j a b =
      record {
        since = omega (arith, a.since, b.since);
        each = λ k l m. test (ltb k i) (λ e. a.each k l (ltb-true k i e)) (λ e. b.each k (ltb-false k i e) m);
      }

  -- one place more
  pub zero_next : (i : ℕ) → Zero f at i → f i ≡ 0 → Zero f at (i + 1)
  zero_next i w o =
      record {
        since = omega (arith, w.since);
        each = λ k l k<.
            ⊎_elim
            (λ (q : k ≡ i). rw q o)
            (λ (q : k < i). w.each k l q)
            (eq-or-lt_of_le (let y : k ≤ i = omega (arith, k<) in y));
      }

  module _ (most : (i : ℕ) → f i ≤ 1) where
    pub counted_next : (n j x : ℕ) → Counted f at n j → x ≡ f (at + j) → Counted f at (n + x) (j + 1)
    counted_next n j x c e =
        let e' : at + (j + 1) ≡ at + j + 1 = omega arith in
        record {
          few = omega (arith, c.few, e, most (at + j));
          none = λ z. rw e' (zero_next (at + j) (c.none (omega arith)) (sym e ∙ (let y : x ≡ 0 = omega arith in y)));
        }

    -- at most 64 are counted, in one octet
    pub counted_fits : (n j x : ℕ) → Counted f at n j → j < 64 → x ≡ f (at + j) → n + x < 2 ^ 8
    counted_fits n j x c h e = omega (arith, c.few, e, most (at + j))

-- ---- octets outside of a span

-- an octet that is not outside
not_outside : (first last b : ℕ) → outside_of first last b ≡ 0 → (first ≤ b) × (b ≤ last)
unfolding outside_of
not_outside first last b =
    pick_by (λ n. n ≡ 0 → (first ≤ b) × (b ≤ last)) (ltb b first) (λ _ k. absurd (omega arith))
    (λ e. pick_by (λ n. n ≡ 0 → (first ≤ b) × (b ≤ last)) (ltb last b) (λ _ k. absurd (omega arith))
    (λ f k. (ltb-false b first e, ltb-false last b f)))

module _ (first last : ℕ) (s : List ℕ) where
  abbrev pub outside_at : ℕ → ℕ
  outside_at i = outside_of first last (get_or s i 0)

  pub outside_most : (i : ℕ) → outside_at i ≤ 1
  unfolding outside_of
  outside_most i =
      let b : ℕ = get_or s i 0 in
      pick_by (λ n. n ≤ 1) (ltb b first) (λ _. omega arith) (λ _. pick_by (λ n. n ≤ 1) (ltb last b) (λ _. omega arith) (λ _. omega arith))

  pub within_zero : (at i : ℕ) → i ≤ length s → Zero outside_at at i → Within first last s at i
  within_zero at i h z =
      record { since = z.since; within = h; each = λ j l m. not_outside first last (get_or s j 0) (z.each j l m) }

  pub within_none : (at : ℕ) → at ≤ length s → Within first last s at at
  within_none at h = within_zero at at h (zero_none outside_at at)

  pub blocks_more : (at i j : ℕ) → Within first last s at i → Within first last s i j → Within first last s at j
  blocks_more at i j a b =
      record {
        since = omega (arith, a.since, b.since);
        within = b.within;
        each = λ k l m. test (ltb k i) (λ e. a.each k l (ltb-true k i e)) (λ e. b.each k (ltb-false k i e) m);
      }

  pub within_less : (at i r : ℕ) → at ≤ i → i ≤ r → Within first last s at r → Within first last s at i
  within_less at i r h k w = record { since = h; within = omega (arith, w.within); each = λ j l m. w.each j l (omega (arith, m)) }
