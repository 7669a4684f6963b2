-- Where the quick look at a string stops: of the sum over a block (`Counted`), and octet by octet.
use Rattle.element.proofs.Names.{ℕ, ◌+◌, ◌≤◌, ◌<◌, arith, ◌≡◌, sym, ◌∙◌, List, length, get_or, eqb, eqb-true, ⊎_elim, pick, test}
use native.Mathlib.Nat.{eq-or-lt_of_le}
use Rattle.octet_blocks.proofs.Counted.{Zero, zero_none, zero_more, zero_next}
use Rattle.r5_read.specs.Stops.{is_of, stop_by, stop_at, Free, FirstStop, FirstNull}

-- an octet is one of the three at most
stop_at_most : (b next : ℕ) → stop_by b next ≤ 1
unfolding stop_by is_of pick
stop_at_most b next =
    test (eqb b 0x00)
    (λ e. rw (eqb-true b 0x00 e) (omega arith))
    (λ e. test (eqb b 0x9B)
    (λ f. rw (eqb-true b 0x9B f) (omega arith))
    (λ f. test (eqb b 0x1B)
    (λ g. test (eqb next 0x25) (λ k. rw (e, f, g, k) (omega arith)) (λ k. rw (e, f, g, k) (omega arith)))
    (λ g. rw (e, f, g) (omega arith))))

module _ (s : List ℕ) where
  pub stop_most : (i : ℕ) → stop_at s i ≤ 1
  stop_most i = stop_at_most (get_or s i 0) (get_or s (i + 1) 0)

  -- a block, by its sum
  pub free_zero : (at i : ℕ) → i ≤ length s → Zero (stop_at s) at i → Free s at i
  free_zero at i h z = record { since = z.since; within = h; each = z.each }

  zero_free : {at i : ℕ} → Free s at i → Zero (stop_at s) at i
  zero_free f = record { since = f.since; each = f.each }

  pub free_first : Free s 0 0
  free_first = free_zero 0 0 (omega arith) (zero_none (stop_at s) 0)

  pub free_more : (i j : ℕ) → Free s 0 i → Free s i j → Free s 0 j
  free_more i j a b = free_zero 0 j b.within (zero_more (stop_at s) 0 i j (zero_free a) (zero_free b))

  -- one octet more, at which it does not stop
  pub free_next : (i x : ℕ) → Free s 0 i → i < length s → x ≡ stop_at s i → (x ≡ 1 → ⊥) → Free s 0 (i + 1)
  free_next i x f h e goes =
      let m = stop_most i in
      let z : x ≡ 0 = small x (omega (arith, e, m)) goes in
      free_zero 0 (i + 1) (omega arith) (zero_next (stop_at s) 0 i (zero_free f) (sym e ∙ z))
    where
      small : (x : ℕ) → x ≤ 1 → (x ≡ 1 → ⊥) → x ≡ 0
      small x h goes = omega (arith, goes)

  pub first_stop : (i x : ℕ) → Free s 0 i → x ≡ stop_at s i → x ≡ 1 → FirstStop s i
  first_stop i x f e one = record { free = f; stops = λ _. sym e ∙ one }

  pub stop_end : (i : ℕ) → Free s 0 i → length s ≤ i → FirstStop s i
  stop_end i f h = record { free = f; stops = λ k. absurd (omega arith) }

-- no 00 from a place to another
pub record NoNull (s : List ℕ) (at i : ℕ) : Type 0 where
  pub since : at ≤ i
  pub within : i ≤ length s
  pub each : (j : ℕ) → at ≤ j → j < i → get_or s j 0 ≡ 0 → ⊥

module _ (s : List ℕ) (at : ℕ) where
  pub null_first : at ≤ length s → NoNull s at at
  null_first h = record { since = omega arith; within = h; each = λ j l m. absurd (omega arith) }

  pub null_next : (i : ℕ) → NoNull s at i → i < length s → (get_or s i 0 ≡ 0 → ⊥) → NoNull s at (i + 1)
  null_next i n h other =
      record {
        since = omega (arith, n.since);
        within = omega arith;
        each = λ k l k<.
            ⊎_elim
            (λ (q : k ≡ i). rw q other)
            (λ (q : k < i). n.each k l q)
            (eq-or-lt_of_le (let y : k ≤ i = omega (arith, k<) in y));
      }

  pub null_found : (i : ℕ) → NoNull s at i → get_or s i 0 ≡ 0 → FirstNull s at i
  null_found i n e = record { since = n.since; within = n.within; each = n.each; null = λ _. e }

  pub null_end : (i : ℕ) → NoNull s at i → length s ≤ i → FirstNull s at i
  null_end i n h = record { since = n.since; within = n.within; each = n.each; null = λ k. absurd (omega arith) }
