-- What the count of a word's octets of 21-7E says of the octets that the word was made of: as many of them, from the first on, are of that span.
-- By induction over the octets, the lowest first.
use Rattle.std.proofs.Common.{◌≡◌, ℕ, zero, suc, ◌+◌, ◌-◌, ◌*◌, ◌/◌, ◌%◌, ◌<◌, ◌≤◌, ltb, List, [], ◌∷◌, length, get_or, sym, ap, subst, ap₂, add-zero}
use Rattle.std.proofs.Common.{arith, ltb-false}
use Rattle.base.specs.Choice.{pick}
use Rattle.base.proofs.Bools.{pick_by}
use Rattle.octet_blocks.specs.Blocks.{Within}
use Rattle.octet_blocks.specs.Words.{graphic, led_of, word_of, eight_at, leading_of}
use Rattle.octet_blocks.proofs.Counted.{within_none}
use Rattle.octet_blocks.proofs.Stops.{graphic_low}

pub led_most : (n w : ℕ) → led_of n w ≤ n
unfolding led_of
led_most zero w = omega arith
led_most (suc n) w = pick_by (λ k. k ≤ suc n) _ (λ _. let i = led_most n (w / 256) in omega arith) (λ _. omega arith)

-- the numbers f 0, f 1, ..
abbrev firsts : ℕ → (ℕ → ℕ) → List ℕ
firsts zero f = []
firsts (suc n) f = f 0 ∷ firsts n (λ i. f (suc i))

low_octet_lem : (b w : ℕ) → b < 256 → (b + 256 * w) % 256 ≡ b
low_octet_lem b w h = omega arith

next_octets : (b w : ℕ) → b < 256 → (b + 256 * w) / 256 ≡ w
next_octets b w h = omega arith

led_firsts : (n : ℕ) (f : ℕ → ℕ) → ((i : ℕ) → f i < 256) → (j : ℕ) → j < led_of n (word_of (firsts n f)) → (0x21 ≤ f j) × (f j ≤ 0x7E)
unfolding led_of word_of
led_firsts zero f o j h = absurd (omega arith)
led_firsts (suc n) f o j h =
    let t = word_of (firsts n (λ i. f (suc i))) in
    let h' : j < pick (graphic (f 0)) (suc (led_of n t)) 0
    = subst (λ (k : ℕ). j < k) (ap₂ (λ (b w : ℕ). pick (graphic b) (suc (led_of n w)) 0) (low_octet_lem (f 0) t (o 0)) (next_octets (f 0) t (o 0))) h in
    pick_by (λ k. j < k → (0x21 ≤ f j) × (f j ≤ 0x7E)) (graphic (f 0))
    (λ e. at_each j (graphic_low (f 0) e) (λ k l. led_firsts n (λ i. f (suc i)) (λ i. o (suc i)) k l)) (λ _ l. absurd (omega arith)) h'
  where
    at_each : (j : ℕ) → (0x21 ≤ f 0) × (f 0 ≤ 0x7E)
        → ((k : ℕ) → k < led_of n (word_of (firsts n (λ i. f (suc i)))) → (0x21 ≤ f (suc k)) × (f (suc k) ≤ 0x7E))
        → j < suc (led_of n (word_of (firsts n (λ i. f (suc i))))) → (0x21 ≤ f j) × (f j ≤ 0x7E)
    at_each zero a b l = a
    at_each (suc k) a b l = b k (omega arith)

pub led_octets : (s : List ℕ) (at : ℕ) → ((i : ℕ) → get_or s i 0 < 256) → at + 8 ≤ length s
    → Within 0x21 0x7E s at (at + led_of 8 (word_of (eight_at s at)))
led_octets s at o h =
    let m = led_most 8 (word_of (eight_at s at)) in
    let e : firsts 8 (λ i. get_or s (at + i) 0) ≡ eight_at s at
    = ap (λ (k : ℕ). get_or s k 0 ∷ firsts 7 (λ i. get_or s (at + suc i) 0)) (add-zero at) in
    record {
      since = omega arith;
      within = omega (arith, m);
      each = λ j l k.
          let q : j ≡ at + (j - at) = omega (arith, l) in
          let below : j - at < led_of 8 (word_of (eight_at s at)) = omega (arith, l, k) in
          let r = led_firsts 8 (λ i. get_or s (at + i) 0) (λ i. o (at + i)) (j - at)
          (subst (λ (t : List ℕ). j - at < led_of 8 (word_of t)) (sym e) below) in
          subst (λ (k : ℕ). (0x21 ≤ get_or s k 0) × (get_or s k 0 ≤ 0x7E)) (sym q) r;
    }

-- by what the code has found
module _ (s : List ℕ) (at : ℕ) where
  pub leading_few : (n : ℕ) → n ≡ leading_of s at → n ≤ 8
  unfolding leading_of
  leading_few n e =
      rw e (pick_by (λ k. k ≤ 8) (ltb (length s) at) (λ _. omega arith)
      (λ _. pick_by (λ k. k ≤ 8) (ltb (length s - at) 8) (λ _. omega arith) (λ _. led_most 8 _)))

  pub leading_passed : ((i : ℕ) → get_or s i 0 < 256) → at ≤ length s → (n : ℕ) → n ≡ leading_of s at → Within 0x21 0x7E s at (at + n)
  unfolding leading_of
  leading_passed o h n e =
      let none : Within 0x21 0x7E s at (at + 0) = rw (add-zero at) (within_none 0x21 0x7E s at h) in
      let P : ℕ → Type 0 = λ k. Within 0x21 0x7E s at (at + k) in
      subst P (sym e) (pick_by P (ltb (length s) at) (λ _. none)
      (λ _. pick_by P (ltb (length s - at) 8) (λ _. none) (λ l. led_octets s at o (let r = ltb-false (length s - at) 8 l in omega (arith, r, h)))))
