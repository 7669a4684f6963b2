-- Where a word of n octets stops: the sums of all its octets with one number each, the digits joined, and the highest digit of each octet taken.
-- By induction over the octets, lowest first. The lowest octet of the result follows from the lowest octet of the word alone, by a test that antt
-- computes over 256 octets for the numbers of the code (`serve`). Where that octet is of 21-7E, neither sum carries, so the rest is the same of the
-- octets above.
use Rattle.std.proofs.Common.{◌≡◌, ℕ, zero, suc, ◌+◌, ◌-◌, ◌*◌, ◌/◌, ◌%◌, ◌^◌, ◌<◌, ◌≤◌, Bool, true, false, eqb, ltb, leb, sym, refl, ap, ◌∙◌, ap₂}
use Rattle.std.proofs.Common.{add-zero, mul-one, arith, lit<, ltb-true, eqb-true, leb-true}
use lib.Arith.{lt-one}
use lib.Bits.{bit_and, bit_or, or_block, and_block, or_lt, block_half, block_odd}
use lib.Count.{count_trailing_zeros, under}
use Rattle.base.specs.Choice.{pick}
use Rattle.base.proofs.Bools.{up_to, up_to_lem, test, pick_both, implies, implies_elim}
use Rattle.base.proofs.Ladder.{on_true, on_false}
use Rattle.octet_blocks.specs.Words.{graphic, led_of}

-- ---- a number in each of n octets, and the octets' size and digits

abbrev pub every : ℕ → ℕ → ℕ
every c zero = 0
every c (suc n) = every c n * 256 + c

size : ℕ → ℕ
size zero = 1
size (suc n) = size n * 256

-- j more than k
abbrev longer : ℕ → ℕ → ℕ
longer zero k = k
longer (suc j) k = suc (longer j k)

width : ℕ → ℕ
width zero = 0
width (suc n) = longer 8 (width n)

-- ---- zeros at the low end, octet by octet

-- of j digits r, and t zeros above them
abbrev lowest : ℕ → ℕ → ℕ → ℕ
lowest zero r t = t
lowest (suc j) r t = under (r % 2) (lowest j (r / 2) t)

half_below : (j r : ℕ) → r < 2 ^ suc j → r / 2 < 2 ^ j
half_below j r h = omega arith

trailing_lowest : (j k x r : ℕ) → r < 2 ^ j → count_trailing_zeros (longer j k) (x * 2 ^ j + r) ≡ lowest j r (count_trailing_zeros k x)
unfolding count_trailing_zeros
trailing_lowest zero k x r h = ap (λ (y : ℕ). count_trailing_zeros k (x * 1 + y)) (lt-one h) ∙ ap (count_trailing_zeros k) (add-zero (x * 1) ∙ mul-one x)
trailing_lowest (suc j) k x r h =
    ap₂ (λ (y z : ℕ). under y (count_trailing_zeros (longer j k) z)) (block_odd x j r) (block_half x j r)
    ∙ ap (under (r % 2)) (trailing_lowest j k x (r / 2) (half_below j r h))

-- ---- the lowest octet

-- of an octet b and the numbers that are taken and added: the highest digit of the sums is set where b is not of 21-7E; where it is, nothing is carried
abbrev pub serves_at : ℕ → ℕ → ℕ → Bool
serves_at minus plus b =
    pick (eqb (bit_and (bit_or ((b + (256 - minus)) % 256) ((b + plus) % 256)) 128) (pick (graphic b) 0 128))
    (implies (graphic b) (pick (leb minus b) (ltb (b + plus) 256) false)) false

-- the numbers of the code are octets eight times, and their octets serve at each octet
abbrev pub serve : ℕ → ℕ → ℕ → Bool
serve takes adds mask =
    pick (eqb takes (every (takes % 256) 8))
    (pick (eqb adds (every (adds % 256) 8)) (pick (eqb mask (every 128 8)) (up_to 256 (serves_at (takes % 256) (adds % 256))) false) false) false

parts : (l : ℕ) → l ≡ l / 256 * 2 ^ 8 + l % 256
parts l = omega arith

octet_below : (l : ℕ) → l % 256 < 2 ^ 8
octet_below l = omega arith

pub graphic_low : (b : ℕ) → graphic b ≡ true → (0x21 ≤ b) × (b ≤ 0x7E)
unfolding graphic
graphic_low b e = let p = pick_both _ _ e in (leb-true _ _ p.0, leb-true _ _ p.1)

eighth : (t u : ℕ) → t / 8 ≡ u → longer 8 t / 8 ≡ suc u
eighth t u e = omega arith

module _ (minus plus : ℕ) (few : minus < 256) (all : up_to 256 (serves_at minus plus) ≡ true) where
  at_octet : (w : ℕ) → serves_at minus plus (w % 256) ≡ true
  at_octet w = up_to_lem 256 (serves_at minus plus) all (w % 256) (octet_below w)

  -- an octet of each sum, and the rest where nothing is carried
  taken_low : (l w p q : ℕ) → l + (p * 256 + minus) ≡ w + q * 256 → l % 256 ≡ (w % 256 + (256 - minus)) % 256
  taken_low l w p q i = omega arith

  taken_rest : (l w p q : ℕ) → l + (p * 256 + minus) ≡ w + q * 256 → minus ≤ w % 256 → l / 256 + p ≡ w / 256 + q
  taken_rest l w p q i b = omega arith

  added_low : (h w d p : ℕ) → h + d * 256 ≡ w + (p * 256 + plus) → h % 256 ≡ (w % 256 + plus) % 256
  added_low h w d p i = omega arith

  added_rest : (h w d p : ℕ) → h + d * 256 ≡ w + (p * 256 + plus) → w % 256 + plus < 256 → h / 256 + d ≡ w / 256 + p
  added_rest h w d p i b = omega arith

  low_octet_lem : (w : ℕ) → bit_and (bit_or ((w % 256 + (256 - minus)) % 256) ((w % 256 + plus) % 256)) 128 ≡ pick (graphic (w % 256)) 0 128
  low_octet_lem w = eqb-true _ _ (pick_both _ _ (at_octet w)).0

  no_carry : (w : ℕ) → graphic (w % 256) ≡ true → (minus ≤ w % 256) × (w % 256 + plus < 256)
  no_carry w e =
      let c = pick_both _ _ (implies_elim (graphic (w % 256)) _ (pick_both _ _ (at_octet w)).1 e) in
      (leb-true _ _ c.0, ltb-true _ _ c.1)

-- ---- all octets

-- the highest digit of each of n octets
abbrev stops_of : ℕ → ℕ → ℕ → ℕ
stops_of n l h = bit_and (bit_or l h) (every 128 n)

stops_parts : (n l h : ℕ) → stops_of (suc n) l h ≡ stops_of n (l / 256) (h / 256) * 2 ^ 8 + bit_and (bit_or (l % 256) (h % 256)) 128
stops_parts n l h =
    ap (λ (x : ℕ). bit_and x (every 128 n * 256 + 128))
    (ap₂ bit_or (parts l) (parts h) ∙ or_block 8 (l / 256) (h / 256) (l % 256) (h % 256) (octet_below l) (octet_below h))
    ∙ and_block 8 (bit_or (l / 256) (h / 256)) (every 128 n) (bit_or (l % 256) (h % 256)) 128
    (or_lt 8 (l % 256) (h % 256) (octet_below l) (octet_below h)) (lit< tt)

-- by the lowest octet of the word: the zeros where it is of 21-7E, and where it is not
module _ (n l h w : ℕ) (low : bit_and (bit_or (l % 256) (h % 256)) 128 ≡ pick (graphic (w % 256)) 0 128) where
  zeros : ℕ
  zeros = count_trailing_zeros (width n) (stops_of n (l / 256) (h / 256))

  zeros_by : (r : ℕ) → pick (graphic (w % 256)) 0 128 ≡ r → r < 2 ^ 8 → count_trailing_zeros (width (suc n)) (stops_of (suc n) l h) ≡ lowest 8 r zeros
  unfolding width zeros
  zeros_by r e b =
      ap (count_trailing_zeros (longer 8 (width n)))
      (stops_parts n l h ∙ ap (λ (x : ℕ). stops_of n (l / 256) (h / 256) * 2 ^ 8 + x) (low ∙ e))
      ∙ trailing_lowest 8 (width n) (stops_of n (l / 256) (h / 256)) r b

  led_more : graphic (w % 256) ≡ true → zeros / 8 ≡ led_of n (w / 256) → count_trailing_zeros (width (suc n)) (stops_of (suc n) l h) / 8 ≡ led_of (suc n) w
  unfolding led_of
  led_more e i =
      ap (λ (x : ℕ). x / 8) (zeros_by 0 (sym (on_true _ 0 0 128 e refl)) (lit< tt))
      ∙ on_true _ _ _ _ e (eighth _ _ i)

  led_none : graphic (w % 256) ≡ false → count_trailing_zeros (width (suc n)) (stops_of (suc n) l h) / 8 ≡ led_of (suc n) w
  unfolding led_of
  led_none e = ap (λ (x : ℕ). x / 8) (zeros_by 128 (sym (on_false _ 128 0 128 e refl)) (lit< tt)) ∙ on_false _ _ _ _ e refl

-- what two sums and their octets' highest digits say of a word
module _ (minus plus : ℕ) (few : minus < 256) (all : up_to 256 (serves_at minus plus) ≡ true) where
  led_stops : (n l h w c d : ℕ) → l + every minus n ≡ w + c * size n → h + d * size n ≡ w + every plus n
      → count_trailing_zeros (width n) (stops_of n l h) / 8 ≡ led_of n w
  unfolding size width led_of zeros count_trailing_zeros
  led_stops zero l h w c d i k = refl
  led_stops (suc n) l h w c d i k =
      let i' : l + (every minus n * 256 + minus) ≡ w + c * size n * 256 = omega arith in
      let k' : h + d * size n * 256 ≡ w + (every plus n * 256 + plus) = omega arith in
      let t = taken_low minus plus few all l w (every minus n) (c * size n) i' in
      let a = added_low minus plus few all h w (d * size n) (every plus n) k' in
      let low = ap₂ (λ (x y : ℕ). bit_and (bit_or x y) 128) t a ∙ low_octet_lem minus plus few all w in
      test (graphic (w % 256))
      (λ e. let g = no_carry minus plus few all w e in
      let below = taken_rest minus plus few all l w (every minus n) (c * size n) i' g.0 in
      let above = added_rest minus plus few all h w (d * size n) (every plus n) k' g.1 in
      led_more n l h w low e (led_stops n (l / 256) (h / 256) (w / 256) c d below above))
      (led_none n l h w low)

-- a word of 64 digits
pub led_word : (l h w takes adds mask : ℕ) → (l + takes) % 2 ^ 64 ≡ w → h ≡ (w + adds) % 2 ^ 64 → serve takes adds mask ≡ true
    → count_trailing_zeros 64 (bit_and (bit_or l h) mask) / 8 ≡ led_of 8 w
unfolding size width
led_word l h w takes adds mask i k e =
    let e₁ = pick_both _ _ e in
    let e₂ = pick_both _ _ e₁.1 in
    let e₃ = pick_both _ _ e₂.1 in
    let t = eqb-true takes _ e₁.0 in
    let a = eqb-true adds _ e₂.0 in
    let m = eqb-true mask _ e₃.0 in
    let i' : l + takes ≡ w + (l + takes) / 2 ^ 64 * 2 ^ 64 = omega (arith, i) in
    let k' : h + (w + adds) / 2 ^ 64 * 2 ^ 64 ≡ w + adds = omega (arith, k) in
    ap (λ (x : ℕ). count_trailing_zeros 64 (bit_and (bit_or l h) x) / 8) m
    ∙ led_stops (takes % 256) (adds % 256) (octet_below takes) e₃.1 8 l h w ((l + takes) / 2 ^ 64) ((w + adds) / 2 ^ 64)
    (ap (λ (x : ℕ). l + x) (sym t) ∙ i') (k' ∙ ap (λ (x : ℕ). w + x) a)

-- with the first number taken away by a sum that wraps
pub led_wrapped : (w rest adds mask : ℕ) → w < 2 ^ 64 → rest ≤ 2 ^ 64 → serve (2 ^ 64 - rest) adds mask ≡ true
    → count_trailing_zeros 64 (bit_and (bit_or ((w + rest) % 2 ^ 64) ((w + adds) % 2 ^ 64)) mask) / 8 ≡ led_of 8 w
led_wrapped w rest adds mask few h e = led_word ((w + rest) % 2 ^ 64) ((w + adds) % 2 ^ 64) w (2 ^ 64 - rest) adds mask (omega arith) refl e
