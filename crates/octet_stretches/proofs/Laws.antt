-- Stretches as the code finds them: where they end (`fits`), units of one octet by their entries (`ones_one`, `ones_four`), characters of two octets
-- of a span (`doubles_pass`, `doubles_on`). Each is a constructor of `Stretched`, with its numbers as the code has them (`by_numbers`).
use Rattle.element.proofs.Names.{ℕ, ◌+◌, ◌-◌, ◌*◌, ◌/◌, ◌%◌, ◌≤◌, arith, ◌≡◌, refl, sym, subst, List, length, test, ltb, ltb-true, ltb-false}
use Rattle.std.proofs.Common.{◌<◌, ◌∙◌, get_or, take}
use Rattle.std.proofs.lemmas.List.{get_or-take}
use Rattle.octet_blocks.specs.Blocks.{Within}
use Rattle.octet_blocks.proofs.Counted.{within_less}
use Rattle.octet_stretches.specs.Stretched.{Entry, Ones, Stretched}
use Rattle.octet_stretches.specs.Stretched as by

-- an entry by its number
pub entry_is : {row s : List ℕ} {at k n : ℕ} → k ≡ n → Entry row s at k → Entry row s at n
entry_is {row = row} {s = s} {at = at} e c = subst (Entry row s at) e c

module _ {row s : List ℕ} where
  -- a unit has an octet at least, and where the place is in the string they all are
  pub fits : {at i n : ℕ} → Stretched row s at i n → (at + n ≤ i) × (at ≤ length s → i ≤ length s)
  fits by.none = (omega arith, λ h. h)
  fits (by.more a b) = let x = fits a in let y = fits b in (omega (arith, x.0, y.0), λ h. y.1 (x.1 h))
  fits (by.ones o) = (omega (arith, o.since), o.within)
  fits (by.ones_left h e w) = (omega (arith, w.since), λ _. w.within)
  fits (by.ones_94 e w) = (omega (arith, w.since), λ _. w.within)
  fits (by.ones_96 e f w) = (omega (arith, w.since), λ _. w.within)
  fits (by.two h l a b) = (omega arith, λ _. omega (arith, b.inside))
  fits (by.twos_left e w) = (omega arith, λ _. w.within)
  fits (by.twos_right e w) = (omega arith, λ _. w.within)

  -- the same, where the numbers are written in another way
  pub by_numbers : {at i j n m : ℕ} → i ≡ j → n ≡ m → Stretched row s at i n → Stretched row s at j m
  by_numbers {at = at} {i = i} {m = m} e f a = subst (λ (k : ℕ). Stretched row s at k m) e (subst (Stretched row s at i) f a)

  -- ---- units of one octet, by their entries

  pub ones_none : (at : ℕ) → Ones row s at at
  ones_none at = record { since = omega arith; within = λ h. h; each = λ j l m. absurd (omega arith) }

  pub ones_both : {at i j : ℕ} → Ones row s at i → Ones row s i j → Ones row s at j
  ones_both {i = i} a b =
      record {
        since = omega (arith, a.since, b.since);
        within = λ h. b.within (a.within h);
        each = λ k l m. test (ltb k i) (λ e. a.each k l (ltb-true k i e)) (λ e. b.each k (ltb-false k i e) m);
      }

  pub ones_one : {at k : ℕ} → Entry row s at k → k ≤ 4 → Ones row s at (at + 1)
  ones_one {at = at} c h =
      record {
        since = omega arith;
        within = λ _. omega (arith, c.inside);
        each = λ j l m. let e : j ≡ at = omega arith in rw e (c.octet, rw (← c.is) h);
      }

  pub ones_four : {at k l m n : ℕ} → Entry row s at k → k ≤ 4 → Entry row s (at + 1) l → l ≤ 4 → Entry row s (at + 2) m → m ≤ 4
      → Entry row s (at + 3) n → n ≤ 4 → Ones row s at (at + 4)
  ones_four {at = at} a ha b hb c hc d hd =
      let e : at + 1 + 1 ≡ at + 2 = omega arith in
      let f : at + 2 + 1 ≡ at + 3 = omega arith in
      let g : at + 3 + 1 ≡ at + 4 = omega arith in
      let two = subst (Ones row s at) e (ones_both (ones_one a ha) (ones_one b hb)) in
      let three = subst (Ones row s at) f (ones_both two (ones_one c hc)) in
      subst (Ones row s at) g (ones_both three (ones_one d hd))

  -- those of blocks, and then those by their entries
  pub ones_more : {at i j : ℕ} → Stretched row s at i (i - at) → Ones row s i j → Stretched row s at (at + (j - at)) (j - at)
  ones_more a o = let h = (fits a).0 in by_numbers (omega (arith, h, o.since)) (omega (arith, h, o.since)) (by.more a (by.ones o))

  -- ---- characters of two octets of a span

  pub twos_gl : {at k m n : ℕ} → Entry row s at k → k ≡ 5 → Within 0x21 0x7E s at (at + m) → m ≡ 2 * n → Stretched row s at (at + m) n
  twos_gl {at = at} {n = n} c e w f =
      subst (λ (j : ℕ). Stretched row s at (at + j) n) (sym f) (by.twos_left (entry_is e c) (subst (λ (j : ℕ). Within 0x21 0x7E s at (at + j)) f w))

  pub twos_gr : {at k m n : ℕ} → Entry row s at k → k ≡ 6 → Within 0xA1 0xFE s at (at + m) → m ≡ 2 * n → Stretched row s at (at + m) n
  twos_gr {at = at} {n = n} c e w f =
      subst (λ (j : ℕ). Stretched row s at (at + j) n) (sym f) (by.twos_right (entry_is e c) (subst (λ (j : ℕ). Within 0xA1 0xFE s at (at + j)) f w))

  -- in GL, where the octets up to a place are of their span, and what follows them
  module _ {at i m n : ℕ} (c : Entry row s at 5) (w : Within 0x21 0x7E s at i) (e : m ≡ 2 * n) (f : n ≡ (i - at) / 2) where
    pub doubles_pass : Stretched row s at (at + m) n
    doubles_pass = twos_gl c refl (within_less 0x21 0x7E s at (at + m) i (omega arith) (omega (arith, e, f, w.since)) w) e

    pub doubles_on : (i - at) % 2 ≡ 0 → (l k : ℕ) → Stretched row s i (i + l) k → Stretched row s at (at + (m + l)) (n + k)
    doubles_on even l k p =
        let g : i ≡ at + m = omega (arith, e, f, w.since, even) in
        by_numbers (omega arith) refl (by.more doubles_pass (rw g at p))

-- ---- a row of 256 entries that is the first part of a longer one

entry_part : (row part : List ℕ) → part ≡ take 256 row → (i : ℕ) → i < 256 → get_or part i 0 ≡ get_or row i 0
entry_part row part same i h = rw (same, get_or-take 256 row i 0 h)

module _ {row part s : List ℕ} (same : part ≡ take 256 row) where
  pub entry_whole : {at k : ℕ} → Entry part s at k → Entry row s at k
  entry_whole c = record { inside = c.inside; octet = c.octet; is = c.is ∙ entry_part row part same _ c.octet }

  pub ones_whole : {at i : ℕ} → Ones part s at i → Ones row s at i
  ones_whole o =
      record {
        since = o.since;
        within = o.within;
        each = λ j l m. let e = o.each j l m in (e.0, rw (entry_part row part same _ e.0) at e.1);
      }

  pub stretched_whole : {at i n : ℕ} → Stretched part s at i n → Stretched row s at i n
  stretched_whole by.none = by.none
  stretched_whole (by.more a b) = by.more (stretched_whole a) (stretched_whole b)
  stretched_whole (by.ones o) = by.ones (ones_whole o)
  stretched_whole (by.ones_left h e w) = by.ones_left h (entry_whole e) w
  stretched_whole (by.ones_94 e w) = by.ones_94 (entry_whole e) w
  stretched_whole (by.ones_96 e f w) = by.ones_96 (entry_whole e) (rw (entry_part row part same 0xA0 (omega arith)) at f) w
  stretched_whole (by.two h l a b) = by.two h l (entry_whole a) (entry_whole b)
  stretched_whole (by.twos_left e w) = by.twos_left (entry_whole e) w
  stretched_whole (by.twos_right e w) = by.twos_right (entry_whole e) w
