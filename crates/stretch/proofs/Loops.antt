-- A turn of the loops over a stretch: what is left to pass is one unit less, or nothing.
use Rattle.element.proofs.Names.{ℕ, suc, ◌+◌, ◌*◌, ◌-◌, ◌/◌, ◌%◌, ◌<◌, ◌≤◌, arith, ◌≡◌, refl, ap, sym, ◌∙◌, Bool, true, false, not, List, [], ◌∷◌}
use Rattle.element.proofs.Names.{length, get_or, lt-ltb, le-ltb, pick, from, ladder, on_true, on_false, on_eq, on_ne, on_ge, from_octet, from_end, from_length}
use Rattle.element.proofs.Names.{form_96, form_94x94}
use Rattle.charset.specs.Charsets.{form_94}
use Rattle.element.proofs.Starts.{graphic}
use Rattle.stretch.specs.Characters.{graphic_on, single_of, lead_of, one_at, two_at, singles_of, pairs_of, Within, Four, Along, Spans, Filled, gl_octet}
use Rattle.stretch.specs.Characters.{gr_octet}

pub flip : (b : Bool) → not b ≡ pick b false true
unfolding pick
flip true = refl
flip false = refl

pub ruleset testing = (flip, ladder)

-- ---- units of one octet

module _ (left right : ℕ) (s : List ℕ) (i : ℕ) where
  single_yes : i < length s → single_of left right (get_or s i 0) ≡ true → singles_of left right (from i s) ≡ suc (singles_of left right (from (i + 1) s))
  unfolding lead_of one_at pick
  single_yes h e = rw (from_octet s i h, e)

  pub single_no : i < length s → single_of left right (get_or s i 0) ≡ false → singles_of left right (from i s) ≡ 0
  unfolding lead_of one_at pick
  single_no h e = rw (from_octet s i h, e)

  pub single_end : length s ≤ i → singles_of left right (from i s) ≡ 0
  unfolding lead_of
  single_end h = rw (from_end s i h)

-- ---- along a stretch, of either width

module _ (f : List ℕ → Bool) (w : ℕ) (s : List ℕ) (at : ℕ) where
  pub along_first : at ≤ length s → Along f w s at at
  along_first h = record { since = omega arith; within = h; same = refl }

  -- one stretch after another
  pub along_more : (i j : ℕ) → Along f w s at i → Along f w s i j → Along f w s at j
  along_more i j a b = record { since = omega (arith, a.since, b.since); within = b.within; same = b.same ∙ a.same }

module _ (left right : ℕ) (s : List ℕ) (at : ℕ) where
  along_next : (i : ℕ) → Along (one_at left right) 0 s at i → i < length s → single_of left right (get_or s i 0) ≡ true
      → Along (one_at left right) 0 s at (i + 1)
  along_next i a h e =
      let y = single_yes left right s i h e in
      record { since = omega (arith, a.since); within = omega arith; same = omega (arith, a.same, y) }

  -- an octet, and what stands after it
  pub along_one : (i j : ℕ) → Along (one_at left right) 0 s at i → i < length s → single_of left right (get_or s i 0) ≡ true
      → Along (one_at left right) 0 s (i + 1) j → Along (one_at left right) 0 s at j
  along_one i j a h e b = along_more _ _ _ _ _ _ (along_next i a h e) b

  pub along_last : (i : ℕ) → Along (one_at left right) 0 s at i → singles_of left right (from i s) ≡ 0
      → (i - at ≡ singles_of left right (from at s)) × (at + (i - at) ≤ length s)
  along_last i a e = (omega (arith, a.since, a.same, e), omega (arith, a.since, a.within))

-- ---- octets of a span

module _ (first last : ℕ) (s : List ℕ) (at : ℕ) where
  pub filled_first : at ≤ length s → Filled first last s at at
  filled_first h = record { since = omega arith; within = h; along = λ f w p. along_first f w s at h }

  pub filled_four : (i : ℕ) → Filled first last s at i → 4 ≤ length s - i → Four first last s i → Filled first last s at (i + 4)
  filled_four i a h q =
      record {
        since = omega (arith, a.since);
        within = omega arith;
        along = λ f w p.
            let y = p.four s i h q in
            let x = a.along f w p in
            record { since = omega (arith, a.since); within = omega arith; same = omega (arith, x.same, y) };
      }

-- ---- spans

graphic_on_lem : (side b : ℕ) → b / 128 ≡ side → 0x21 ≤ b % 128 → b % 128 ≤ 0x7E → graphic_on side b ≡ true
unfolding graphic_on
graphic_on_lem side b e h k = sym (on_eq (b / 128) side _ _ _ e (sym (graphic (b % 128) h k)))

graphic_right : (b : ℕ) → Within 0xA1 0xFE b → graphic_on 1 b ≡ true
graphic_right b w = graphic_on_lem 1 b (omega (arith, w.low, w.high)) (omega (arith, w.low, w.high)) (omega (arith, w.low, w.high))

graphic_left : (b : ℕ) → Within 0x21 0x7E b → graphic_on 0 b ≡ true
graphic_left b w = graphic_on_lem 0 b (omega (arith, w.high)) (omega (arith, w.low, w.high)) (omega (arith, w.high))

module _ (left right : ℕ) where
  -- four units of one octet
  ones : (first last : ℕ) → ((b : ℕ) → Within first last b → single_of left right b ≡ true) → Spans (one_at left right) 0 first last
  ones first last each =
      record {
        four = λ s i h q.
            let a = single_yes left right s i (omega arith) (each _ q.one) in
            let b = single_yes left right s (i + 1) (omega arith) (each _ q.two) in
            let c = single_yes left right s (i + 1 + 1) (omega arith) (each _ q.three) in
            let d = single_yes left right s (i + 1 + 1 + 1) (omega arith) (each _ q.four) in
            let e : i + 1 + 1 + 1 + 1 ≡ i + 4 = omega arith in
            let z = rw e at d in
            omega (arith, a, b, c, z);
      }

  pub gl_span : (left ≡ form_94x94 → ⊥) → Spans (one_at left right) 0 0x20 0x7E
  unfolding single_of gl_octet
  gl_span n =
      ones 0x20 0x7E
      (λ b w. sym
      (on_true _ _ _ _ (sym (on_ge b 0x20 _ _ _ w.low (sym (lt-ltb b 0x7F (omega (arith, w.high))))))
      (on_ne left form_94x94 _ _ _ n refl)))

  -- a GR octet is no GL octet, tab or newline
  gr_single : (b : ℕ) → 0xA0 ≤ b → gr_octet right b ≡ true → single_of left right b ≡ true
  unfolding single_of gl_octet
  gr_single b h e =
      sym
      (on_false _ _ _ _ (sym (on_ge b 0x20 _ _ _ (omega arith) (sym (le-ltb b 0x7F (omega arith)))))
      (on_ge b 0x0B _ _ _ (omega arith) (sym e)))

  pub gr_span_96 : right ≡ form_96 → Spans (one_at left right) 0 0xA0 0xFF
  unfolding gr_octet
  gr_span_96 e =
      ones 0xA0 0xFF (λ b w. gr_single b w.low (sym (on_ge b 0xA0 _ _ _ w.low (on_eq right form_96 _ _ _ e refl))))

  pub gr_span_94 : right ≡ form_94 → Spans (one_at left right) 0 0xA1 0xFE
  unfolding gr_octet
  gr_span_94 e =
      ones 0xA1 0xFE
      (λ b w.
      let l = w.low in
      gr_single b (omega arith)
      (sym
      (on_ge b 0xA0 _ _ _ (omega arith)
      (on_ne right form_96 _ _ _ (λ q. omega arith) (on_eq right form_94 _ _ _ e (sym (graphic_right b w)))))))

-- ---- characters of two octets

pub two_octets : (s : List ℕ) (i : ℕ) → 1 < length s - i → from i s ≡ get_or s i 0 ∷ get_or s (i + 1) 0 ∷ from (i + 2) s
two_octets s i h =
    let e : i + 1 + 1 ≡ i + 2 = omega arith in
    from_octet s i (omega arith) ∙ ap (λ (t : List ℕ). get_or s i 0 ∷ t)
    (from_octet s (i + 1) (omega arith) ∙ ap (λ (n : ℕ). get_or s (i + 1) 0 ∷ from n s) e)

module _ (side : ℕ) (s : List ℕ) (i : ℕ) where
  pair_yes : 1 < length s - i → graphic_on side (get_or s i 0) ≡ true → graphic_on side (get_or s (i + 1) 0) ≡ true
      → pairs_of side (from i s) ≡ suc (pairs_of side (from (i + 2) s))
  unfolding lead_of two_at pick
  pair_yes h a b = rw (two_octets s i h, a, b)

  pub pair_no : 1 < length s - i → graphic_on side (get_or s i 0) ≡ false → pairs_of side (from i s) ≡ 0
  unfolding lead_of two_at pick
  pair_no h a = rw (two_octets s i h, a)

  pub pair_not : 1 < length s - i → graphic_on side (get_or s i 0) ≡ true → graphic_on side (get_or s (i + 1) 0) ≡ false → pairs_of side (from i s) ≡ 0
  unfolding lead_of two_at pick
  pair_not h a b = rw (two_octets s i h, a, b)

  pair_one : (t : List ℕ) → length t ≤ 1 → pairs_of side t ≡ 0
  unfolding lead_of two_at pick
  pair_one [] h = refl
  pair_one (b ∷ []) h = refl
  pair_one (b ∷ d ∷ t) h = absurd (omega arith)

  pub pair_end : length s - i ≤ 1 → pairs_of side (from i s) ≡ 0
  pair_end h = pair_one (from i s) (rw (from_length s i) h)

module _ (side : ℕ) (s : List ℕ) (at i : ℕ) (a : Along (two_at side) 1 s at i) where
  pub along_pair : 1 < length s - i → graphic_on side (get_or s i 0) ≡ true → graphic_on side (get_or s (i + 1) 0) ≡ true
      → Along (two_at side) 1 s at (i + 2)
  along_pair h g k =
      let y = pair_yes side s i h g k in
      record { since = omega (arith, a.since); within = omega arith; same = omega (arith, a.same, y) }

  pub pairs_last : pairs_of side (from i s) ≡ 0 → ((i - at) / 2 ≡ pairs_of side (from at s)) × (at + 2 * ((i - at) / 2) ≤ length s)
  pairs_last e =
      let z : i ≡ at + 2 * pairs_of side (from at s) = omega (arith, a.same, e) in
      (omega (arith, z), omega (arith, a.since, a.within))

-- two characters of two octets
twos : (side first last : ℕ) → ((b : ℕ) → Within first last b → graphic_on side b ≡ true) → Spans (two_at side) 1 first last
twos side first last each =
    record {
      four = λ s i h q.
          let a = pair_yes side s i (omega arith) (each _ q.one) (each _ q.two) in
          let e : i + 1 + 1 ≡ i + 2 = omega arith in
          let x = rw e at q.three in
          let y = rw e at q.four in
          let b = pair_yes side s (i + 2) (omega arith) (each _ x) (each _ y) in
          let f : i + 2 + 2 ≡ i + 4 = omega arith in
          let z = rw f at b in
          omega (arith, a, z);
    }

pub left_span : (side : ℕ) → side ≡ 0 → Spans (two_at side) 1 0x21 0x7E
left_span side e = rw e (twos 0 0x21 0x7E graphic_left)

pub right_span : (side : ℕ) → side ≡ 1 → Spans (two_at side) 1 0xA1 0xFE
right_span side e = rw e (twos 1 0xA1 0xFE graphic_right)
