-- The units of a span are those that `advance` gives, one after another from the cursor on (`span_turns`). For what the octets are taken for is
-- what `advance` takes them for, and a tab or a newline is the element that stands there. A span has one unit or more (`span_first`) and
-- no more than are asked for (`span_most`), and they are in the string (`span_fits`). Characters of two octets in GL and in GR are one case (`Twos`).
use Rattle.element.proofs.Names.{ℕ, zero, suc, ◌+◌, ◌-◌, ◌*◌, ◌/◌, ◌%◌, ◌^◌, ◌≤◌, ◌<◌, arith, ◌≡◌, refl, ap, sym, ◌∙◌, Bool, true, false, List, ◌∷◌}
use Rattle.element.proofs.Names.{eqb, leb, ltb, length, get_or, eqb-true, ltb-true, ltb-false, leb-true, leb-false, le-ltb, le-leb, pick, off, test, tested}
use Rattle.element.proofs.Names.{pick_by, pick_last, from, on_false, on_ne, on_lt, on_ge, from_octet, UnitRecord, no_set, first_double, step_of, part}
use Rattle.element.proofs.Names.{State, Sets, Found}
use Rattle.state.specs.Directions.{in_force_of}
use native.Mathlib.Nat.{mod-eq_of_lt}
use Rattle.base.specs.Kind as kind
use Rattle.base.specs.Limit as limit
use Rattle.element.specs.Element.{shape_of, stepped_of, directed_of, element_of}
use Rattle.element.specs.Start.{start_of, begun_by}
use Rattle.element.proofs.Sizes.{found}
use Rattle.grammar.proofs.Places.{at_passed}
use Rattle.units.specs.Next.{outcome_of, next_of}
use Rattle.cursor.specs.Cursor.{state_in, placed_at, turn, outcome_turn, element_turn, mark_of, marked_turn, text_octet, set_at, kind_at, if_graphic, one_of}
use Rattle.cursor.specs.Cursor.{double_of}
use Rattle.cursor.specs.Cursor.{octet_of, quick_of, text_turn, advance_at, advance_of}
use Rattle.cursor.specs.declared.Cursor.{Cursor}
use Rattle.cursor.specs.declared.Turn.{Turn}
use Rattle.cursor.proofs.Rules.{on_mark, on_quick, on_text, on_double, on_advance}
use Rattle.spans.specs.Spans.{any, ones, left_twos, right_twos, single_under, left_first, has_two, form_at, lesser_of, any_of, of_form, by_form, span_of, Fits}
use Rattle.spans.specs.Spans.{moved_of, stands_after, one_unit_at, two_octet_unit_at, unit_after}
use Rattle.spans.specs.declared.Span.{Span}

-- ---- what an octet is taken for

-- text of the set on its side
record Text (b set : ℕ) (to : Sets) : Type 0 where
  high : 0x20 ≤ b
  is : text_octet b ≡ true
  of : set ≡ set_at b to

left : (b : ℕ) (to : Sets) → 0x20 ≤ b → b < 0x7F → Text b to.gl to
unfolding text_octet set_at
left b to h k =
    record {
      high = h;
      is = sym (on_ge b 0x20 _ _ _ h (on_lt b 0x7F _ _ _ k refl));
      of = on_lt b 0x80 _ _ _ (omega (arith, k)) refl;
    }

right : (b : ℕ) (to : Sets) → 0xA0 ≤ b → Text b to.gr to
unfolding text_octet set_at
right b to h =
    record {
      high = omega (arith, h);
      is = sym (on_ge b 0x20 _ _ _ (omega (arith, h)) (on_ge b 0x7F _ _ _ (omega (arith, h)) (sym (le-leb 0xA0 b h))));
      of = on_ge b 0x80 _ _ _ (omega (arith, h)) refl;
    }

-- an octet by itself
data Single (b : ℕ) (to : Sets) : Type 0 where
  tab : b ≡ 0x09 → Single b to
  newline : b ≡ 0x0A → Single b to
  text : (set : ℕ) → Text b set to → set < first_double → Single b to

singled : (b : ℕ) (to : Sets) → single_under b to ≡ true → Single b to
unfolding single_under
singled b to =
    let P : Bool → Type 0 = λ x. x ≡ true → Single b to in
    pick_by P _
    (λ _. pick_by P _ (λ _ e. off e)
    (λ h e. test (eqb b 0x09) (λ i. tab (eqb-true b 0x09 i)) (λ i. newline (omega (tested, h, e, i)))))
    (λ h. pick_by P _ (λ k e. text to.gl (left b to (omega (tested, h)) (omega (tested, k))) (omega (tested, e)))
    (λ _. pick_by P _ (λ _ e. off e) (λ k e. text to.gr (right b to (omega (tested, k))) (omega (tested, e)))))

-- ---- the turn there
module _ (s : List ℕ) (at : ℕ) (c : Cursor) (inside : at < length s) where
  abbrev b : ℕ
  b = get_or s at 0

  abbrev st : State
  st = state_in c

  abbrev force : ℕ
  force = in_force_of st.directions

  abbrev depth : ℕ
  depth = c.depth

  abbrev here : Cursor
  here = placed_at at c

  -- the unit there, of so many octets
  abbrev Gives : UnitRecord → ℕ → Type 0
  Gives u octets = turn u (placed_at (at + octets) c) ≡ advance_of s here

  -- an octet that is not an escape: the unit is that of text, or the element's
  plain_turn : (r : Turn) → (b ≡ 0x1B → ⊥) → r ≡ quick_of at (b ∷ from (at + 1) s) st (marked_turn s here) → r ≡ advance_of s here
  unfolding advance_at text_turn
  plain_turn r n e = on_advance s at here r inside (on_ne b 0x1B _ _ _ n (on_quick s at st (marked_turn s here) r inside e))

  one_text : (set : ℕ) → Text b set st.sets → set < first_double → Gives (one_unit_at s at c) 1
  unfolding octet_of
  one_text set t l =
      plain_turn _ (λ q. omega (arith, q, t.high))
      (rw (← t.of) (on_text at b _ set st (marked_turn s here) _ t.is t.of (on_lt set first_double _ _ _ l refl)))

  two_text : (set : ℕ) → Text b set st.sets → 0x20 < b → at + 1 < length s → has_two set ≡ true
      → Gives (two_octet_unit_at s at set c) 2
  unfolding octet_of double_of has_two
  two_text set t k h e =
      let two = pick_last (ltb set first_double) (ltb set no_set) e in
      plain_turn _ (λ q. omega (arith, q, k))
      (on_text at b _ set st (marked_turn s here) _ t.is t.of
      (on_ge set first_double _ _ _ (ltb-false set first_double two.0)
      (on_double s at b set st (marked_turn s here) _ h
      (on_ne b 0x20 _ _ _ (λ q. omega (arith, q, k)) (on_lt set no_set _ _ _ (ltb-true set no_set two.1) refl)))))

  module _ (short : length s ≤ limit.octets) where
    -- an element of one octet and kind k that leaves the state
    abbrev blank_record : ℕ → UnitRecord
    blank_record k = record { kind = k; set = 0; code = 0; start = at % 2 ^ 32; length = 1; direction = force; depth = depth }

    blank-element : (k : ℕ) → element_of (from at s) st ≡ Found (part k 0 0 0 1 false) st → (u : UnitRecord) → u ≡ blank_record k
        → turn u (placed_at (at + 1) c) ≡ element_turn s here
    unfolding element_turn next_of outcome_of outcome_turn pick
    blank-element k i u g =
        let m : at % 2 ^ 32 ≡ at + 0 = mod-eq_of_lt (omega (arith, inside, short)) ∙ (let z : at ≡ at + 0 = omega arith in z) in
        let z : at + 1 ≡ at + (0 + 1) = omega arith in
        rw (g, le-ltb limit.octets (length s) short, at_passed s at st _ refl found i, m, z)

    -- the octet x of kind k, which is neither text nor mark
    blank_turn : (x k : ℕ) → b ≡ x → (x ≡ 0x1B → ⊥) → (x ≡ 0x9B → ⊥) → text_octet x ≡ false
        → one_of at x (set_at x st.sets) force depth ≡ blank_record k
        → ((t : List ℕ) → element_of (x ∷ t) st ≡ Found (part k 0 0 0 1 false) st)
        → Gives (one_unit_at s at c) 1
    unfolding quick_of mark_of marked_turn
    blank_turn x k e n q t g f =
        let r = turn (one_unit_at s at c) (placed_at (at + 1) c) in
        let i : element_of (from at s) st ≡ Found (part k 0 0 0 1 false) st = rw (from_octet s at inside, e) (f _) in
        plain_turn r (rw e n) (on_false (text_octet b) _ _ _ (rw e t)
        (on_ge limit.octets (length s) _ _ _ short (on_mark s at st (element_turn s here) r inside
        (on_ne b 0x9B _ _ _ (rw e q) (blank-element k i _ (rw e g))))))

    one-by : Single b st.sets → Gives (one_unit_at s at c) 1
    unfolding shape_of start_of begun_by directed_of stepped_of step_of text_octet kind_at if_graphic pick
    one-by (tab i) = blank_turn 0x09 kind.tab i (λ q. omega arith) (λ q. omega arith) refl refl (λ _. refl)
    one-by (newline i) = blank_turn 0x0A kind.newline i (λ q. omega arith) (λ q. omega arith) refl refl (λ _. refl)
    one-by (text set t l) = one_text set t l

-- ---- the spans

pub least : (m n : ℕ) → (lesser_of m n ≤ m) × ((lesser_of m n ≤ n) × (1 ≤ m → 1 ≤ n → 1 ≤ lesser_of m n))
unfolding lesser_of
least m n =
    pick_by (λ x. (x ≤ m) × ((x ≤ n) × (1 ≤ m → 1 ≤ n → 1 ≤ x))) (ltb m n) (λ e. (omega arith, (omega (tested, e), λ i j. i)))
    (λ e. (omega (tested, e), (omega arith, λ i j. j)))

module _ (s : List ℕ) (c : Cursor) (n : ℕ) where
  abbrev to : Sets
  to = (state_in c).sets

  abbrev octets : ℕ
  octets = length s - c.place

  abbrev octet : ℕ
  octet = get_or s c.place 0

  -- a form of two octets, the set on its side, and the test of a first octet: the test of each unit, the unit, the cursor after it
  record Twos (form set : ℕ) (first : ℕ → Bool) : Type 0 where
    stands : (m j : ℕ) → stands_after s (of_form c form m) j ≡ first (get_or s (c.place + 2 * j) 0)
    unit : (m j : ℕ) → unit_after s (of_form c form m) j ≡ two_octet_unit_at s (c.place + 2 * j) set c
    moved : (m j : ℕ) → moved_of (of_form c form m) j ≡ placed_at (c.place + 2 * j) c
    two : ones < form
    starts : (b : ℕ) → first b ≡ true → (0x20 < b) × Text b set to

  in_left : Twos left_twos c.gl left_first
  unfolding stands_after unit_after moved_of by_form left_first pick
  in_left =
      record {
        stands = λ m j. refl;
        unit = λ m j. refl;
        moved = λ m j. refl;
        two = omega arith;
        starts = λ b e. (let k = pick_last (leb b 0x20) (ltb b 0x7F) e in
            (leb-false b 0x20 k.0, left b to (omega (tested, k.0)) (ltb-true b 0x7F k.1)));
      }

  in_right : Twos right_twos c.gr (leb 0xA0)
  unfolding stands_after unit_after moved_of by_form pick
  in_right =
      record {
        stands = λ m j. refl;
        unit = λ m j. refl;
        moved = λ m j. refl;
        two = omega arith;
        starts = λ b e. (omega (tested, e), right b to (leb-true 0xA0 b e));
      }

  -- the span at a cursor, by the octet there
  data Spans : Span → Type 0 where
    as-any : Spans (any_of s c)
    as-ones : c.place < length s → single_under octet to ≡ true → Spans (of_form c ones (lesser_of octets n))
    as-twos : {form set m : ℕ} {first : ℕ → Bool} → Twos form set first → 2 ≤ octets → 2 * m ≤ octets → (1 ≤ n → (m ≤ n) × (1 ≤ m))
        → first octet ≡ true → has_two set ≡ true → Spans (of_form c form m)

  -- so many characters of two are in the string
  halves : 2 ≤ octets → (2 * lesser_of (octets / 2) n ≤ octets) × (1 ≤ n → (lesser_of (octets / 2) n ≤ n) × (1 ≤ lesser_of (octets / 2) n))
  halves h = let k = least (octets / 2) n in (omega (arith, k.0), λ i. (k.1.0, k.1.1 (omega (arith, h)) i))

  by_left : left_first octet ≡ true → has_two c.gl ≡ true → Spans (by_form s c n left_twos octets)
  unfolding by_form pick
  by_left l t =
      pick_by Spans (ltb octets 2) (λ _. as-any)
      (λ k. (let h = ltb-false octets 2 k in as-twos in_left h (halves h).0 (halves h).1 l t))

  by_right : leb 0xA0 octet ≡ true → has_two c.gr ≡ true → Spans (by_form s c n right_twos octets)
  unfolding by_form pick
  by_right l t =
      pick_by Spans (ltb octets 2) (λ _. as-any)
      (λ k. (let h = ltb-false octets 2 k in as-twos in_right h (halves h).0 (halves h).1 l t))

  by_ones : c.place < length s → single_under octet to ≡ true → Spans (by_form s c n ones octets)
  unfolding by_form pick
  by_ones h e = as-ones h e

  by_any : Spans (by_form s c n any octets)
  unfolding by_form pick
  by_any = as-any

  spanned : Spans (span_of s c n)
  unfolding span_of form_at
  spanned =
      let P : ℕ → Type 0 = λ f. Spans (by_form s c n f octets) in
      pick_by Spans (leb (length s) c.place) (λ _. as-any)
      (λ h. pick_by P (single_under octet to) (λ e. by_ones (leb-false (length s) c.place h) e)
      (λ _. pick_by P (left_first octet) (λ l. pick_by P (has_two c.gl) (λ t. by_left l t) (λ _. by_any))
      (λ _. pick_by P (ltb octet 0xA0) (λ _. by_any)
      (λ l. pick_by P (has_two c.gr) (λ t. by_right (le-leb 0xA0 octet (ltb-false octet 0xA0 l)) t) (λ _. by_any)))))

  -- ---- its units are in the string, and there is one
  fits_by : {r : Span} → Spans r → Fits s r
  fits_by as-any = record {
    of_ones = λ e. absurd (let z : ◌≡◌ {A = ℕ} any ones = e in omega (arith, z));
    of_twos = λ e. absurd (let z : ones < any = e in omega (arith, z));
  }
  fits_by (as-ones h e) =
      record { of_ones = λ _. omega (arith, h, (least octets n).0); of_twos = λ e. absurd (let z : ones < ones = e in omega (arith, z)) }
  fits_by (as-twos w h i k l t) = record { of_ones = λ e. absurd (omega (arith, e, w.two)); of_twos = λ _. omega (arith, h, i) }

  most_by : {r : Span} → 1 ≤ n → Spans r → (r.most ≤ n) × (1 ≤ r.most)
  most_by i as-any = (i, omega arith)
  most_by i (as-ones h e) = ((least octets n).1.0, (least octets n).1.1 (omega (arith, h)) i)
  most_by i (as-twos w h u k l t) = k i

  none : c.place ≡ c.place + 0
  none = omega arith

  nothing : c.place ≡ c.place + 2 * 0
  nothing = omega arith

  first_by : {r : Span} → Spans r → stands_after s r 0 ≡ true
  unfolding stands_after pick
  first_by as-any = refl
  first_by (as-ones h e) = rw (← none) e
  first_by (as-twos w h i k l t) = rw (w.stands _ 0, ← nothing) l

  pub span_fits : Fits s (span_of s c n)
  span_fits = fits_by spanned

  pub span_most : 1 ≤ n → (span_of s c n).most ≤ n
  span_most i = (most_by i spanned).0

  pub span_some : 1 ≤ n → 1 ≤ (span_of s c n).most
  span_some i = (most_by i spanned).1

  pub span_first : stands_after s (span_of s c n) 0 ≡ true
  span_first = first_by spanned

  -- ---- the cursor at which the unit after j units stands, and that unit
  abbrev pub stood : Span → ℕ → Cursor
  stood r zero = c
  stood r (suc j) = moved_of r (suc j)

  ones_at : (m j : ℕ) → stood (of_form c ones m) j ≡ placed_at (c.place + j) c
  unfolding moved_of pick
  ones_at m zero = ap (λ (p : ℕ). placed_at p c) none
  ones_at m (suc j) = refl

  twos_at : {form set : ℕ} {first : ℕ → Bool} → Twos form set first → (m j : ℕ)
      → stood (of_form c form m) j ≡ placed_at (c.place + 2 * j) c
  twos_at w m zero = ap (λ (p : ℕ). placed_at p c) nothing
  twos_at w m (suc j) = w.moved m (suc j)

  any_by : (j : ℕ) → j < 1 → turn (unit_after s (any_of s c) j) (stood (any_of s c) (suc j)) ≡ advance_of s (stood (any_of s c) j)
  unfolding unit_after moved_of pick
  any_by zero h = refl
  any_by (suc j) h = absurd (omega (arith, h))

  module _ (short : length s ≤ limit.octets) where
    turns-by : {r : Span} → Spans r → (j : ℕ) → j < r.most → stands_after s r j ≡ true
        → turn (unit_after s r j) (stood r (suc j)) ≡ advance_of s (stood r j)
    unfolding stands_after unit_after pick
    turns-by as-any j h e = any_by j h
    turns-by (as-ones k i) j h e =
        let on : c.place + j + 1 ≡ c.place + suc j = omega arith in
        rw (ones_at (lesser_of octets n) j, ones_at (lesser_of octets n) (suc j), ← on)
        (one-by s (c.place + j) c (omega (arith, h, k, (least octets n).0)) short (singled _ to e))
    turns-by (as-twos {m = m} w i k f l t) j h e =
        let on : c.place + 2 * j + 2 ≡ c.place + 2 * suc j = omega arith in
        let in-string : c.place + 2 * j + 1 < length s = omega (arith, h, i, k) in
        let first = w.starts (get_or s (c.place + 2 * j) 0) (sym (w.stands m j) ∙ e) in
        rw (w.unit m j, twos_at w m j, twos_at w m (suc j), ← on)
        (two_text s (c.place + 2 * j) c (omega (arith, in-string)) _ first.1 first.0 in-string t)

    pub span_turns : (j : ℕ) → j < (span_of s c n).most → stands_after s (span_of s c n) j ≡ true
        → turn (unit_after s (span_of s c n) j) (stood (span_of s c n) (suc j)) ≡ advance_of s (stood (span_of s c n) j)
    span_turns j h e = turns-by spanned j h e
