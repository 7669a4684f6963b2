-- In a state that text leaves as it is, the end that the code finds is where the pieces of the run end (`left_grows`, `right_grows`, `text_grows`). An
-- octet of the span of a side, or two, is a piece of a run of that side and leaves the state, by what such an octet starts; and a piece of a run
-- starts with octets of the span, by where an octet lies that starts text.
use Rattle.element.proofs.Names.{ℕ, zero, suc, ◌+◌, ◌-◌, ◌/◌, ◌%◌, ◌≤◌, ◌<◌, arith, not-suc-le-zero, ◌≡◌, refl, ap, sym, ◌∙◌, true, List, [], ◌∷◌}
use Rattle.element.proofs.Names.{Bool, eqb, ltb, length, get_or, eqb-true, eqb-false, ltb-true, ltb-false, pick, from, off, test, tested, pick_by, on_true}
use Rattle.element.proofs.Names.{on_lt, on_ge, from_octet, from_end, from_length, form_96, form_of, Side, GL, GR, written_of, step_of, next, State, Sets}
use Rattle.element.proofs.Names.{Directions, Step, Goes, Stops, Shape, Refuses, Designates, Gives}
use Rattle.element.specs.Element.{shape_of, stepped_of, directed_of}
use Rattle.element.specs.Start.{Start, start_in, begun_by}
use Rattle.element.proofs.Sizes.{kind_in, escape_kind, mark_kind}
use Rattle.element.proofs.Starts.{On, wide_in, Starts, starts, graphic_low, graphic, used_graphic, graphic_used, all_used}
use Rattle.element.proofs.Starts as start
use Rattle.grammar.specs.Reading.{Octets}
use Rattle.state.specs.Elements.{Ends}
use Rattle.stretch.specs.Characters.{settled_of}
use Rattle.stretch.proofs.Loops.{two_octets}
use Rattle.stretch.proofs.Starts.{Written, number, one_start, left_start_lem, written_one, written_two, written_found}
use Rattle.stretch.proofs.Starts as stretched
use Rattle.text.specs.Text.{graphic_of, second_octet_of}
use Rattle.pieces.specs.Pieces.{piece, no_piece, side_kind_of, piece_kind_of, piece_of, is_run}
use Rattle.pieces.specs.Pieces.{Piece}
use Rattle.pieces.proofs.Laws.{run_kind}
use Rattle.pieces.proofs.Text.{written_goes}
use Rattle.pieces.proofs.Step.{piece_at, on_past}
use Rattle.run_ends.specs.Ends.{ones_to, twos_to, left_to, right_to, text_to}
use Rattle.run_ends.proofs.Loops.{twos_short}

-- pieces of a kind, which leave the state, from a place to another, where none stands
pub data Grows (s : List ℕ) (st : State) (k : ℕ) : ℕ → ℕ → Type 0 where
  none : {at : ℕ} → ((piece_at s at st).kind ≡ k → ⊥) → Grows s st k at at
  more : {at e : ℕ} (w : ℕ) → piece_at s at st ≡ piece at (at + w) k st → Grows s st k (at + w) e → Grows s st k at e

-- ---- the side of an octet

left_octet : (b : ℕ) → b < 128 → side_kind_of b ≡ 0
unfolding side_kind_of
left_octet b h = sym (on_lt b 128 _ _ _ h refl)

right_octet : (b : ℕ) → 128 ≤ b → side_kind_of b ≡ 1
unfolding side_kind_of
right_octet b h = sym (on_ge b 128 _ _ _ h refl)

text_kind : (k b : ℕ) → k < 2 → piece_kind_of k b ≡ side_kind_of b
unfolding piece_kind_of pick
text_kind zero b h = refl
text_kind (suc zero) b h = refl
text_kind (suc (suc k)) b h = absurd (omega arith)

-- ---- where an octet lies that starts text

-- two octets of a character
record Two (b : ℕ) (t : List ℕ) : Type 0 where
  first : graphic_of (b % 128) ≡ true
  other : ℕ
  rest : List ℕ
  are : t ≡ other ∷ rest
  side : other / 128 ≡ b / 128
  second : graphic_of (other % 128) ≡ true

-- in GL or in GR; and where the set there is of two octets, the second stands after it
data Lies (sets : Sets) (b : ℕ) (t : List ℕ) : Type 0 where
  left : 0x20 ≤ b → b < 0x7F → (wide_in GL sets ≡ true → Two b t) → Lies sets b t
  right : 0xA0 ≤ b → ((form_of sets.gr ≡ form_96 → ⊥) → graphic_of (b % 128) ≡ true) → (wide_in GR sets ≡ true → Two b t) → Lies sets b t

-- whether a shape's unit is text for the direction rule; of a shape that gives none nothing is asked
text_in : Shape → Bool
text_in Ends = true
text_in (Refuses n o) = true
text_in (Designates k d c) = true
text_in (Gives p) = p.text

second_octet : (set b : ℕ) (t : List ℕ) → graphic_of (b % 128) ≡ true → kind_in (second_octet_of set b t) < 2
    → Two b t × (text_in (second_octet_of set b t) ≡ true)
unfolding second_octet_of next text_in pick
second_octet set b [] g h = absurd (omega arith)
second_octet set b (y ∷ t) g h =
    test (eqb (y / 128) (b / 128))
    (λ e. test (graphic_of (y % 128))
    (λ f. (record { first = g; other = y; rest = t; are = refl; side = eqb-true _ _ e; second = f }, rw (e, f)))
    (λ f. let z = rw (e, f) at h in absurd (omega arith)))
    (λ e. let z = rw e at h in absurd (omega arith))

text_lies : (sets : Sets) (b : ℕ) (t : List ℕ) {c : Start} → Starts sets b c → kind_in (begun_by c b t sets) < 2
    → Lies sets b t × (text_in (begun_by c b t sets) ≡ true)
unfolding begun_by text_in
text_lies sets b t (start.escape e) h = absurd (omega (arith, escape_kind t, h))
text_lies sets b t (start.mark e) h = absurd (omega (arith, mark_kind t, h))
text_lies sets b t (start.tab e) h = absurd (omega arith)
text_lies sets b t (start.newline e) h = absurd (omega arith)
text_lies sets b t (start.space e n) h = (left (omega arith) (omega arith) (λ w. off (sym n ∙ w)), refl)
text_lies sets b t (start.one GL (l, m) u n) h = (left (omega arith) m (λ w. off (sym n ∙ w)), refl)
text_lies sets b t (start.one GR l u n) h = (right l (λ m. used_graphic _ b m u) (λ w. off (sym n ∙ w)), refl)
text_lies sets b t (start.two GL (l, m) g w) h = let p = second_octet _ b t g h in (left (omega arith) m (λ _. p.0), p.1)
text_lies sets b t (start.two GR l g w) h = let p = second_octet _ b t g h in (right l (λ _. g) (λ _. p.0), p.1)
text_lies sets b t start.unused h = absurd (omega arith)

-- ---- what text leaves

text_settles : (d next : Directions) → written_of d ≡ Goes next → settled_of next ≡ true
unfolding settled_of pick
text_settles d next e = let w = written_goes d next e in rw (← w.0) w.1

-- two octets of a span
record Pair (s : List ℕ) (first last i : ℕ) : Type 0 where
  inside : 1 < length s - i
  low : first ≤ get_or s i 0
  high : get_or s i 0 ≤ last
  low_2 : first ≤ get_or s (i + 1) 0
  high_2 : get_or s (i + 1) 0 ≤ last

module _ (s : List ℕ) (st : State) where
  -- ---- a piece of a run

  -- its shape's unit is of kind k; where that is text it settles the state
  record OfRun (i k : ℕ) (text : Bool) (q : Piece) : Type 0 where
    kind : k < 2
    side : q.kind ≡ side_kind_of (get_or s i 0)
    settled : text ≡ true → settled_of q.state.directions ≡ true

  of_run : (i : ℕ) (x : Shape) → is_run (piece_of s i (directed_of x st)).kind ≡ true → OfRun i (kind_in x) (text_in x) (piece_of s i (directed_of x st))
  unfolding piece_of directed_of stepped_of step_of text_in
  of_run i Ends r = off r
  of_run i (Refuses n o) r = off r
  of_run i (Designates k d c) r = off r
  of_run i (Gives p) r = by (step_of p.text p.kind st.directions) refl r
    where
      by : (x : Step) → step_of p.text p.kind st.directions ≡ x → is_run (piece_of s i (stepped_of p st x)).kind ≡ true
          → OfRun i p.kind p.text (piece_of s i (stepped_of p st x))
      by (Goes d) e r =
          let k = run_kind p.kind (get_or s i 0) r in
          record { kind = k.0; side = k.1; settled = λ t. text_settles st.directions d (on_true p.text _ _ _ t refl ∙ e) }
      by (Stops n) e r = off r

  record Text (i : ℕ) : Type 0 where
    inside : i < length s
    lies : Lies st.sets (get_or s i 0) (from (i + 1) s)
    side : (piece_at s i st).kind ≡ side_kind_of (get_or s i 0)
    settled : settled_of (piece_at s i st).state.directions ≡ true

  text_at : (i : ℕ) → is_run (piece_at s i st).kind ≡ true → Text i
  unfolding shape_of
  text_at i r =
      test (ltb i (length s))
      (λ h.
      let e = from_octet s i (ltb-true _ _ h) in
      let p = of_run i (shape_of (get_or s i 0 ∷ from (i + 1) s) st.sets) (rw e at r) in
      let l = text_lies st.sets (get_or s i 0) (from (i + 1) s) (starts st.sets (get_or s i 0)) p.kind in
      record { inside = ltb-true _ _ h; lies = l.0; side = rw e p.side; settled = rw e (p.settled l.1) })
      (λ h. off (ap (λ (q : Piece). is_run q.kind) (on_past s i st (no_piece i) (ltb-false _ _ h) refl) ∙ r))

  -- after text it leaves the state
  pub text_settled : (i : ℕ) → is_run (piece_at s i st).kind ≡ true → settled_of (piece_at s i st).state.directions ≡ true
  text_settled i r = (text_at i r).settled

  module _ (i : ℕ) where
    lies-left : (piece_at s i st).kind ≡ 0
        → (i < length s) × (0x20 ≤ get_or s i 0) × (get_or s i 0 < 0x7F) × (wide_in GL st.sets ≡ true → Two (get_or s i 0) (from (i + 1) s))
    lies-left e = let t = text_at i (rw e) in by t.inside (sym t.side ∙ e) t.lies
      where
        by : i < length s → side_kind_of (get_or s i 0) ≡ 0 → Lies st.sets (get_or s i 0) (from (i + 1) s)
            → (i < length s) × (0x20 ≤ get_or s i 0) × (get_or s i 0 < 0x7F) × (wide_in GL st.sets ≡ true → Two (get_or s i 0) (from (i + 1) s))
        by h e (left l m w) = (h, l, m, w)
        by h e (right l g w) = absurd (omega (arith, right_octet (get_or s i 0) (omega arith), e))

    lies-right : (piece_at s i st).kind ≡ 1
        → (i < length s) × (0xA0 ≤ get_or s i 0) × ((form_of st.sets.gr ≡ form_96 → ⊥) → graphic_of (get_or s i 0 % 128) ≡ true)
        × (wide_in GR st.sets ≡ true → Two (get_or s i 0) (from (i + 1) s))
    lies-right e = let t = text_at i (rw e) in by t.inside (sym t.side ∙ e) t.lies
      where
        by : i < length s → side_kind_of (get_or s i 0) ≡ 1 → Lies st.sets (get_or s i 0) (from (i + 1) s)
            → (i < length s) × (0xA0 ≤ get_or s i 0) × ((form_of st.sets.gr ≡ form_96 → ⊥) → graphic_of (get_or s i 0 % 128) ≡ true)
            × (wide_in GR st.sets ≡ true → Two (get_or s i 0) (from (i + 1) s))
        by h e (left l m w) = absurd (omega (arith, left_octet (get_or s i 0) (omega arith), e))
        by h e (right l g w) = (h, l, g, w)

    -- two octets of a character, on a side
    pair-at : (first last : ℕ) → i < length s → Two (get_or s i 0) (from (i + 1) s)
        → ((x : ℕ) → x / 128 ≡ get_or s i 0 / 128 → (0x21 ≤ x % 128) × (x % 128 ≤ 0x7E) → (first ≤ x) × (x ≤ last)) → Pair s first last i
    pair-at first last h w each =
        let long : length s - (i + 1) ≡ suc (length w.rest) = sym (from_length s (i + 1)) ∙ ap length w.are in
        let there : get_or s (i + 1) 0 ≡ w.other = ap (λ (l : List ℕ). get_or l 0 0) (sym (from_octet s (i + 1) (omega arith)) ∙ w.are) in
        let p = each (get_or s i 0) refl (graphic_low _ w.first) in
        let q = each (get_or s (i + 1) 0) (rw there w.side) (rw there (graphic_low _ w.second)) in
        record { inside = omega arith; low = p.0; high = p.1; low_2 = q.0; high_2 = q.1 }

  -- ---- octets of a span, one to a piece or two

  module _ (k first last : ℕ) where
    ones : ((i : ℕ) → i < length s → first ≤ get_or s i 0 → get_or s i 0 ≤ last → piece_at s i st ≡ piece i (i + 1) k st)
        → ((i : ℕ) → (piece_at s i st).kind ≡ k → (i < length s) × (first ≤ get_or s i 0) × (get_or s i 0 ≤ last))
        → (n at : ℕ) → length s - at < n → Grows s st k at (ones_to first last at (from at s))
    unfolding ones_to
    ones from-span in_span zero at h = absurd (not-suc-le-zero h)
    ones from-span in_span (suc n) at h =
        test (ltb at (length s))
        (λ l. rw (from_octet s at (ltb-true _ _ l))
        (pick_by (Grows s st k at) (ltb (get_or s at 0) first) (λ e. none (λ x. omega (tested, (in_span at x).1)))
        (λ e. pick_by (Grows s st k at) (ltb last (get_or s at 0)) (λ f. none (λ x. omega (tested, (in_span at x).2)))
        (λ f. more 1 (from-span at (ltb-true _ _ l) (ltb-false _ _ e) (ltb-false _ _ f))
        (ones from-span in_span n (at + 1) (omega tested))))))
        (λ l. rw (from_end s at (ltb-false _ _ l)) (none {at = at} (λ x. omega (tested, (in_span at x).0))))

    twos : ((i : ℕ) → Pair s first last i → piece_at s i st ≡ piece i (i + 2) k st)
        → ((i : ℕ) → (piece_at s i st).kind ≡ k → Pair s first last i)
        → (n at : ℕ) → length s - at < n → Grows s st k at (twos_to first last at (from at s))
    unfolding twos_to
    twos from-span in_span zero at h = absurd (not-suc-le-zero h)
    twos from-span in_span (suc n) at h =
        test (ltb 1 (length s - at))
        (λ l. rw (two_octets s at (ltb-true _ _ l))
        (pick_by (Grows s st k at) (ltb (get_or s at 0) first) (λ e. none (λ x. omega (tested, (in_span at x).low)))
        (λ e. pick_by (Grows s st k at) (ltb last (get_or s at 0)) (λ f. none (λ x. omega (tested, (in_span at x).high)))
        (λ f. pick_by (Grows s st k at) (ltb (get_or s (at + 1) 0) first) (λ g. none (λ x. omega (tested, (in_span at x).low_2)))
        (λ g. pick_by (Grows s st k at) (ltb last (get_or s (at + 1) 0)) (λ m. none (λ x. omega (tested, (in_span at x).high_2)))
        (λ m. more 2
        (from-span at (record {
          inside = ltb-true _ _ l;
          low = ltb-false _ _ e;
          high = ltb-false _ _ f;
          low_2 = ltb-false _ _ g;
          high_2 = ltb-false _ _ m;
        }))
        (twos from-span in_span n (at + 2) (omega tested))))))))
        (λ l. rw (twos_short first last at (from at s) (rw (from_length s at) (ltb-false _ _ l)))
        (none {at = at} (λ x. omega (tested, (in_span at x).inside))))

  -- ---- the octets of a span are pieces

  module _ (settled : settled_of st.directions ≡ true) (o : Octets s) where
    text-piece : (i : ℕ) {n : ℕ} (k : ℕ) → i < length s → side_kind_of (get_or s i 0) ≡ k
        → Written n (shape_of (get_or s i 0 ∷ from (i + 1) s) st.sets)
        → piece_at s i st ≡ piece i (i + n) k st
    unfolding piece_of
    text-piece i k h e w =
        rw (from_octet s i h, written_found st settled w, w.sized, text_kind w.unit.kind (get_or s i 0) w.kind, e)

    one_piece : (i k : ℕ) → i < length s → side_kind_of (get_or s i 0) ≡ k → stretched.Text (start_in st.sets (get_or s i 0))
        → piece_at s i st ≡ piece i (i + 1) k st
    unfolding shape_of
    one_piece i k h e x = text-piece i k h e (written_one st.sets (get_or s i 0) (from (i + 1) s) x)

    -- two octets of a span of a side
    pair-piece : (d : Side) (k first last : ℕ) → wide_in d st.sets ≡ true
        → ((x : ℕ) → first ≤ x → x ≤ last → (side_kind_of x ≡ k) × On d x × (x / 128 ≡ number d) × (0x21 ≤ x % 128) × (x % 128 ≤ 0x7E))
        → (i : ℕ) → Pair s first last i → piece_at s i st ≡ piece i (i + 2) k st
    pair-piece d k first last w each i h =
        let p = each (get_or s i 0) h.low h.high in
        let q = each (get_or s (i + 1) 0) h.low_2 h.high_2 in
        text-piece i k (omega (arith, h.inside)) p.0
        (rw (from_octet s (i + 1) (omega (arith, h.inside)))
        (written_two st.sets (get_or s i 0) d (get_or s (i + 1) 0) (from (i + 1 + 1) s) w p.1 (graphic _ p.3 p.4) (q.2 ∙ sym p.2)
        (graphic _ q.3 q.4)))

    right-one : (i : ℕ) → i < length s → 0xA0 ≤ get_or s i 0 → stretched.Text (start_in st.sets (get_or s i 0))
        → piece_at s i st ≡ piece i (i + 1) 1 st
    right-one i h l x = one_piece i 1 h (right_octet (get_or s i 0) (omega arith)) x

    -- ---- where a run ends

    pub left_grows : (at : ℕ) → Grows s st 0 at (left_to st.sets at (from at s))
    unfolding left_to
    left_grows at =
        pick_by (Grows s st 0 at) (wide_in GL st.sets)
        (λ w. twos 0 0x21 0x7E
        (pair-piece GL 0 0x21 0x7E w (λ x l m. (left_octet x (omega arith), (l, omega arith), omega arith, omega arith, omega arith)))
        (λ i e. let p = lies-left i e in pair-at i _ _ p.0 (p.3 w) (λ x d g. (omega (arith, d, g.0, p.2), omega (arith, d, g.1, p.2))))
        (suc (length s)) at (omega arith))
        (λ w. ones 0 0x20 0x7E
        (λ i h l m. one_piece i 0 h (left_octet (get_or s i 0) (omega arith)) (left_start_lem st.sets (get_or s i 0) l (omega arith) w))
        (λ i e. let p = lies-left i e in (p.0, p.1, omega (arith, p.2)))
        (suc (length s)) at (omega arith))

    pub right_grows : (at : ℕ) → Grows s st 1 at (right_to st.sets at (from at s))
    unfolding right_to
    right_grows at =
        pick_by (Grows s st 1 at) (eqb (form_of st.sets.gr) form_96)
        (λ n.
        let z : form_of st.sets.gr ≡ form_96 = eqb-true _ _ n in
        ones 1 0xA0 0xFF
        (λ i h l m. right-one i h l (one_start st.sets (get_or s i 0) GR l (all_used _ (get_or s i 0) z) (rw z)))
        (λ i e. let p = lies-right i e in (p.0, p.1, omega (arith, o i)))
        (suc (length s)) at (omega arith))
        (λ n. pick_by (Grows s st 1 at) (wide_in GR st.sets)
        (λ w. twos 1 0xA1 0xFE
        (pair-piece GR 1 0xA1 0xFE w (λ x l m. (right_octet x (omega arith), omega arith, omega arith, omega arith, omega arith)))
        (λ i e.
        let p = lies-right i e in
        pair-at i _ _ p.0 (p.3 w) (λ x d g. (omega (arith, d, g.0, p.1), omega (arith, d, g.1, p.1, o i))))
        (suc (length s)) at (omega arith))
        (λ w. ones 1 0xA1 0xFE
        (λ i h l m.
        right-one i h (omega arith)
        (one_start st.sets (get_or s i 0) GR (omega arith)
        (graphic_used _ (get_or s i 0) (graphic (get_or s i 0 % 128) (omega arith) (omega arith))) w))
        (λ i e.
        let p = lies-right i e in
        let c = graphic_low (get_or s i 0 % 128) (p.2 (eqb-false _ _ n)) in
        (p.0, omega (arith, c.0, p.1), omega (arith, c.1, o i)))
        (suc (length s)) at (omega arith)))

    pub text_grows : (k : ℕ) → k < 2 → (at : ℕ) → Grows s st k at (text_to st.sets k at (from at s))
    unfolding text_to pick
    text_grows zero h at = left_grows at
    text_grows (suc zero) h at = right_grows at
    text_grows (suc (suc k)) h at = absurd (omega arith)
