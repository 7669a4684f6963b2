-- What holds of all the pieces of a string: no two neighbours are of one run, so runs are longest; the octets of a run are all GL
-- octets, or all GR octets; and the sets and the direction that its piece has are in force at each of its octets. All three are kept
-- when a piece is joined to pieces that have them.
use Rattle.element.proofs.Names.{ℕ, zero, suc, ◌+◌, ◌-◌, ◌≤◌, ◌<◌, zero-le, arith, not-suc-le-zero, ◌≡◌, refl, ap, sym, ◌∙◌, true, List, [], ◌∷◌}
use Rattle.element.proofs.Names.{◌++◌, eqb, ltb, length, get_or, ltb-true, lt-ltb, le-ltb, pick, from, off, test, pick_by, tested, Side, on, fresh, State, Part}
use Rattle.element.proofs.Names.{Element, End, Refused, Silent, Found}
use lib.Seq.{get_or-drop}
use Rattle.base.specs.Kind as kind
use Rattle.element.specs.Element.{element_of, shape_of, directed_of}
use Rattle.element.proofs.Sizes.{silent, found}
use Rattle.grammar.specs.Grammar.{Legal}
use Rattle.grammar.specs.Reading.{Elements, size, Octets}
use Rattle.grammar.specs.Units.{TextUnit, kind_of, octets}
use Rattle.grammar.proofs.Places.{at_end, at_refused, at_passed}
use Rattle.grammar.proofs.Sound.{Shown, sound}
use Rattle.grammar.proofs.Agrees.{Right, refused, passed, read, right, fresh_legal, put_legal, octets_from}
use Rattle.pieces.specs.Pieces.{no_piece, side_kind_of, piece_kind_of, piece_of, is_run, longer, joined, pieces_of, state_at, same_run_of}
use Rattle.pieces.specs.Pieces.{Piece}
use Rattle.pieces.proofs.Joined.{same_kind}
use Rattle.pieces.specs.Partition.{EndToEnd, none, more, Apart, nothing, alone, before, OneSided, Same, state_from, InForce, Each, empty, with_first}
use Rattle.pieces.proofs.Partition.{tiled}
use Rattle.pieces.proofs.Step.{Step, stops, goes, step, element_at, rest, fits}
use Rattle.pieces.proofs.Text.{text_side, text_keeps}

-- ---- longest

like : (p q : Piece) (qs : List Piece) → p.kind ≡ q.kind → Apart (q ∷ qs) → Apart (p ∷ qs)
like p q [] e h = alone
like p q (r ∷ rs) e (before f h) = before {p = p} {q = r} (rw e f) h

joined_keeps_apart : (p : Piece) (ps : List Piece) → Apart ps → Apart (joined p ps)
unfolding joined
joined_keeps_apart p [] h = alone
joined_keeps_apart p (q ∷ qs) h =
    pick_by Apart (same_run_of p.kind q.kind) (λ e. like (longer p q) q qs (same_kind _ _ e) h) (λ e. before e h)

-- what two neighbours of one run have, the run has too
abbrev Joins : (Piece → Type 0) → Type 0
Joins P = (p q : Piece) → p.start < p.end → q.start ≡ p.end → q.start < q.end → p.kind ≡ q.kind → P p → P q → P (longer p q)

joined_each : (P : Piece → Type 0) → Joins P → {e : ℕ} (p : Piece) (ps : List Piece) → p.start < p.end → P p → EndToEnd p.end e ps
    → Each P ps
    → Each P (joined p ps)
unfolding joined
joined_each P join p [] n f t h = with_first f empty
joined_each P join p (q ∷ qs) n f (more b l t) (with_first h k) =
    pick_by (Each P) (same_run_of p.kind q.kind) (λ e. with_first (join p q n b (omega arith) (same_kind _ _ e) f h) k)
    (λ e. with_first f (with_first h k))

-- a piece that is a run is that of a character or a space, on the side of its first octet
pub run_kind : (k b : ℕ) → is_run (piece_kind_of k b) ≡ true → (k < 2) × (piece_kind_of k b ≡ side_kind_of b)
unfolding piece_kind_of pick
run_kind k b r =
    test (eqb k kind.character) (λ e. (omega tested, rw e))
    (λ e. test (eqb k kind.space) (λ f. (omega tested, rw (e, f)))
    (λ f. test (eqb k kind.tab) (λ g. off (rw (e, f, g) at r))
    (λ g. test (eqb k kind.newline) (λ h. off (rw (e, f, g, h) at r))
    (λ h. test (eqb k kind.segment) (λ i. off (rw (e, f, g, h, i) at r)) (λ i. off (rw (e, f, g, h, i) at r))))))

module _ (s : List ℕ) where
  -- the octets of a unit at a place
  found_side : (at : ℕ) (st : State) (w : List ℕ) {p : Part} (u : TextUnit) (d : Side) (t : List ℕ) → from at s ≡ w → Shown st.sets w p u d t
      → is_run (piece_kind_of p.kind (get_or s at 0)) ≡ true → (i : ℕ) → at ≤ i → i < at + size p
      → side_kind_of (get_or s i 0) ≡ piece_kind_of p.kind (get_or s at 0)
  unfolding from
  found_side at st w {p} u d t is h r i a b =
      let k = run_kind p.kind (get_or s at 0) r in
      let text : kind_of u < 2 = rw h.kind at k.0 in
      let z : i - at < length (octets d u) = omega (arith, h.size) in
      let j : at + (i - at) ≡ i = omega arith in
      let n : at + 0 ≡ at = omega arith in
      ap (λ (x : ℕ). side_kind_of (get_or s x 0)) (sym j) ∙ ap side_kind_of (there (i - at)) ∙ text_side d u t h.fit text (i - at) z
      ∙ sym (ap side_kind_of (there 0)) ∙ ap (λ (x : ℕ). side_kind_of (get_or s x 0)) n ∙ sym k.1
    where
      there : (j : ℕ) → get_or s (at + j) 0 ≡ get_or (octets d u ++ t) j 0
      there j = sym (get_or-drop at s j 0) ∙ ap (λ (x : List ℕ). get_or x j 0) (is ∙ h.are)

  -- a piece that is read with a state: it is of one side, text leaves what is in force, and the sets after it stand where they may
  record Good (st : State) (q : Piece) : Type 0 where
    sided : OneSided s q
    steady : is_run q.kind ≡ true → Same st q.state
    legal : Legal q.state.sets

  nothing_good : (at : ℕ) (st : State) → Good st (no_piece at)
  nothing_good at st = record { sided = λ r i a b. absurd (omega arith); steady = off; legal = fresh_legal }

  good_by : (at : ℕ) (st : State) (w : List ℕ) → from at s ≡ w → Legal st.sets → {e : Element} → Right st w e → Good st (piece_of s at e)
  unfolding piece_of
  good_by at st w is l (refused h) = nothing_good at st
  good_by at st w is l (passed d c t h) = record { sided = λ r i a b. off r; steady = off; legal = put_legal (on d c) st.sets h.may l }
  good_by at st w is l (read {p} {next} u d t h e) =
      record {
        sided = λ r i a b. found_side at st w u d t is h r i a b;
        steady = λ r. record { sets = refl; way = sym (text_keeps u st.directions next (rw h.kind at (run_kind p.kind (get_or s at 0) r).0) e) };
        legal = l;
      }

  -- ---- the state at a place: that before the element there, and after the element that of what follows

  abbrev StateBefore : ℕ → State → Piece → Type 0
  StateBefore at st q = (i : ℕ) → i < q.end → state_from s at st i ≡ st

  abbrev StateLater : ℕ → State → Piece → Type 0
  StateLater at st q = (i : ℕ) → q.end ≤ i → state_from s at st i ≡ state_from s q.end q.state i

  abbrev pub StateAfter : ℕ → State → Piece → Type 0
  StateAfter at st q =
      (i : ℕ) → (q.end ≡ at → ⊥)
      → (i < q.end → state_from s at st i ≡ st) × (q.end ≤ i → state_from s at st i ≡ state_from s q.end q.state i)

  -- an element of k octets
  past : (at : ℕ) (st next : State) (k i : ℕ) → state_from s at st i ≡ pick (ltb i (at + k)) st (state_from s (at + k) next i)
      → (i < at + k → state_from s at st i ≡ st) × (at + k ≤ i → state_from s at st i ≡ state_from s (at + k) next i)
  unfolding pick
  past at st next k i e = (λ h. e ∙ rw (lt-ltb i (at + k) h), λ h. e ∙ rw (le-ltb i (at + k) h))

  pub state_after : (at : ℕ) (st : State) (e : Element) → element_at s at st ≡ e → StateAfter at st (piece_of s at e)
  unfolding piece_of state_at
  state_after at st End is i n = absurd (n refl)
  state_after at st (Refused r o) is i n = absurd (n refl)
  state_after at st (Silent k next) is i n = past at st next k i (ap (λ (x : Elements). state_at st x i) (at_passed s at st _ refl silent is))
  state_after at st (Found p next) is i n = past at st next (size p) i (ap (λ (x : Elements). state_at st x i) (at_passed s at st _ refl found is))

  -- at the place itself
  pub first_state : (at : ℕ) (st : State) (e : Element) → element_at s at st ≡ e → state_from s at st at ≡ st
  unfolding piece_of state_at
  first_state at st End is = ap (λ (x : Elements). state_at st x at) (at_end s at st _ refl is)
  first_state at st (Refused r o) is = ap (λ (x : Elements). state_at st x at) (at_refused s at st _ refl is)
  first_state at st (Silent k next) is =
      let z = fits s at st silent is in
      (state_after at st (Silent k next) is at (λ y. absurd (omega arith))).0 (omega arith)
  first_state at st (Found p next) is =
      let z = fits s at st found is in
      (state_after at st (Found p next) is at (λ y. absurd (omega arith))).0 (omega arith)

  -- ---- what is in force in a run

  first_in_force : (at : ℕ) (st : State) (q : Piece) → (is_run q.kind ≡ true → Same st q.state) → StateBefore at st q → StateLater at st q
      → InForce s at st q
  first_in_force at st q g f h r i x y =
      test (ltb i q.end) (λ m. rw (f i (ltb-true _ _ m)) (g r))
      (λ m. let z : i ≡ q.end = omega tested in
      rw (h i (omega arith), z, first_state q.end q.state (element_at s q.end q.state) refl) (record { sets = refl; way = refl }))

  longer_in_force : (at : ℕ) (st : State) → Joins (InForce s at st)
  longer_in_force at st p q n b l e f g r i x y =
      let on : is_run q.kind ≡ true = rw e at r in
      test (ltb i p.end) (λ m. f r i x (omega tested))
      (λ m. let here = g on i (omega tested) y in
      let start = g on q.start (omega arith) (omega arith) in
      let seam = f r q.start (omega arith) (omega arith) in
      record { sets = here.sets ∙ (sym start.sets ∙ seam.sets); way = here.way ∙ (sym start.way ∙ seam.way) })

  each_later : (at : ℕ) (st : State) (q : Piece) → StateLater at st q → {a e : ℕ} {ps : List Piece} → EndToEnd a e ps → q.end ≤ a
      → Each (InForce s q.end q.state) ps → Each (InForce s at st) ps
  each_later at st q f none h empty = empty
  each_later at st q f (more {p = p} b l r) h (with_first g k) =
      with_first {p = p} (λ x i y z. rw (f i (omega arith)) (g x i y z)) (each_later at st q f r (omega arith) k)

  module _ (o : Octets s) where
    good-from : (at : ℕ) (st : State) (w : List ℕ) → from at s ≡ w → Legal st.sets → Good st (piece_of s at (element_of w st))
    unfolding piece_of shape_of directed_of
    good-from at st [] is l = nothing_good at st
    good-from at st (b ∷ t) is l =
        good_by at st (b ∷ t) is l (right st (b ∷ t) (sound st.sets l b t (λ i. rw is at (octets_from s o at i))))

    longer-sided : Joins (OneSided s)
    longer-sided p q n b l e f g r i h k =
        test (ltb i p.end) (λ m. f r i h (ltb-true _ _ m)) (λ m. g (rw e at r) i (omega tested) k ∙ sym e)

    -- ---- all the pieces

    -- the pieces from a place on, read with a state
    record Kept (at : ℕ) (st : State) (ps : List Piece) : Type 0 where
      apart : Apart ps
      sided : Each (OneSided s) ps
      held : Each (InForce s at st) ps

    kept_step : (n at : ℕ) (st : State) {q : Piece} → Step s at st q → Good st q → StateAfter at st q → length s - at < suc n
        → ((b : ℕ) (next : State) → Legal next.sets → b ≤ length s → length s - b < n → Kept b next (rest s b next))
        → Kept at st (rest s at st)
    kept_step n at st (stops e x) g f k go = rw e (record { apart = nothing; sided = empty; held = empty })
    kept_step n at st (goes {q} b l u e x) g f k go =
        let h = go q.end q.state g.legal u (omega arith) in
        let t = tiled s (suc (length s)) q.end q.state u (omega arith) in
        let later : StateLater at st q = λ i y. (f i (λ z. absurd (omega arith))).1 y in
        rw e (record {
          apart = joined_keeps_apart q (rest s q.end q.state) h.apart;
          sided = joined_each (OneSided s) longer-sided q (rest s q.end q.state) (omega arith) g.sided t.tiles h.sided;
          held =
              joined_each (InForce s at st) (longer_in_force at st) q (rest s q.end q.state) (omega arith)
              (first_in_force at st q g.steady (λ i y. (f i (λ z. absurd (omega arith))).0 y) later) t.tiles
              (each_later at st q later t.tiles (omega arith) h.held);
        })

    kept : (n at : ℕ) (st : State) → Legal st.sets → at ≤ length s → length s - at < n → Kept at st (rest s at st)
    kept zero at st l h k = absurd (not-suc-le-zero k)
    kept (suc n) at st l h k =
        kept_step n at st (step s at st) (good-from at st (from at s) refl l) (state_after at st (element_at s at st) refl) k
        (λ b next m g i. kept n b next m g i)

    kept_whole : Kept 0 fresh (pieces_of s)
    unfolding pieces_of from
    kept_whole = kept (suc (length s)) 0 fresh fresh_legal zero-le (omega arith)

    -- no two neighbouring pieces are of one run: runs are longest
    pub longest : Apart (pieces_of s)
    longest = kept_whole.apart

    -- the octets of each run are all of its side
    pub one_sided : Each (OneSided s) (pieces_of s)
    one_sided = kept_whole.sided

    -- the sets and the direction of each run are in force at each of its octets
    pub in_force : Each (InForce s 0 fresh) (pieces_of s)
    in_force = kept_whole.held
