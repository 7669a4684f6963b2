-- Where 15 is given (rule X2), exactly: the octets before p are accepted with units that X11R5 has, and at p something starts that it does not have
-- (`unsupported_where`). From the answer it is shown by induction on the elements, each of which starts with the octets of a designation or of its unit
-- (`before`); and to the answer by induction on how those octets read (`reached`).
use Rattle.element.proofs.Names.{ℕ, ◌+◌, ◌-◌, ◌≤◌, arith, ◌≡◌, refl, sym, ap, ap₂, ◌∙◌, true, false, List, [], ◌∷◌, ◌++◌, ◌↔◌, length, take}
use Rattle.element.proofs.Names.{drop, length-append, length-take, length-take-le, le-ltb, from, pick, test, clash, refused_at, Answer, on, put, Sets, State}
use Rattle.element.proofs.Names.{directions, undirected, cond, Directions, Part, Shape, Silent, Found}
use lib.ListN.{take-append-drop}
use lib.Seq.{take-append-add, drop_at}
use mathlib.Core.List.{append_assoc}
use Rattle.base.proofs.Ladder.{from_from}
use Rattle.base.specs.Limit as limit
use Rattle.base.specs.Refusal as refusal
use Rattle.element.specs.Element.{stepped_of, directed_of, element_of}
use Rattle.element.proofs.Sizes.{Fit, silent, found}
use Rattle.grammar.specs.Grammar.{Reads, done, designate, show, Legal}
use Rattle.grammar.specs.Reading.{Elements, found_at, size, elements_of, answer_of, check_of, Octets}
use Rattle.grammar.specs.Units.{TextUnit, counts, octets, designation}
use Rattle.grammar.proofs.Agrees.{Right, passed, read, fresh_legal, put_legal, octets_from}
use Rattle.grammar.proofs.Complete.{starts_designation, starts_unit, part_of, part_size}
use Rattle.grammar.proofs.Places.{ahead, Ahead, ends, stops, passes, reads, at_passed, from_start}
use Rattle.shortest.proofs.Shortest.{accepted, within_limit}
use Rattle.shortest.proofs.Written.{front}
use Rattle.state.specs.State.{state}
use Rattle.x11r5.specs.Reading.{unsupported_at, supported, supported_of, unended_check_of}
use Rattle.x11r5.specs.Theorems.{Supported, FirstUnsupported}
use Rattle.x11r5.proofs.Octets.{unit_starts}
use Rattle.x11r5.proofs.Directions.{lawful, plain_goes}
use Rattle.x11r5.proofs.Bounds.{base_bounded}
use Rattle.x11r5.proofs.Elements.{starts_within, element_right, refused_first}
use Rattle.x11r5.proofs.Reading.{fresh-fit, only_unsupported}

-- octets w that start with x, of k octets: their first k + n are x and n of those after it
first_part : (w x r : List ℕ) (k n m : ℕ) → w ≡ x ++ r → length x ≡ k → m ≡ k + n → take m w ≡ x ++ take n (drop k w)
first_part w x r k n m e z q =
    ap₂ (λ (i : ℕ) (y : List ℕ). take i y) (q ∙ ap (λ (i : ℕ). i + n) (sym z)) e ∙ take-append-add x r n
    ∙ ap (λ (y : List ℕ). x ++ take n y) (sym (ap (drop k) e ∙ drop_at x r k z))

-- ---- from the answer

-- the octets from a place up to p read as units that X11R5 has
record Before (t : List ℕ) (at : ℕ) (st : State) (p : ℕ) : Type 0 where
  units : List TextUnit
  reading : Reads st.sets (take (p - at) (from at t)) units
  supports : Supported units
  after : at ≤ p

module _ (t : List ℕ) (o : Octets t) where
  here : (at : ℕ) (st : State) → Before t at st (at + 0)
  here at st =
      let z : at + 0 - at ≡ 0 = omega arith in
      record { units = []; reading = rw z done; supports = tt; after = omega arith }

  module _ (at p : ℕ) (st : State) where
    before-silent : {k : ℕ} {next : State} → Right st (from at t) (Silent k next) → Before t (at + k) next p → Before t at st p
    before-silent {k} (passed d c r h) b =
        let q = first_part (from at t) (designation (on d c)) r k (p - (at + k)) (p - at) h.are h.size (omega (arith, b.after)) in
        record {
          units = b.units;
          reading = rw (q, from_from t at k) (designate (on d c) h.may b.reading);
          supports = b.supports;
          after = omega (arith, b.after);
        }

    before-found : {y : Part} {next : State} → unsupported_at (from at t) ≡ false → Right st (from at t) (Found y next)
        → Before t (at + size y) next p → Before t at st p
    before-found {y} n (read u d r h g) b =
        let q = first_part (from at t) (octets d u) r (size y) (p - (at + size y)) (p - at) h.are h.size (omega (arith, b.after)) in
        record {
          units = u ∷ b.units;
          reading = rw (q, from_from t at (size y)) (show u d h.fit h.shows b.reading);
          supports = (sym (unit_starts u d r h.fit) ∙ ap unsupported_at (sym h.are) ∙ n, b.supports);
          after = omega (arith, b.after);
        }

  before : (c : ℕ) {at : ℕ} {st : State} {es : Elements} → Ahead t at st es → Fit st → (answer_of c (supported t es)).number ≡ refusal.unsupported
      → ((answer_of c es).number ≡ refusal.unsupported → ⊥) → Before t at st (answer_of c (supported t es)).place
  unfolding answer_of supported pick
  before c (ends e) f n m = clash (cc)
  before c {at} {st} (stops h e) f n m = test (unsupported_at (from at t)) (λ q. rw q (here at st)) (λ q. absurd (m (rw q at n)))
  before c {at} {st} (passes s e a) f n m =
      before-silent at _ st (element_right (from at t) st f (octets_from t o at) silent s.is) (before c a (s.fit f) n m)
  before c {at} {st} (reads s z e a) f n m =
      test (unsupported_at (from at t)) (λ q. rw q (here at st))
      (λ q. rw q (before-found at _ st q (element_right (from at t) st f (octets_from t o at) found s.is) (before (c + 1) a (s.fit f) (rw q at n) m)))

-- ---- to the answer

module _ (t : List ℕ) (o : Octets t) (v : List ℕ) (starts : unsupported_at v ≡ true) where
  -- the octets after an element
  rest_after : (at k : ℕ) (x y : List ℕ) → from at t ≡ x ++ y → length x ≡ k → from (at + k) t ≡ y
  rest_after at k x y e z = sym (from_from t at k) ∙ ap (drop k) e ∙ drop_at x y k z

  fit_at : (s : Sets) (d : Directions) → Legal s → d.depth ≤ limit.depth → Fit (state s d)
  fit_at s d l h = record { left = l.left; right = l.right; depth = h }

  reached : {s : Sets} {u : List ℕ} {us : List TextUnit} → Reads s u us → Supported us → (d : Directions) → d.marked ≡ false
      → d.depth ≤ limit.depth → Legal s → (at : ℕ) → from at t ≡ u ++ v → (c : ℕ)
      → answer_of c (supported t (ahead t at (state s d))) ≡ refused_at refusal.unsupported (at + length u)
  unfolding answer_of supported directed_of stepped_of pick
  reached {s} done h d m b l at e c = ap (answer_of c) (refused_first t at (state s d) o (fit_at s d l b) (ap unsupported_at e ∙ starts))
  reached {s} (designate {t = x} p a r) h d m b l at e c =
      let q = e ∙ append_assoc (designation p) x v in
      let i : element_of (from at t) (state s d) ≡ Silent (length (designation p)) (state (put p s) d) =
      ap (λ (y : List ℕ). element_of y (state s d)) q
      ∙ ap (λ (y : Shape). directed_of y (state s d)) (starts_designation s p.side p.set (x ++ v) a) in
      let f = at_passed t at (state s d) _ refl silent i in
      let z : at + length (designation p) + length x ≡ at + length (designation p ++ x) = omega (arith, length-append (designation p) x) in
      ap (λ (es : Elements). answer_of c (supported t es)) f
      ∙ reached r h d m b (put_legal p s a l) _ (rest_after at _ (designation p) (x ++ v) q refl) c
      ∙ ap (refused_at refusal.unsupported) z
  reached {s} (show {t = x} u w g n r) h d m b l at e c =
      let q = e ∙ append_assoc (octets w u) x v in
      let after = directions d.depth d.levels false (cond (counts u) true d.texted) in
      let i : element_of (from at t) (state s d) ≡ Found (part_of u) (state s after) =
      ap (λ (y : List ℕ). element_of y (state s d)) q ∙ ap (λ (y : Shape). directed_of y (state s d)) (starts_unit s l u w (x ++ v) g n)
      ∙ ap (stepped_of (part_of u) (state s d)) (plain_goes u d h.0 m) in
      let f = at_passed t at (state s d) _ refl found i in
      let es = ahead t (at + size (part_of u)) (state s after) in
      let j : answer_of c (supported t (found_at at (part_of u) (state s after) es)) ≡ answer_of (c + 1) (supported t es) =
      rw (ap unsupported_at q ∙ unit_starts u w (x ++ v) g ∙ h.0) in
      let z : at + size (part_of u) + length x ≡ at + length (octets w u ++ x) = omega (arith, length-append (octets w u) x, part_size u w) in
      ap (λ (es : Elements). answer_of c (supported t es)) f ∙ j
      ∙ reached r h.1 after refl b l _ (rest_after at _ (octets w u) (x ++ v) q (part_size u w)) (c + 1)
      ∙ ap (refused_at refusal.unsupported) z

-- ---- the theorem

take_octets : (t : List ℕ) (p : ℕ) → Octets t → Octets (take p t)
take_octets t p o = front (take p t) (drop p t) (rw take-append-drop o)

module _ (t : List ℕ) (o : Octets t) (short : length t ≤ limit.octets) (p : ℕ) where
  by_elements : unended_check_of t ≡ answer_of 0 (supported_of t)
  unfolding unended_check_of pick
  by_elements = rw (le-ltb _ _ short)

  base_number : (answer_of 0 (elements_of t)).number ≡ refusal.unsupported → ⊥
  unfolding check_of pick
  base_number n = omega (arith, n, rw (le-ltb _ _ short) at (base_bounded t).number)

  first_from : unended_check_of t ≡ refused_at refusal.unsupported p → FirstUnsupported t p
  unfolding from
  first_from e =
      let q = sym by_elements ∙ e in
      let b = before t o 0 (from_start t) fresh-fit (ap (λ (a : Answer). a.number) q) base_number in
      let z : (answer_of 0 (supported_of t)).place - 0 ≡ p = omega (arith, ap (λ (a : Answer). a.place) q) in
      let r = rw z at b.reading in
      record {
        units = b.units;
        before =
            within_limit (record { octets = take_octets t p o; reads = r; rule = lawful b.units 0 b.supports })
            (simp length-take (omega (arith, short)));
        supported = b.supports;
        starts = rw (ap (λ (a : Answer). a.place) e) at (only_unsupported t (ap (λ (a : Answer). a.number) e));
      }

  first_to : FirstUnsupported t p → unended_check_of t ≡ refused_at refusal.unsupported p
  unfolding from
  first_to f =
      let r = (accepted f.before).reads in
      let inside : p ≤ length t = omega (arith, starts_within t p f.starts) in
      by_elements ∙ reached t o (from p t) f.starts r f.supported undirected refl (omega arith) fresh_legal 0 (sym (take-append-drop p t)) 0
      ∙ ap (refused_at refusal.unsupported) (let z : 0 + length (take p t) ≡ p = omega (arith, length-take-le p t inside) in z)

  -- 15 at p, and nothing else
  pub unsupported_where : (unended_check_of t ≡ refused_at refusal.unsupported p) ↔ FirstUnsupported t p
  unsupported_where = (first_from, first_to)
