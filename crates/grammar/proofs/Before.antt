-- What request No. 2 asks: an extended segment with text steps as a character does (`text_counts`), and one without text changes no direction
-- (`empty_free`). And what it changed, over the direction rule before it, which has names of its own here: no extended segment counts as text
-- (`counted_before`), and the reader by that rule is `check_before` and `reading_before`. A string whose units before had no segment with text among them
-- is read as before (`as_before`). Any string is, or is refused 8 now at a unit that was read before, at or after a segment with text (`changed`); so
-- what is accepted was accepted before (`accepted_before`). By one walk over the elements: their shapes are the same, and the steps by the two rules
-- are compared unit by unit, from directions that may differ once a segment with text was seen (`Behind`).
use Rattle.element.proofs.Names.{ℕ, zero, suc, ◌+◌, ◌-◌, ◌*◌, ◌/◌, ◌%◌, ◌^◌, ◌≤◌, arith, not-suc-le-zero, ◌≡◌, refl, sym, ap, ◌∙◌, Bool, true}
use Rattle.element.proofs.Names.{false, true≢false, cond, ◌&&◌, ◌||◌, or-true, List, [], ◌∷◌, ◌++◌, ◌⊎◌, inl, inr, ⊎_elim, eqb, ltb, length}
use Rattle.element.proofs.Names.{drop, eqb-true, lt-ltb, le-ltb, ltb-false, clash, off, test, pick, Side, row_of, put, on, fresh, directions}
use Rattle.element.proofs.Names.{undirected, written_of, deeper_of, begun_of, reverted_of, step_of, designated_of, form_of, Standing, Sets, Directions, State}
use Rattle.element.proofs.Names.{Step, Goes, Stops, Part, Shape, Refuses, Designates, Gives, Element, End, Refused, Silent, Answer, refused_at}
use Rattle.base.proofs.Bools.{or_first, or_more, or_turn}
use Rattle.base.specs.Kind as kind
use Rattle.base.specs.Limit as limit
use Rattle.base.specs.Refusal as refusal
use Rattle.state.specs.Directions.{counts_as_text}
use Rattle.state.specs.State.{state}
use Rattle.state.specs.Elements.{Ends}
use Rattle.element.specs.Element.{shape_of, stepped_of, directed_of}
use Rattle.grammar.specs.Units.{TextUnit, char, ext, kind_of, text_octets, text_in, designation}
use Rattle.grammar.specs.Grammar.{Legal}
use Rattle.grammar.specs.Reading.{Elements, end_at, silent_at, found_at, size, onward, elements, elements_of, answer_of, check_of, direct}
use Rattle.grammar.specs.Reading.{Octets, unit_at, units_of, reading_of}
use Rattle.grammar.proofs.Sound.{Shown, Changed, Sound, refuses, designates, finds, sound, lead_size}
use Rattle.grammar.proofs.Complete.{part_size, part_some}
use Rattle.grammar.proofs.Agrees.{fresh_legal, put_legal}

-- ---- what the request asks

module _ (d : Directions) (e : ℕ) (xs : List ℕ) where
  pub text_counts : 1 ≤ text_octets xs → (c k : ℕ) → direct d (ext e xs) ≡ direct d (char c k)
  unfolding step_of pick
  text_counts h c k = rw (lt-ltb 0 (text_octets xs) h)

  pub empty_free : text_octets xs ≡ 0 → direct d (ext e xs) ≡ Goes d
  unfolding step_of pick
  empty_free h = rw h

-- an extended segment with text, and whether units have one among them
abbrev pub with_text : TextUnit → Bool
with_text u = eqb (kind_of u) kind.segment && ltb 0 (text_in u)

abbrev pub any_text : List TextUnit → Bool
any_text [] = false
any_text (u ∷ us) = with_text u || any_text us

-- ---- the rule before the request, and the reader by it

-- characters and spaces alone count as text
abbrev pub counted_before : ℕ → Bool
counted_before k = ltb k kind.tab

unfoldable pub directed_before : Shape → State → Element
directed_before Ends st = End
directed_before (Refuses n o) st = Refused n o
directed_before (Designates k d c) st = Silent k (designated_of d c st)
directed_before (Gives p) st = stepped_of p st (step_of (counted_before p.kind) p.kind st.directions)

unfoldable pub elements_before : List ℕ → ℕ → ℕ → State → Elements
unfolding onward
elements_before [] k at st = end_at at
elements_before (b ∷ t) zero at st =
    onward at (directed_before (shape_of (b ∷ t) st.sets) st) (λ k next. elements_before t k (at + 1) next)
elements_before (b ∷ t) (suc k) at st = elements_before t k (at + 1) st

unfoldable pub check_before : List ℕ → Answer
check_before s = pick (ltb limit.octets (length s)) (refused_at refusal.too_long 0) (answer_of 0 (elements_before s 0 0 fresh))

unfoldable pub reading_before : List ℕ → List TextUnit
reading_before s = units_of s (elements_before s 0 0 fresh)

-- ---- the steps of a unit by the two rules

-- directions before and now, where `seen` says whether a segment with text was read: the same, but that text was read now where none was before
pub record Behind (seen : Bool) (d e : Directions) : Type 0 where
  pub depth : d.depth ≡ e.depth
  pub levels : d.levels ≡ e.levels
  pub marked : d.marked ≡ e.marked
  pub unmarked : d.marked ≡ false → d.depth ≡ 0
  pub texted : d.texted ≡ true → e.texted ≡ true
  pub by_segment : e.texted ≡ true → (d.texted || seen) ≡ true

-- both go on, or both stop with one number, or the unit is refused 8 now and was not before
pub data Steps (seen : Bool) : Step → Step → Type 0 where
  go : {d e : Directions} → Behind seen d e → Steps seen (Goes d) (Goes e)
  stop : {n : ℕ} → Steps seen (Stops n) (Stops n)
  now : {d : Directions} → seen ≡ true → Steps seen (Goes d) (Stops refusal.direction)

both : {seen : Bool} {x y v w : Step} (q r : Bool) → q ≡ r → (q ≡ true → Steps seen x v) → (q ≡ false → Steps seen y w)
    → Steps seen (pick q x y) (pick r v w)
unfolding pick
both true true h f g = f refl
both true false h f g = absurd (true≢false h)
both false true h f g = off h
both false false h f g = g refl

module _ (seen : Bool) (d e : Directions) (b : Behind seen d e) where
  none_open : eqb d.depth 0 ≡ eqb e.depth 0
  none_open = ap (λ (n : ℕ). eqb n 0) b.depth

  -- after a mark
  after_mark : (f : ℕ → ℕ) (g : ℕ → ℕ)
      → Steps seen (Goes (directions (f d.depth) (g d.levels) true d.texted)) (Goes (directions (f e.depth) (g e.levels) true e.texted))
  after_mark f g =
      go (record {
        depth = ap f b.depth;
        levels = ap g b.levels;
        marked = refl;
        unmarked = λ x. absurd (true≢false x);
        texted = b.texted;
        by_segment = b.by_segment;
      })

  written : Steps seen (written_of d) (written_of e)
  unfolding written_of
  written = both _ _ b.marked (λ _. both _ _ none_open (λ _. stop) (λ _. go after)) (λ _. go after)
    where
      after : Behind seen (directions d.depth d.levels d.marked true) (directions e.depth e.levels e.marked true)
      after =
          record {
            depth = b.depth;
            levels = b.levels;
            marked = b.marked;
            unmarked = b.unmarked;
            texted = λ z. z;
            by_segment = λ _. refl;
          }

  deeper : (way : ℕ) → Steps seen (deeper_of way d) (deeper_of way e)
  unfolding deeper_of
  deeper way =
      both _ _ (ap (λ (n : ℕ). ltb n limit.depth) b.depth) (λ _. after_mark (λ n. n + 1) (λ v. v % 2 ^ 63 * 2 + way % 2)) (λ _. stop)

  -- the first mark, after text or not
  first_mark : (way : ℕ) → d.marked ≡ false → (q r : Bool) → d.texted ≡ q → e.texted ≡ r
      → Steps seen (pick q (Stops refusal.direction) (deeper_of way d)) (pick r (Stops refusal.direction) (deeper_of way e))
  unfolding pick deeper_of
  first_mark way m true true hq hr = stop
  first_mark way m true false hq hr = off (sym hr ∙ b.texted hq)
  first_mark way m false true hq hr = rw (b.unmarked m) (now (rw hq at (b.by_segment hr)))
  first_mark way m false false hq hr = deeper way

  begun : (way : ℕ) → Steps seen (begun_of way d) (begun_of way e)
  unfolding begun_of
  begun way = both _ _ b.marked (λ _. deeper way) (λ m. first_mark way m d.texted e.texted refl refl)

  reverted : Steps seen (reverted_of d) (reverted_of e)
  unfolding reverted_of
  reverted = both _ _ none_open (λ _. stop) (λ _. after_mark (λ n. n - 1) (λ v. v / 2))

  marks : (k : ℕ) → Steps seen (step_of false k d) (step_of false k e)
  unfolding step_of pick
  marks k =
      both (eqb k kind.left_to_right) _ refl (λ _. begun 0)
      (λ _. both (eqb k kind.right_to_left) _ refl (λ _. begun 1) (λ _. both (eqb k kind.revert) _ refl (λ _. reverted) (λ _. go b)))

  -- text that did not count before
  text_now : Steps true (Goes d) (written_of e)
  unfolding written_of pick
  text_now =
      test e.marked
      (λ m. test (eqb e.depth 0) (λ z. rw (m, z) (now refl)) (λ z. rw (m, z) (go (after true (b.marked ∙ m)))))
      (λ m. rw m (go (after false (b.marked ∙ m))))
    where
      after : (m : Bool) → d.marked ≡ m → Behind true d (directions e.depth e.levels m true)
      after m h =
          record {
            depth = b.depth;
            levels = b.levels;
            marked = h;
            unmarked = b.unmarked;
            texted = λ _. refl;
            by_segment = λ _. or-true d.texted;
          }

  -- a unit, by its kind and the octets of a text
  pub unit_steps : (k n : ℕ) → Steps ((eqb k kind.segment && ltb 0 n) || seen) (step_of (counted_before k) k d) (step_of (counts_as_text k n) k e)
  unfolding step_of pick
  unit_steps k n =
      test (eqb k kind.segment)
      (λ f. rw (eqb-true k kind.segment f) (test (ltb 0 n) (λ g. rw g text_now) (λ g. rw g (go b))))
      (λ f. test (ltb k kind.tab) (λ q. rw (f, q) written) (λ q. rw (f, q) (marks k)))

-- ---- the walk

-- elements before and now, of octets w: the same answer and units; or now a refusal 8 at a unit that was read before, with a segment with text seen
-- before or among the units up to it
data Read (seen : Bool) (w : List ℕ) (es fs : Elements) : Type 0 where
  alike : ((c : ℕ) → answer_of c fs ≡ answer_of c es) → units_of w fs ≡ units_of w es → Read seen w es fs
  refused_now : (place : ℕ) → ((c : ℕ) → answer_of c fs ≡ refused_at refusal.direction place) → (u : TextUnit) (rest : List TextUnit)
      → units_of w es ≡ units_of w fs ++ u ∷ rest → (any_text (units_of w fs ++ u ∷ []) || seen) ≡ true → Read seen w es fs

module _ {seen : Bool} (w : List ℕ) (at : ℕ) (a b : State) {es fs : Elements} where
  found : (p : Part) → Read (with_text (unit_at p w) || seen) (drop (size p) w) es fs → Read seen w (found_at at p a es) (found_at at p b fs)
  unfolding answer_of units_of
  found p (alike f g) = alike (λ c. f (c + 1)) (ap (λ (us : List TextUnit). unit_at p w ∷ us) g)
  found p (refused_now q f u us g h) =
      refused_now q (λ c. f (c + 1)) u us (ap (λ (vs : List TextUnit). unit_at p w ∷ vs) g)
      (or_turn (any_text (units_of (drop (size p) w) fs ++ u ∷ [])) (with_text (unit_at p w)) seen h)

  silent : (k : ℕ) → Read seen (drop k w) es fs → Read seen w (silent_at at k a es) (silent_at at k b fs)
  unfolding answer_of units_of
  silent k (alike f g) = alike f g
  silent k (refused_now q f u us g h) = refused_now q f u us g h

-- the octets after an element that has one at least
drop_first : (k b : ℕ) (t : List ℕ) → 1 ≤ k → drop (k - 1) t ≡ drop k (b ∷ t)
drop_first zero b t h = absurd (not-suc-le-zero h)
drop_first (suc k) b t h = let e : suc k - 1 ≡ k = omega arith in ap (λ (n : ℕ). drop n t) e

some_octets : {s : Sets} {w t : List ℕ} {p : Part} {u : TextUnit} {d : Side} → Shown s w p u d t → 1 ≤ size p
some_octets {u = u} {d = d} h = let a = part_size u d in let c = part_some u in omega (arith, h.size)

designation_octets : {w t : List ℕ} {k : ℕ} {p : Standing} → Changed w k p t → 1 ≤ k
unfolding designation
designation_octets {p = p} h =
    let size : (x : Bool) → eqb (form_of p.set) 3 ≡ x → length (designation p) ≡ cond x 4 3
    = lead_size (form_of p.set) p.side (row_of p.set).last in
    test (eqb (form_of p.set) 3) (λ e. omega (arith, h.size, size true e)) (λ e. omega (arith, h.size, size false e))

-- the elements after the first octet
abbrev Rest : List ℕ → ℕ → Type 0
Rest t at = (k : ℕ) (s : Sets) (d e : Directions) (seen : Bool) → Legal s → Behind seen d e
    → Read seen (drop k t) (elements_before t k at (state s d)) (elements t k at (state s e))

module _ (b : ℕ) (t : List ℕ) (at : ℕ) (s : Sets) (d e : Directions) (seen : Bool) (l : Legal s) (rest : Rest t (at + 1)) where
  -- a unit, by its two steps
  unit : (p : Part) {x y : Step} → 1 ≤ size p → Steps (with_text (unit_at p (b ∷ t)) || seen) x y
      → Read seen (b ∷ t) (onward at (stepped_of p (state s d) x) (λ k next. elements_before t k (at + 1) next))
      (onward at (stepped_of p (state s e) y) (λ k next. elements t k (at + 1) next))
  unfolding onward stepped_of answer_of units_of
  unit p h (go {d = f} {e = g} r) =
      found (b ∷ t) at (state s f) (state s g) p (rw (← (drop_first (size p) b t h)) (rest (size p - 1) s f g _ l r))
  unit p h stop = alike (λ c. refl) refl
  unit p h (now q) = refused_now (at + 0) (λ c. refl) (unit_at p (b ∷ t)) _ refl (or_more (with_text (unit_at p (b ∷ t))) false seen q)

  -- an element, by its shape
  shape : {x : Shape} → Behind seen d e → Sound s (b ∷ t) x
      → Read seen (b ∷ t) (onward at (directed_before x (state s d)) (λ k next. elements_before t k (at + 1) next))
      (onward at (directed_of x (state s e)) (λ k next. elements t k (at + 1) next))
  unfolding onward directed_before directed_of answer_of units_of
  shape r (refuses h) = alike (λ c. refl) refl
  shape r (designates {k} side c _ h) =
      silent (b ∷ t) at (designated_of side c (state s d)) (designated_of side c (state s e)) k
      (rw (← (drop_first k b t (designation_octets h))) (rest (k - 1) (put (on side c) s) d e seen (put_legal (on side c) s h.may l) r))
  shape r (finds {p} u side _ h) = unit p (some_octets h) (rw (h.unit, h.text, h.kind) (unit_steps seen d e r (kind_of u) (text_in u)))

walk : (t : List ℕ) (at : ℕ) → Octets t → Rest t at
unfolding elements elements_before answer_of units_of
walk [] at o k s d e seen l r = alike (λ c. refl) refl
walk (b ∷ t) at o zero s d e seen l r = shape b t at s d e seen l (walk t (at + 1) (λ i. o (suc i))) r (sound s l b t o)
walk (b ∷ t) at o (suc k) s d e seen l r = walk t (at + 1) (λ i. o (suc i)) k s d e seen l r

-- ---- the theorems

-- a string is read as before the request
pub record ReadBefore (s : List ℕ) : Type 0 where
  pub answers : check_of s ≡ check_before s
  pub units : reading_of s ≡ reading_before s

-- a string is refused 8 now, at a unit that was read before; a segment with text is among the units up to it
pub record RefusedNow (s : List ℕ) : Type 0 where
  pub place : ℕ
  pub answers : check_of s ≡ refused_at refusal.direction place
  pub unit : TextUnit
  pub rest : List TextUnit
  pub units : reading_before s ≡ reading_of s ++ unit ∷ rest
  pub text : any_text (reading_of s ++ unit ∷ []) ≡ true

-- the directions of the fresh state, where nothing was read
pub behind_fresh : Behind false undirected undirected
behind_fresh =
    record { depth = refl; levels = refl; marked = refl; unmarked = λ _. refl; texted = λ z. z; by_segment = λ z. off z }

module _ (s : List ℕ) (o : Octets s) where
  from_fresh : Read false s (elements_before s 0 0 fresh) (elements_of s)
  from_fresh = walk s 0 o 0 fresh.sets undirected undirected false fresh_legal behind_fresh

  same : ((c : ℕ) → answer_of c (elements_of s) ≡ answer_of c (elements_before s 0 0 fresh))
      → units_of s (elements_of s) ≡ units_of s (elements_before s 0 0 fresh) → ReadBefore s
  unfolding check_of check_before reading_of reading_before
  same f g = record { answers = ap (pick (ltb limit.octets (length s)) (refused_at refusal.too_long 0)) (f 0); units = g }

  -- a segment with text among the units up to one is among them all
  any_more : (us : List TextUnit) (u : TextUnit) (vs : List TextUnit) → any_text (us ++ u ∷ []) ≡ true → any_text (us ++ u ∷ vs) ≡ true
  any_more [] u vs h = rw (or_first (with_text u) h)
  any_more (v ∷ us) u vs h = test (with_text v) (λ e. rw e) (λ e. rw e (any_more us u vs (rw e at h)))

  -- a string in which no segment with text was read is read as before
  pub as_before : any_text (reading_before s) ≡ false → ReadBefore s
  unfolding reading_before
  as_before none = by from_fresh
    where
      by : Read false s (elements_before s 0 0 fresh) (elements_of s) → ReadBefore s
      by (alike f g) = same f g
      by (refused_now q f u us g h) =
          off (sym (rw g at none) ∙ any_more (units_of s (elements_of s)) u us (or_first (any_text (units_of s (elements_of s) ++ u ∷ [])) h))

  -- a string is read as before, or refused 8 now at a unit that was read before; one over the limit is refused by its length, before and now
  pub changed : length s ≤ limit.octets → ReadBefore s ⊎ RefusedNow s
  unfolding check_of reading_of reading_before pick
  changed short = by from_fresh
    where
      by : Read false s (elements_before s 0 0 fresh) (elements_of s) → ReadBefore s ⊎ RefusedNow s
      by (alike f g) = inl (same f g)
      by (refused_now q f u us g h) =
          inr (record {
            place = q;
            answers = rw (le-ltb limit.octets (length s) short) (f 0);
            unit = u;
            rest = us;
            units = g;
            text = or_first (any_text (units_of s (elements_of s) ++ u ∷ [])) h;
          })

  -- what is accepted was accepted before, with the same units
  pub accepted_before : (check_of s).number ≡ refusal.accepted → ReadBefore s
  unfolding check_of pick
  accepted_before z =
      test (ltb limit.octets (length s)) (λ e. clash (cc (rw e at z)))
      (λ e. ⊎_elim (λ r. r) (λ r. clash (cc (r.answers, z))) (changed (ltb-false limit.octets (length s) e)))
