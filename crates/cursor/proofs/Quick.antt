-- Where the octets at a cursor are taken for text, the element there is refused or is that text, whatever the directions are (`quick_turn`): by
-- the class of the first octet, which starts no control.
use Rattle.element.proofs.Names.{ℕ, ◌+◌, ◌*◌, ◌%◌, ◌^◌, ◌≤◌, ◌<◌, arith, ◌≡◌, refl, ap, sym, ◌∙◌, Bool, true, false, false≢true, List, [], ◌∷◌}
use Rattle.element.proofs.Names.{◌⊎◌, inl, inr, ⊎_elim, ltb, eqb-false, ltb-true, ltb-false, lt-ltb, lt-leb, pick, off, pick_last, on_ge, on_lt}
use Rattle.element.proofs.Names.{no_set, first_double}
use Rattle.element.proofs.Names.{Side, GL, GR, part, next, written_of, step_of, get, State, Sets, Step, Part, Element, Refused, Found, Shape, Refuses, Gives}
use Rattle.base.specs.Kind as kind
use Rattle.charset.proofs.Laws.{narrow_form, wide_form}
use Rattle.state.specs.Directions.{in_force_of}
use Rattle.text.specs.Text.{second_octet_of}
use Rattle.element.specs.Element.{shape_of, stepped_of, directed_of, element_of}
use Rattle.element.specs.Start.{Start, begun_by}
use Rattle.element.proofs.Starts.{On, above, Starts, starts}
use Rattle.element.proofs.Starts as start
use Rattle.cursor.specs.Cursor.{cursor, turn, text_octet, set_at, kind_at, if_graphic, double_of, octet_of, quick_of}
use Rattle.cursor.specs.declared.Turn.{Turn}
use Rattle.cursor.proofs.Free.{texted}

-- ---- a shape that is refused, or gives one part; and such an element, which leaves the sets

data Bare (p : Part) : Shape → Type 0 where
  bad : {n o : ℕ} → Bare p (Refuses n o)
  good : Bare p (Gives p)

only_pick : {p : Part} (b : Bool) (x y : Shape) → (b ≡ true → Bare p x) → (b ≡ false → Bare p y) → Bare p (pick b x y)
unfolding pick
only_pick true x y h k = h refl
only_pick false x y h k = k refl

pub data Only (p : Part) (st : State) : Element → Type 0 where
  refused : {n o : ℕ} → Only p st (Refused n o)
  found : Only p st (Found p (texted st))

-- a part that is text
abbrev pub text_part : ℕ → ℕ → ℕ → ℕ → Part
text_part k set code octets = part k set code 0 octets true

module _ (p : Part) (st : State) where
  either : (b : Bool) (x y : Step) → Only p st (stepped_of p st x) → Only p st (stepped_of p st y) → Only p st (stepped_of p st (pick b x y))
  unfolding pick
  either true x y h k = h
  either false x y h k = k

  -- the direction rule refuses text or marks that it was read
  written : Only p st (stepped_of p st (written_of st.directions))
  unfolding written_of stepped_of
  written = either _ _ _ (either _ _ _ refused found) found

directed : (st : State) (k set code octets : ℕ) {x : Shape} → Bare (text_part k set code octets) x → Only (text_part k set code octets) st (directed_of x st)
unfolding directed_of step_of pick
directed st k set code octets bad = refused
directed st k set code octets good = written (text_part k set code octets) st

-- ---- text, by the class of its first octet

text_range : (b : ℕ) → text_octet b ≡ true → (0x20 ≤ b) × (b ≡ 0x9B → ⊥)
unfolding text_octet pick
text_range b e = (ltb-false b 0x20 (pick_last (ltb b 0x20) _ e).0, λ q. false≢true (rw q at e))

module _ (s : Sets) (b set : ℕ) (text : text_octet b ≡ true) (here : set ≡ set_at b s) where
  -- the set on its side
  set_is : (d : Side) → On d b → set ≡ get d s
  unfolding set_at
  set_is GL h = here ∙ sym (on_lt b 0x80 _ _ _ (omega (arith, h.1)) refl)
  set_is GR h = here ∙ sym (on_ge b 0x80 _ _ _ (omega (arith, h)) refl)

  -- an octet that is no control
  no_control : {A : Type 0} → ((b < 0x20) ⊎ (b ≡ 0x9B)) → A
  no_control h = absurd (⊎_elim (λ k. omega (arith, (text_range b text).0, k)) (text_range b text).1 h)

  -- what one octet is taken for, the set on its side being known
  abbrev one_part : Part
  one_part = text_part (kind_at b) (if_graphic b set) (if_graphic b (b % 128)) 1

  character_part : 0x20 < b → text_part kind.character set (b % 128) 1 ≡ one_part
  unfolding kind_at if_graphic pick
  character_part h = rw (lt-ltb 0x20 b h, lt-leb b 0x20 h)

  single_only : (t : List ℕ) → set < first_double → Bare one_part (shape_of (b ∷ t) s)
  unfolding shape_of begun_by kind_at if_graphic pick
  single_only t l = by (starts s b)
    where
      by : {c : Start} → Starts s b c → Bare one_part (begun_by c b t s)
      by (start.escape e) = no_control (inl (omega arith))
      by (start.mark e) = no_control (inr e)
      by (start.tab e) = no_control (inl (omega arith))
      by (start.newline e) = no_control (inl (omega arith))
      by (start.space e n) = rw e good
      by (start.one d h u n) = rw (← (set_is d h), ← (character_part (above d h))) good
      by (start.two d h g w) = off (sym (narrow_form set l) ∙ rw (set_is d h) w)
      by start.unused = bad

  -- and what two are
  abbrev two_part : ℕ → Part
  two_part y = text_part kind.character set (b % 128 * 256 + y % 128) 2

  double_only : (y : ℕ) (t : List ℕ) → (b ≡ 0x20 → ⊥) → first_double ≤ set → set < no_set → Bare (two_part y) (shape_of (b ∷ y ∷ t) s)
  unfolding shape_of begun_by second_octet_of next
  double_only y t n k l = by (starts s b)
    where
      by : {c : Start} → Starts s b c → Bare (two_part y) (begun_by c b (y ∷ t) s)
      by (start.escape e) = no_control (inl (omega arith))
      by (start.mark e) = no_control (inr e)
      by (start.tab e) = no_control (inl (omega arith))
      by (start.newline e) = no_control (inl (omega arith))
      by (start.space e w) = absurd (n e)
      by (start.one d h u w) = off (sym (rw (← (set_is d h)) at w) ∙ wide_form set k l)
      by (start.two d h g w) = rw (← (set_is d h)) (only_pick _ _ _ (λ _. only_pick _ _ _ (λ _. good) (λ _. bad)) (λ _. bad))
      by start.unused = bad

-- ---- the turn at a cursor

-- the turn of text
abbrev pub text_at : ℕ → State → ℕ → ℕ → ℕ → ℕ → Turn
text_at at st k set code octets =
    turn
    (record {
      kind = k;
      set = set;
      code = code;
      start = at % 2 ^ 32;
      length = octets;
      direction = in_force_of st.directions;
      depth = st.directions.depth;
    })
    (cursor (at + octets) st)

-- the element at the start of octets under a state, and the turn that is taken for its at a cursor with a state of the same sets: that of
-- text, or the other
module _ (at : ℕ) (st to : State) (same : st.sets ≡ to.sets) (other : Turn) where
  pub data Quick (e : Element) : Turn → Type 0 where
    as-text : (k set code octets : ℕ) → Only (text_part k set code octets) st e → Quick e (text_at at to k set code octets)
    as-other : Quick e other

  quick_pick : {e : Element} (b : Bool) (x y : Turn) → (b ≡ true → Quick e x) → (b ≡ false → Quick e y) → Quick e (pick b x y)
  unfolding pick
  quick_pick true x y h k = h refl
  quick_pick false x y h k = k refl

  quick_double : (b set : ℕ) (t : List ℕ) → text_octet b ≡ true → set ≡ set_at b st.sets → first_double ≤ set
      → Quick (element_of (b ∷ t) st) (double_of at b t set to other)
  unfolding double_of
  quick_double b set [] h i k = as-other
  quick_double b set (d ∷ t) h i k =
      quick_pick _ _ _ (λ _. as-other)
      (λ n. quick_pick _ _ _
      (λ l. as-text _ _ _ _ (directed st _ _ _ _ (double_only st.sets b set h i d t (eqb-false _ _ n) k (ltb-true _ _ l))))
      (λ _. as-other))

  pub quick_turn : (t : List ℕ) → Quick (element_of t st) (quick_of at t to other)
  unfolding quick_of octet_of
  quick_turn [] = as-other
  quick_turn (b ∷ t) =
      let i : set_at b to.sets ≡ set_at b st.sets = ap (set_at b) (sym same) in
      quick_pick _ _ _
      (λ h. quick_pick _ _ _
      (λ k. as-text _ _ _ _ (directed st _ _ _ _ (single_only st.sets b (set_at b to.sets) h i t (ltb-true _ _ k))))
      (λ k. quick_double b (set_at b to.sets) t h i (ltb-false _ _ k)))
      (λ _. as-other)
