-- Each test of the stretches says which class the octet is of (`single_start`, `pair_start`), and where a class starts a unit it is an element
-- that leaves the state: text in a state that text leaves as it is, a tab or newline in any.
use Rattle.element.proofs.Names.{ℕ, ◌+◌, ◌*◌, ◌/◌, ◌%◌, ◌<◌, ◌≤◌, arith, ◌≡◌, refl, ap, sym, ◌∙◌, subst, Bool, true, false, false≢true, List, []}
use Rattle.element.proofs.Names.{◌∷◌, ◌⊎◌, inl, inr, ⊎_elim, eqb, ltb, eqb-true, eq-eqb, ltb-true, ltb-false, leb-true, pick, on_true, on_false}
use Rattle.element.proofs.Names.{pick_last, form_96, form_94x94, form_of, Side, GL, GR, directions, written_of, step_of, part, next, get, Sets, State}
use Rattle.element.proofs.Names.{Directions, Goes, Part, Found, Shape, Gives}
use native.Mathlib.Nat.{eq-or-lt_of_le}
use Rattle.base.specs.Kind as kind
use Rattle.base.proofs.Bools.{pick_both}
use Rattle.charset.specs.Charsets.{form_94}
use Rattle.element.specs.Element.{shape_of, stepped_of, directed_of, element_of}
use Rattle.element.specs.Start.{Start, used_in, start_of, left_start, start_in, begun_by}
use Rattle.element.specs.Start as start
use Rattle.element.proofs.Starts.{On, wide_in, graphic_low, graphic, graphic_used, all_used, starts_one, starts_two}
use Rattle.grammar.specs.Reading.{size}
use Rattle.text.specs.Text.{graphic_of, second_octet_of}
pub use Rattle.stretch.specs.Characters.{number}
use Rattle.stretch.specs.Characters.{gl_octet, graphic_on, gr_octet, single_of, one_at, two_at, settled_of}
use Rattle.stretch.proofs.Law.{One}

-- ---- what a test that was passed says

-- a choice that is true: the first, or the second
which : (a x y : Bool) → pick a x y ≡ true → ((a ≡ true) × (x ≡ true)) ⊎ ((a ≡ false) × (y ≡ true))
unfolding pick
which true x y e = inl (refl, e)
which false x y e = inr (refl, e)

gl_octet_lem : (b : ℕ) → gl_octet b ≡ true → (0x20 ≤ b) × (b < 0x7F)
unfolding gl_octet
gl_octet_lem b e =
    let h = pick_last (ltb b 0x20) _ e in
    (ltb-false b 0x20 h.0, ltb-true b 0x7F h.1)

graphic_on_lem : (side b : ℕ) → graphic_on side b ≡ true → (b / 128 ≡ side) × (graphic_of (b % 128) ≡ true)
unfolding graphic_on
graphic_on_lem side b e =
    let h = pick_both (eqb (b / 128) side) _ e in
    (eqb-true _ _ h.0, h.1)

-- ---- which class it is

pub data Blank : Start → Type 0 where
  tab : Blank start.tab
  newline : Blank start.newline

-- text of one octet
pub data Text : Start → Type 0 where
  space : Text start.space
  one : (d : Side) → Text (start.one d)

pub data Lone : Start → Type 0 where
  blank : {c : Start} → Blank c → Lone c
  text : {c : Start} → Text c → Lone c

module _ (s : Sets) (b : ℕ) where
  blank_start : 0x09 ≤ b → b < 0x0B → Blank (start_in s b)
  unfolding start_of pick
  blank_start h k =
      ⊎_elim
      (λ (q : 0x09 ≡ b). rw (← q) tab)
      (λ (q : 0x09 < b). let z : b ≡ 0x0A = omega arith in rw z newline)
      (eq-or-lt_of_le h)

  pub one_start : (d : Side) → On d b → used_in (form_of (get d s)) b ≡ true → wide_in d s ≡ false → Text (start_in s b)
  one_start d h u w = subst Text (starts_one s b d h u w) (one d)

  pub left_start_lem : 0x20 ≤ b → b < 0x7F → wide_in GL s ≡ false → Text (start_in s b)
  unfolding start_of left_start pick
  left_start_lem h k n =
      ⊎_elim
      (λ (q : 0x20 ≡ b). rw (← q, n) space)
      (λ (q : 0x20 < b). one_start GL (omega arith, k) (graphic_used (form_of s.gl) b (graphic (b % 128) (omega arith) (omega arith))) n)
      (eq-or-lt_of_le h)

  right_start : gr_octet (form_of s.gr) b ≡ true → Text (start_in s b)
  unfolding gr_octet
  right_start e =
      let l = pick_last (ltb b 0xA0) _ e in
      let h = ltb-false b 0xA0 l.0 in
      ⊎_elim
      (λ k.
      let z : form_of s.gr ≡ form_96 = eqb-true _ _ k.0 in
      one_start GR h (all_used _ b z) (rw z))
      (λ k.
      let x = pick_both (eqb (form_of s.gr) form_94) _ k.1 in
      let z : form_of s.gr ≡ form_94 = eqb-true _ _ x.0 in
      one_start GR h (graphic_used _ b (graphic_on_lem 1 b x.1).1) (rw z))
      (which (eqb (form_of s.gr) form_96) _ _ l.1)

  single_start : single_of (form_of s.gl) (form_of s.gr) b ≡ true → Lone (start_in s b)
  unfolding single_of
  single_start e =
      ⊎_elim
      (λ k. let r = gl_octet_lem b k.0 in text (left_start_lem r.0 r.1 (pick_last (wide_in GL s) true k.1).0))
      (λ k. ⊎_elim
      (λ x. blank (blank_start (leb-true 0x09 b x.1) (ltb-true b 0x0B x.0)))
      (λ x. text (right_start x.1))
      (which (ltb b 0x0B) _ _ k.1))
      (which (gl_octet b) _ _ e)

pair_start : (d : Side) (b : ℕ) → graphic_on (number d) b ≡ true → On d b
pair_start GL b e =
    let h = graphic_on_lem 0 b e in
    let k = graphic_low (b % 128) h.1 in
    (omega (arith, h.0, k.0), omega (arith, h.0, k.1))
pair_start GR b e =
    let h = graphic_on_lem 1 b e in
    let k = graphic_low (b % 128) h.1 in
    omega (arith, h.0, k.0)

-- ---- a step that leaves the directions

module _ (d : Directions) (settled : settled_of d ≡ true) where
  texted : d.texted ≡ true
  unfolding settled_of
  texted = (pick_both d.texted _ settled).0

  open_or_unmarked : (d.marked ≡ false) ⊎ ((d.marked ≡ true) × (eqb d.depth 0 ≡ false))
  unfolding settled_of
  open_or_unmarked =
      ⊎_elim (λ h. inr (h.0, (pick_last (eqb d.depth 0) true h.1).0)) (λ h. inl h.0)
      (which d.marked _ _ (pick_both d.texted _ settled).1)

  same : directions d.depth d.levels d.marked true ≡ d
  same = let e : true ≡ d.texted = sym texted in rw e

  written : Goes d ≡ written_of d
  unfolding written_of
  written =
      ⊎_elim
      (λ m. on_false d.marked _ _ _ m (ap Goes (sym same)))
      (λ m. on_true d.marked _ _ _ m.0 (on_false (eqb d.depth 0) _ _ _ m.1 (ap Goes (sym same))))
      open_or_unmarked

-- ---- elements that are no text, in any state

module _ (st : State) where
  -- a unit that the direction rule lets pass and that leaves the directions
  leaves : (p : Part) → Goes st.directions ≡ step_of p.text p.kind st.directions → directed_of (Gives p) st ≡ Found p st
  unfolding directed_of stepped_of
  leaves p h = rw (← h)

  blank_one : (b : ℕ) (t : List ℕ) {c : Start} → Blank c → One 1 st (directed_of (begun_by c b t st.sets) st)
  unfolding begun_by step_of pick
  blank_one b t tab = record { unit = part kind.tab 0 0 0 1 false; is = leaves _ refl; sized = refl }
  blank_one b t newline = record { unit = part kind.newline 0 0 0 1 false; is = leaves _ refl; sized = refl }

  pub blank_octet : (b : ℕ) (t : List ℕ) → one_at form_94x94 0 (b ∷ t) ≡ true → One 1 st (element_of (b ∷ t) st)
  unfolding shape_of one_at single_of gr_octet pick
  blank_octet b t e =
      ⊎_elim
      (λ k. absurd (false≢true k.1))
      (λ k. ⊎_elim
      (λ x. blank_one b t (blank_start st.sets b (leb-true 0x09 b x.1) (ltb-true b 0x0B x.0)))
      (λ x. absurd (false≢true (pick_last (ltb b 0xA0) _ x.1).1))
      (which (ltb b 0x0B) _ _ k.1))
      (which (gl_octet b) _ _ e)

-- ---- text, in a settled state

-- a shape of n octets that gives a character or space
pub record Written (n : ℕ) (x : Shape) : Type 0 where
  pub unit : Part
  pub is : x ≡ Gives unit
  pub text : unit.text ≡ true
  pub kind : unit.kind < 2
  pub sized : size unit ≡ n

module _ (s : Sets) (b : ℕ) where
  pub written_one : (t : List ℕ) {c : Start} → Text c → Written 1 (begun_by c b t s)
  unfolding begun_by
  written_one t space = record { unit = part kind.space 0 0 0 1 true; is = refl; text = refl; kind = omega arith; sized = refl }
  written_one t (one d) =
      record { unit = part kind.character (get d s) (b % 128) 0 1 true; is = refl; text = refl; kind = omega arith; sized = refl }

  pub written_two : (d : Side) (y : ℕ) (t : List ℕ) → wide_in d s ≡ true → On d b → graphic_of (b % 128) ≡ true → y / 128 ≡ b / 128
      → graphic_of (y % 128) ≡ true → Written 2 (shape_of (b ∷ y ∷ t) s)
  unfolding shape_of begun_by second_octet_of next pick
  written_two d y t w h g e i =
      record {
        unit = part kind.character (get d s) (b % 128 * 256 + y % 128) 0 2 true;
        is = rw (← (starts_two s b d h g w), eq-eqb (y / 128) (b / 128) e, i);
        text = refl;
        kind = omega arith;
        sized = refl;
      }

module _ (st : State) (settled : settled_of st.directions ≡ true) where
  pub written_found : {n : ℕ} {x : Shape} (w : Written n x) → directed_of x st ≡ Found w.unit st
  unfolding step_of
  written_found w = rw w.is (leaves st w.unit (on_true w.unit.text _ _ _ w.text (written st.directions settled)))

  pub found : {n : ℕ} {x : Shape} → Written n x → One n st (directed_of x st)
  found w = record { unit = w.unit; is = written_found w; sized = w.sized }

  pub lone_one : (b : ℕ) (t : List ℕ) {c : Start} → Lone c → One 1 st (directed_of (begun_by c b t st.sets) st)
  lone_one b t (blank k) = blank_one st b t k
  lone_one b t (text k) = found (written_one st.sets b t k)

  -- one octet
  pub one_octet : (b : ℕ) (t : List ℕ) → one_at (form_of st.sets.gl) (form_of st.sets.gr) (b ∷ t) ≡ true → One 1 st (element_of (b ∷ t) st)
  unfolding shape_of one_at
  one_octet b t e = lone_one b t (single_start st.sets b e)

  -- two octets of a side
  pub two_octets : (d : Side) → wide_in d st.sets ≡ true → (b : ℕ) (t : List ℕ) → two_at (number d) (b ∷ t) ≡ true
      → One 2 st (element_of (b ∷ t) st)
  unfolding two_at
  two_octets d w b [] e = absurd (false≢true e)
  two_octets d w b (y ∷ t) e =
      let x = pick_both (graphic_on (number d) b) _ e in
      let g = graphic_on_lem (number d) b x.0 in
      let i = graphic_on_lem (number d) y x.1 in
      found (written_two st.sets b d y t w (pair_start d b x.0) g.1 (i.0 ∙ sym g.0) i.1)
