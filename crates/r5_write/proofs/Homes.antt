-- The octets of a record that is refused for nothing. It is a character of a set that uses its code, a space, a tab or a newline (`Fine`), and in each case
-- what the program makes of its fields is what `home_octets` and `home_after` say of its unit (`way`), with sets in force that the pen may have (`Legal`).
use Rattle.element.proofs.Names.{ℕ, ◌+◌, ◌/◌, ◌%◌, ◌≤◌, ◌<◌, arith, ◌≡◌, refl, sym, ap, ap₂, ◌∙◌, Bool, true, false, ◌&&◌, List, [], ◌∷◌, ◌++◌}
use Rattle.element.proofs.Names.{some, length, length-append, take, drop, eqb, leb, ltb, ne_eqb, eqb-true, ltb-true, ltb-false, le-ltb}
use Rattle.element.proofs.Names.{le-leb, lt-leb, test, tested, and_left, and_right, pick, on, put, GL, allowed, no_set, first_double, form_of}
use Rattle.element.proofs.Names.{UnitRecord, Side, Standing, Sets, may_use, subst, cond, true≢false, false≢true, none, row_of, Option}
use Rattle.element.proofs.Names.{◌⊎◌, inl, inr, cond_by, pick_by}
use Rattle.base.proofs.Bools.{◌&◌, each}
use Rattle.base.specs.Kind as kind
use Rattle.base.specs.Refusal as refusal
use Rattle.charset.proofs.Laws.{narrow_form, wide_form}
use Rattle.grammar.specs.Units.{TextUnit, char, space, unit_of, wide, top, octets, designation, code_used, good}
use Rattle.grammar.specs.Records.{readable, unit_read}
use Rattle.grammar.proofs.Good.{one_code, two_code}
use Rattle.grammar.proofs.Sound.{lead_size}
use Rattle.shortest.specs.Writing.{Need, either, stands, met, used, after, designated}
use Rattle.state.specs.State.{sets}
use Rattle.unit_octets.specs.Octets.{side_of}
use Rattle.x11r5.specs.Records.{record_refusal}
use Rattle.x11r5.specs.Writing.{home_need, home_choice, home_after, home_octets}
use Rattle.r5_units.specs.Unit.{space_set, text_set, text_code, stands_on, text_octets, control_octet, is_left, naming, width_of, designated_width}

-- ---- which records are refused for nothing

pub data Fine (r : UnitRecord) : Type 0 where
  character : r.kind ≡ kind.character → r.set < no_set → code_used (form_of r.set) r.code ≡ true → Fine r
  spaced : r.kind ≡ kind.space → Fine r
  tabbed : r.kind ≡ kind.tab → Fine r
  lined : r.kind ≡ kind.newline → Fine r

-- its unit, which has no octets of a segment
abbrev pub unit_by : UnitRecord → TextUnit
unit_by r = unit_of r.kind r.set r.code []

pub fine_read : (o : List ℕ) (r : UnitRecord) → Fine r → unit_read o r ≡ some (unit_by r)
unfolding unit_read readable unit_of
fine_read o r (character e h u) = rw e
fine_read o r (spaced e) = rw e
fine_read o r (tabbed e) = rw e
fine_read o r (lined e) = rw e

module _ (o : List ℕ) (r : UnitRecord) (z : record_refusal (unit_read o r) ≡ refusal.accepted) where
  fine_character : r.kind ≡ kind.character → Fine r
  unfolding unit_read readable unit_of record_refusal good
  fine_character e =
      test (ltb r.set no_set && code_used (form_of r.set) r.code)
      (λ g. character e (ltb-true r.set no_set (and_left _ _ g)) (and_right (ltb r.set no_set) _ g))
      (λ g. absurd (omega (arith, rw (e, g) at z)))

  not_segment : r.kind ≡ kind.segment → Fine r
  unfolding unit_read readable unit_of record_refusal
  not_segment e =
      test (leb (r.start + r.length) (length o))
      (λ q. let y = rw (e, q) at z in
      test (good (unit_of 7 r.set r.code (take r.length (drop r.start o))))
      (λ g. absurd (omega (arith, rw g at y)))
      (λ g. test (leb 0x30 r.code && leb r.code 0x34) (λ d. absurd (omega (arith, rw (g, d) at y))) (λ d. absurd (omega (arith, rw (g, d) at y)))))
      (λ q. absurd (omega (arith, rw (e, q) at z)))

  not_above : kind.segment < r.kind → Fine r
  unfolding unit_read readable record_refusal
  not_above h = absurd (omega (arith, rw (ne_eqb r.kind 7 (λ e. omega arith), le-ltb r.kind 7 (omega arith)) at z))

  not_mark : kind.left_to_right ≤ r.kind → r.kind < kind.segment → Fine r
  unfolding unit_read readable unit_of record_refusal good
  not_mark l h =
      each 7 (λ k. r.kind ≡ k → Fine r)
      ((λ e. absurd (omega arith)) & (λ e. absurd (omega arith)) & (λ e. absurd (omega arith)) & (λ e. absurd (omega arith))
      & (λ e. absurd (omega (arith, rw e at z))) & (λ e. absurd (omega (arith, rw e at z))) & (λ e. absurd (omega (arith, rw e at z))) & tt)
      r.kind h refl

  pub fine_record : Fine r
  fine_record =
      test (ltb r.kind 4)
      (λ p. each 4 (λ k. r.kind ≡ k → Fine r) (fine_character & spaced & tabbed & lined & tt) r.kind (ltb-true r.kind 4 p) refl)
      (λ p. test (ltb r.kind 7) (λ q. not_mark (ltb-false r.kind 4 p) (ltb-true r.kind 7 q))
      (λ q. test (eqb r.kind 7) (λ s. not_segment (eqb-true r.kind 7 s)) (λ s. not_above (omega tested))))

-- ---- sets in force that the pen may have: in GL one that may stand there, in GR one that may not stand in GL

pub record Legal (gl gr : ℕ) : Type 0 where
  pub in_gl : allowed GL gl ≡ true
  pub in_gr : allowed GL gr ≡ false

pub legal_fresh : Legal 0 3
unfolding allowed may_use
legal_fresh = record { in_gl = refl; in_gr = refl }

pub legal_moved : (c gl gr : ℕ) → Legal gl gr → Legal (pick (is_left c) c gl) (pick (is_left c) gr c)
unfolding pick
legal_moved c gl gr l = by (is_left c) refl
  where
    by : (b : Bool) → is_left c ≡ b → Legal (pick b c gl) (pick b gr c)
    by true e = record { in_gl = e; in_gr = l.in_gr }
    by false e = record { in_gl = l.in_gl; in_gr = e }

-- the set on a side
abbrev on_side : Bool → ℕ → ℕ → ℕ
on_side left gl gr = cond left gl gr

module _ (c gl gr : ℕ) (l : Legal gl gr) where
  -- so a set stands exactly where it stands on its own side
  legal_stands : (b : Bool) → is_left c ≡ b → stands_on c gl gr ≡ eqb (on_side b gl gr) c
  unfolding stands_on pick
  legal_stands true e =
      test (eqb gl c) (λ q. rw q)
      (λ q. rw q (ne_eqb gr c (λ z. false≢true (sym l.in_gr ∙ ap (λ (x : ℕ). allowed GL x) z ∙ e))))
  legal_stands false e =
      rw (ne_eqb gl c (λ z. true≢false (sym l.in_gl ∙ ap (λ (x : ℕ). allowed GL x) z ∙ e)))

  -- and there it is written
  legal_side : stands_on c gl gr ≡ true → eqb gl c ≡ is_left c
  legal_side h = by (is_left c) refl
    where
      by : (b : Bool) → is_left c ≡ b → eqb gl c ≡ b
      by true e = sym (legal_stands true e) ∙ h
      by false e = ne_eqb gl c (λ z. true≢false (sym l.in_gl ∙ ap (λ (x : ℕ). allowed GL x) z ∙ e))

-- ---- how many octets

pub width_is : (c k : ℕ) (left : Bool) → width_of c ≡ length (text_octets c k left)
unfolding width_of text_octets pick
width_is c k left = test (leb first_double c) (λ q. rw q) (λ q. rw q)

naming_count : (c : ℕ) → c < no_set → length (naming c) ≡ cond (leb first_double c) 4 3
unfolding designation
naming_count c h =
    test (ltb c first_double)
    (λ p. let l = ltb-true c first_double p in rw (lt-leb first_double c l)
    (lead_size (form_of c) (side_of (is_left c)) (row_of c).last false (narrow_form c l)))
    (λ p. let l = ltb-false c first_double p in
    rw (le-leb first_double c l) (lead_size (form_of c) (side_of (is_left c)) (row_of c).last true (wide_form c l h)))

pub designated_is : (c k : ℕ) (left : Bool) → c < no_set → designated_width c ≡ length (naming c ++ text_octets c k left)
unfolding designated_width text_octets pick
designated_is c k left h =
    let n = length-append (naming c) (text_octets c k left) in
    let m = naming_count c h in
    test (leb first_double c) (λ q. rw q (omega (arith, rw q at n, rw q at m))) (λ q. rw q (omega (arith, rw q at n, rw q at m)))

-- ---- a character or a space: its set stands, or it is designated

pub data TextWay (u : TextUnit) (c k gl gr : ℕ) : Type 0 where
  stays : stands_on c gl gr ≡ true → home_octets u (sets gl gr) ≡ text_octets c k (eqb gl c) → home_after u (sets gl gr) ≡ sets gl gr
      → TextWay u c k gl gr
  changes : stands_on c gl gr ≡ false → home_octets u (sets gl gr) ≡ naming c ++ text_octets c k (is_left c)
      → home_after u (sets gl gr) ≡ sets (pick (is_left c) c gl) (pick (is_left c) gr c) → c < no_set → TextWay u c k gl gr

-- a character's octets on a side, where its set uses its code
char_octets : (c k : ℕ) (left : Bool) → c < no_set → code_used (form_of c) k ≡ true → octets (side_of left) (char c k) ≡ text_octets c k left
unfolding octets text_octets wide pick
char_octets c k left h u =
    test (ltb c first_double)
    (λ p. let l = ltb-true c first_double p in
    let n = narrow_form c l in
    let b = one_code (form_of c) k n u in
    rw (n, lt-leb first_double c l) (ap (λ (x : ℕ). (top (side_of left) + x) ∷ []) (let z : k ≡ k % 256 % 128 = omega (arith, b) in z)))
    (λ p. let l = ltb-false c first_double p in
    let w = wide_form c l h in
    let b = two_code (form_of c) k w u in
    rw (w, le-leb first_double c l)
    (ap₂ (λ (x y : ℕ). (top (side_of left) + x) ∷ (top (side_of left) + y) ∷ [])
    (let z : k / 256 ≡ k / 256 % 128 = omega (arith, b.0) in z) (let z : k % 256 ≡ k % 256 % 128 = omega (arith, b.1) in z)))

-- what is designated for a set on a side, by whether it stands there
module _ (c gl gr : ℕ) where
  abbrev its : Bool → Need
  its left = either (on (side_of left) c) (on (side_of left) c)

  abbrev choice : Bool → Option Standing
  choice left = home_choice (its left) (sets gl gr)

  chooses_none : (left : Bool) → eqb (on_side left gl gr) c ≡ true → choice left ≡ none
  unfolding home_choice met stands
  chooses_none true e = rw e
  chooses_none false e = rw e

  chooses_some : (left : Bool) → eqb (on_side left gl gr) c ≡ false → choice left ≡ some (on (side_of left) c)
  unfolding home_choice met stands
  chooses_some true e = rw e
  chooses_some false e = rw e

  some_after : (left : Bool) → after (some (on (side_of left) c)) (sets gl gr) ≡ sets (pick left c gl) (pick left gr c)
  unfolding put pick
  some_after true = refl
  some_after false = refl

  its_side : (left : Bool) (s : Sets) → used (its left) s ≡ side_of left
  unfolding used
  its_side left s = cond_by (λ (d : Side). d ≡ side_of left) (stands (on (side_of left) c) s) (λ _. refl) (λ _. refl)

  module _ (k : ℕ) (h : c < no_set) (u : code_used (form_of c) k ≡ true) (l : Legal gl gr) where
    own-octets : (s : Sets) → octets (used (its (is_left c)) s) (char c k) ≡ text_octets c k (is_left c)
    own-octets s = ap (λ (d : Side). octets d (char c k)) (its_side (is_left c) s) ∙ char_octets c k (is_left c) h u

    pub char_way : TextWay (char c k) c k gl gr
    unfolding home_need
    char_way =
        test (stands_on c gl gr)
        (λ e. let z = chooses_none (is_left c) (sym (legal_stands c gl gr l (is_left c) refl) ∙ e) in
        stays e
        (ap₂ (λ (o : Option Standing) (x : List ℕ). designated o ++ x) z (own-octets _)
        ∙ ap (λ (b : Bool). text_octets c k b) (sym (legal_side c gl gr l e)))
        (ap (λ (o : Option Standing). after o (sets gl gr)) z))
        (λ e. let z = chooses_some (is_left c) (sym (legal_stands c gl gr l (is_left c) refl) ∙ e) in
        changes e (ap₂ (λ (o : Option Standing) (x : List ℕ). designated o ++ x) z (own-octets _))
        (ap (λ (o : Option Standing). after o (sets gl gr)) z ∙ some_after (is_left c)) h)

-- a space, whose code is 20, under set 2 where that stands in GL and else under set 0
space_under : (gl gr c : ℕ) → (c ≡ 0) ⊎ (c ≡ 2) → gl ≡ c → TextWay space c 0x20 gl gr
unfolding stands_on text_octets home_need home_choice met stands used octets pick
space_under gl gr c (inl z) e = let y : gl ≡ 0 = e ∙ z in rw (y, z) (stays refl refl refl)
space_under gl gr c (inr z) e = let y : gl ≡ 2 = e ∙ z in rw (y, z) (stays refl refl refl)

space_after : (gl gr : ℕ) → Legal gl gr → eqb gl 2 ≡ false → eqb gl 0 ≡ false → TextWay space 0 0x20 gl gr
unfolding stands_on text_octets home_need home_choice met stands used octets put allowed may_use pick
space_after gl gr l a b =
    let z : eqb gr 0 ≡ false = ne_eqb gr 0 (λ q. false≢true (sym l.in_gr ∙ ap (λ (x : ℕ). allowed GL x) q)) in
    changes (rw (b, z)) (rw (a, b)) (rw (a, b)) (omega arith)

space_way : (gl gr : ℕ) → Legal gl gr → TextWay space (space_set gl) 0x20 gl gr
unfolding space_set
space_way gl gr l =
    pick_by (λ (c : ℕ). TextWay space c 0x20 gl gr) (eqb gl 2) (λ q. space_under gl gr 2 (inr refl) (eqb-true gl 2 q))
    (λ q. test (eqb gl 0) (λ z. space_under gl gr 0 (inl refl) (eqb-true gl 0 z)) (λ z. space_after gl gr l q z))

-- ---- the law

pub data Way (r : UnitRecord) (gl gr : ℕ) : Type 0 where
  text : r.kind ≤ kind.space → TextWay (unit_by r) (text_set r gl) (text_code r) gl gr → Way r gl gr
  controls : kind.space < r.kind → home_octets (unit_by r) (sets gl gr) ≡ control_octet r.kind ∷ [] → home_after (unit_by r) (sets gl gr) ≡ sets gl gr
      → Way r gl gr

module _ (r : UnitRecord) (gl gr : ℕ) (l : Legal gl gr) where
  same_way : {u v : TextUnit} {c d k j : ℕ} → u ≡ v → c ≡ d → k ≡ j → TextWay v d j gl gr → TextWay u c k gl gr
  same_way {u} {v} {c} {d} {k} {j} eu ec ek w =
      subst (λ (x : TextUnit). TextWay x c k gl gr) (sym eu)
      (subst (λ (x : ℕ). TextWay v x k gl gr) (sym ec) (subst (λ (x : ℕ). TextWay v d x gl gr) (sym ek) w))

  way_character : r.kind ≡ kind.character → r.set < no_set → code_used (form_of r.set) r.code ≡ true → Way r gl gr
  unfolding unit_of text_set text_code pick
  way_character e h u =
      text (omega (arith, e))
      (same_way (let z : unit_by r ≡ char r.set r.code = rw e in z) (let z : text_set r gl ≡ r.set = rw e in z)
      (let z : text_code r ≡ r.code = rw e in z) (char_way r.set gl gr r.code h u l))

  way_space : r.kind ≡ kind.space → Way r gl gr
  unfolding unit_of text_set text_code pick
  way_space e =
      text (omega (arith, e))
      (same_way (let z : unit_by r ≡ space = rw e in z) (let z : text_set r gl ≡ space_set gl = rw e in z) (let z : text_code r ≡ 0x20 = rw e in z)
      (space_way gl gr l))

  way_control : (r.kind ≡ kind.tab) ⊎ (r.kind ≡ kind.newline) → Way r gl gr
  unfolding unit_of home_need home_choice used octets control_octet pick
  way_control (inl e) = controls (omega (arith, e)) (rw e) (rw e)
  way_control (inr e) = controls (omega (arith, e)) (rw e) (rw e)

  pub way : Fine r → Way r gl gr
  way (character e h u) = way_character e h u
  way (spaced e) = way_space e
  way (tabbed e) = way_control (inl e)
  way (lined e) = way_control (inr e)
