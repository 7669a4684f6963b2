-- What is passed by the classes of its octets is elements that leave the state (`Leaves`): units of one octet (`ones_leads`), a character of two
-- (`two_leaves`), octets of a span (`span_leaves`, `left_twos`, `right_twos`). By the table's rule an octet of a class starts what the class starts,
-- and of that `stretch` has shown which element it is. So a stretch that the code has found by the entries of a row of the table is such elements
-- (`stretch-leaves`), and with designations between them they lead on (`Reaches`).
use Rattle.element.proofs.Names.{ℕ, zero, suc, ◌+◌, ◌*◌, ◌-◌, ◌/◌, ◌%◌, ◌<◌, ◌≤◌, arith, ◌≡◌, refl, ap, sym, ◌∙◌, subst, true, false, List}
use Rattle.element.proofs.Names.{length, length-take, length-drop, get_or, pick, from, from_octet, Side, GL, GR, State, Sets}
use Rattle.element.proofs.Names.{⊎_elim, on_eq, fresh, form_of, no_set, on, put}
use native.Mathlib.Nat.{eq-or-lt_of_le}
use lib.Seq.{get_or-drop, get_or-take}
use Rattle.text.specs.Text.{graphic_of}
use Rattle.element.specs.Element.{shape_of, element_of}
use Rattle.element.specs.Start.{Start, start_in}
use Rattle.element.specs.Start as start
use Rattle.element.proofs.Sizes.{found, silent}
use Rattle.element.proofs.Starts.{On, wide_in, Starts, starts, graphic, graphic_used, all_used}
use Rattle.element.proofs.Starts as starts-of
use Rattle.grammar.specs.Reading.{answer_of}
use Rattle.grammar.proofs.Places.{at_passed, step_passed}
use Rattle.designations.specs.Designation.{sequence_of, told_of, form_after, designation_at}
use Rattle.designations.specs.declared.Designation.{Designation}
use Rattle.designations.proofs.Designations.{designation_silent, told_set, form_told, on_four}
use Rattle.state.specs.State.{state}
use Rattle.octet_blocks.specs.Blocks.{Within}
use Rattle.octet_stretches.specs.Stretched.{Entry, Ones, Stretched}
use Rattle.octet_stretches.specs.Stretched as by
use Rattle.octet_stretches.proofs.Laws.{fits}
use Rattle.octet_table.specs.Table.{number_of, class_of, rule_of, row_of, table}
use Rattle.octet_table.proofs.Rule.{row_rule, row_96, class_number, table_at}
use Rattle.stretch.specs.Characters.{settled_of}
use Rattle.stretch.proofs.Law.{One}
use Rattle.stretch.proofs.Starts.{Lone, blank, text, left_start_lem, one_start, written_two, lone_one}
use Rattle.stretch.proofs.Starts as text_of
use Rattle.archive_laws.specs.Passes.{Leads, Leaves, Places, Reaches, Classed, EscapeAt, row_at}

-- ---- one after another

module _ (s : List ℕ) where
  pub leads_none : (st : State) (at : ℕ) → at ≤ length s → Leads s at st at st 0
  leads_none st at h =
      record {
        since = omega arith;
        within = h;
        same = λ count. let e : count + 0 ≡ count = omega arith in rw e refl;
      }

  leads_more : (at i j n m : ℕ) (st to too : State) → Leads s at st i to n → Leads s i to j too m → Leads s at st j too (n + m)
  leads_more at i j n m st to too a b =
      record {
        since = omega (arith, a.since, b.since);
        within = b.within;
        same = λ count. let e : count + (n + m) ≡ count + n + m = omega arith in rw e (b.same (count + n) ∙ a.same count);
      }

  pub leads_on : (at i j m : ℕ) (st to too : State) → Leads s at st i to 0 → Leads s i to j too m → Leads s at st j too m
  leads_on at i j m st to too a b =
      let e : 0 + m ≡ m = omega arith in
      subst (Leads s at st j too) e (leads_more at i j 0 m st to too a b)

module _ (st : State) (s : List ℕ) where
  leaves_none : (at : ℕ) → at ≤ length s → Leaves st s at at 0
  leaves_none = leads_none s st

  leaves_more : (at i j n m : ℕ) → Leaves st s at i n → Leaves st s i j m → Leaves st s at j (n + m)
  leaves_more at i j n m = leads_more s at i j n m st st st

  -- an element that gives a unit and leaves the state
  pub leaves_one : (at w : ℕ) → One w st (element_of (from at s) st) → Leaves st s at (at + w) 1
  unfolding answer_of
  leaves_one at w u =
      let t = step_passed s at st (element_of (from at s) st) refl found u.is in
      let e = at_passed s at st (element_of (from at s) st) refl found u.is in
      subst (λ (k : ℕ). Leaves st s at (at + k) 1) u.sized
      (record { since = omega (arith, t.some); within = t.fits; same = λ count. sym (ap (answer_of count) e) })

-- ---- what a class says

-- a class of one octet
lone : (c : Start) → number_of c ≤ 4 → Lone c
unfolding number_of
lone start.escape h = absurd (omega arith)
lone start.mark h = absurd (omega arith)
lone start.tab h = blank text_of.tab
lone start.newline h = blank text_of.newline
lone start.space h = text text_of.space
lone start.unused h = absurd (omega arith)
lone (start.one d) h = text (text_of.one d)
lone (start.two GL) h = absurd (omega arith)
lone (start.two GR) h = absurd (omega arith)

-- the class of an octet whose number is known
module _ (s : Sets) (b row k : ℕ) (small : b < 256) (r : row_of s ≡ row) (e : k ≡ rule_of (row + b)) where
  pub number_is : number_of (start_in s b) ≡ k
  number_is = sym (row_rule s b small) ∙ ap (λ (n : ℕ). rule_of (n + b)) r ∙ sym e

  class_is : start_in s b ≡ class_of k
  class_is = sym (class_number (start_in s b)) ∙ ap class_of number_is

  starts_as : Starts s b (class_of k)
  starts_as = subst (Starts s b) class_is (starts s b)

  lone_is : k ≤ 4 → Lone (start_in s b)
  lone_is h = lone (start_in s b) (rw (number_is) h)

-- what a class of two octets says of its octet, and one of one octet of the form on its side
two_is : (s : Sets) (b : ℕ) (d : Side) → Starts s b (start.two d) → On d b × ((graphic_of (b % 128) ≡ true) × (wide_in d s ≡ true))
two_is s b _ (starts-of.two d h g w) = (h, (g, w))

one_is : (s : Sets) (b : ℕ) (d : Side) → Starts s b (start.one d) → wide_in d s ≡ false
one_is s b _ (starts-of.one d h u w) = w

space_is : (s : Sets) (b : ℕ) → Starts s b start.space → wide_in GL s ≡ false
space_is s b (starts-of.space e w) = w

-- ---- one octet, and a character of two

module _ (st : State) (settled : settled_of st.directions ≡ true) (s : List ℕ) (at : ℕ) where
  leaves_lone : at < length s → Lone (start_in st.sets (get_or s at 0)) → Leaves st s at (at + 1) 1
  unfolding shape_of
  leaves_lone h k =
      leaves_one st s at 1 (rw (from_octet s at h) (lone_one st settled (get_or s at 0) (from (at + 1) s) k))

  leaves_two : (d : Side) → at + 1 < length s → wide_in d st.sets ≡ true → On d (get_or s at 0) → graphic_of (get_or s at 0 % 128) ≡ true
      → get_or s (at + 1) 0 / 128 ≡ get_or s at 0 / 128 → graphic_of (get_or s (at + 1) 0 % 128) ≡ true → Leaves st s at (at + 2) 1
  leaves_two d h w o g e i =
      let two = text_of.found st settled (written_two st.sets (get_or s at 0) d (get_or s (at + 1) 0) (from (at + 1 + 1) s) w o g e i) in
      leaves_one st s at 2 (rw (from_octet s at (omega arith), from_octet s (at + 1) h) two)

-- two octets of a side are on it
same_side_lem : (d : Side) (b y : ℕ) → b < 256 → y < 256 → On d b → On d y → y / 128 ≡ b / 128
same_side_lem GL b y h k o p = omega (arith, o.1, p.1)
same_side_lem GR b y h k o p = omega (arith, o, p)

-- ---- octets of a span

-- without the first k octets
later : (first last : ℕ) (s : List ℕ) (at i k : ℕ) → at + k ≤ i → Within first last s at i → Within first last s (at + k) i
later first last s at i k h w =
    record { since = h; within = w.within; each = λ j l m. w.each j (omega (arith, l)) m }

module _ (st : State) (settled : settled_of st.directions ≡ true) (s : List ℕ) (first last : ℕ) where
  ones_leave : ((b : ℕ) → first ≤ b → b ≤ last → Lone (start_in st.sets b)) → (n at : ℕ) → Within first last s at (at + n)
      → Leaves st s at (at + n) n
  ones_leave each zero at w =
      let e : at + 0 ≡ at = omega arith in
      rw e (leaves_none st s at (omega (arith, w.within)))
  ones_leave each (suc n) at w =
      let e : at + 1 + n ≡ at + suc n = omega arith in
      let f : 1 + n ≡ suc n = omega arith in
      let o = w.each at (omega arith) (omega arith) in
      let rest = ones_leave each n (at + 1) (subst (Within first last s (at + 1)) (sym e) (later first last s at (at + suc n) 1 (omega arith) w)) in
      subst (Leaves st s at (at + suc n)) f
      (leaves_more st s at (at + 1) (at + suc n) 1 n (leaves_lone st settled s at (omega (arith, w.within)) (each (get_or s at 0) o.0 o.1))
      (subst (λ (j : ℕ). Leaves st s (at + 1) j n) e rest))

  twos_leave : (d : Side) → last < 256 → wide_in d st.sets ≡ true
      → ((b : ℕ) → first ≤ b → b ≤ last → On d b × (graphic_of (b % 128) ≡ true)) → (n at : ℕ) → Within first last s at (at + 2 * n)
      → Leaves st s at (at + 2 * n) n
  twos_leave d small wide each zero at w =
      let e : at + 2 * 0 ≡ at = omega arith in
      rw e (leaves_none st s at (omega (arith, w.within)))
  twos_leave d small wide each (suc n) at w =
      let e : at + 2 + 2 * n ≡ at + 2 * suc n = omega arith in
      let f : 1 + n ≡ suc n = omega arith in
      let o = w.each at (omega arith) (omega arith) in
      let p = w.each (at + 1) (omega arith) (omega arith) in
      let x = each (get_or s at 0) o.0 o.1 in
      let y = each (get_or s (at + 1) 0) p.0 p.1 in
      let rest = twos_leave d small wide each n (at + 2)
      (subst (Within first last s (at + 2)) (sym e) (later first last s at (at + 2 * suc n) 2 (omega arith) w)) in
      let pair = leaves_two st settled s at d (omega (arith, w.within)) wide x.0 x.1
      (same_side_lem d (get_or s at 0) (get_or s (at + 1) 0) (omega (arith, o.1)) (omega (arith, p.1)) x.0 y.0) y.1 in
      subst (Leaves st s at (at + 2 * suc n)) f
      (leaves_more st s at (at + 2) (at + 2 * suc n) 1 n pair (subst (λ (j : ℕ). Leaves st s (at + 2) j n) e rest))

-- ---- by the classes of octets, under a state of the row that text leaves as it is

module _ (st : State) (settled : settled_of st.directions ≡ true) (row : ℕ) (q : row_of st.sets ≡ row) (s : List ℕ) where
  -- what an octet of a class starts
  here : {at k : ℕ} → Classed row s at k → Starts st.sets (get_or s at 0) (class_of k)
  here {at = at} {k = k} c = starts_as st.sets (get_or s at 0) row k c.octet q c.is

  pair_leaves : {at k : ℕ} (d : Side) → number_of (start.two d) ≡ k → Classed row s at k → Classed row s (at + 1) k → Leaves st s at (at + 2) 1
  pair_leaves {at = at} d e c y =
      let f = ap class_of (sym e) ∙ class_number (start.two d) in
      let x = two_is st.sets (get_or s at 0) d (subst (Starts st.sets (get_or s at 0)) f (here c)) in
      let z = two_is st.sets (get_or s (at + 1) 0) d (subst (Starts st.sets (get_or s (at + 1) 0)) f (here y)) in
      leaves_two st settled s at d y.inside x.1.1 x.0 x.1.0 (same_side_lem d _ _ c.octet y.octet x.0 z.0) z.1.0

  two_leaves : {at k : ℕ} → 5 ≤ k → k ≤ 6 → Classed row s at k → Classed row s (at + 1) k → Leaves st s at (at + 2) 1
  unfolding number_of
  two_leaves {k = k} h l c y =
      ⊎_elim (λ (e : 5 ≡ k). pair_leaves GL e c y) (λ (m : 5 < k). let e : 6 ≡ k = omega arith in pair_leaves GR e c y) (eq-or-lt_of_le h)

  -- the octets of a span, each a unit
  span_leaves : {at i : ℕ} (first last : ℕ) → Within first last s at i → ((b : ℕ) → first ≤ b → b ≤ last → Lone (start_in st.sets b))
      → Leaves st s at i (i - at)
  span_leaves {at = at} {i = i} first last w each =
      let e : at + (i - at) ≡ i = omega (arith, w.since) in
      subst (λ (j : ℕ). Leaves st s at j (i - at)) e
      (ones_leave st settled s first last each (i - at) at (subst (Within first last s at) (sym e) w))

  narrow : {at k : ℕ} → Classed row s at k → k ≤ 1 → wide_in GL st.sets ≡ false
  unfolding class_of pick
  narrow {at = at} {k = k} c h =
      ⊎_elim (λ (e : k ≡ 1). space_is st.sets (get_or s at 0) (rw e at (here c)))
      (λ (l : k < 1). let e : k ≡ 0 = omega arith in one_is st.sets (get_or s at 0) GL (rw e at (here c))) (eq-or-lt_of_le h)

  right_narrow : {at : ℕ} → Classed row s at 4 → wide_in GR st.sets ≡ false
  unfolding class_of pick
  right_narrow {at = at} c = one_is st.sets (get_or s at 0) GR (here c)

  left_leaves : {at i k : ℕ} → k ≤ 1 → Classed row s at k → Within 0x20 0x7E s at i → Leaves st s at i (i - at)
  left_leaves h c w = span_leaves 0x20 0x7E w (λ b l m. text (left_start_lem st.sets b l (omega arith) (narrow c h)))

  right_94 : {at i : ℕ} → Classed row s at 4 → Within 0xA1 0xFE s at i → Leaves st s at i (i - at)
  right_94 c w =
      span_leaves 0xA1 0xFE w (λ b l m.
      text (one_start st.sets b GR (omega arith) (graphic_used _ b (graphic (b % 128) (omega arith) (omega arith))) (right_narrow c)))

  right_96 : {at i : ℕ} → Classed row s at 4 → rule_of (row + 0xA0) ≡ 4 → Within 0xA0 0xFF s at i → Leaves st s at i (i - at)
  right_96 c f w =
      span_leaves 0xA0 0xFF w (λ b l m. text (one_start st.sets b GR l (all_used _ b (row_96 st.sets (rw q f))) (right_narrow c)))

  left_twos : (at n : ℕ) → Classed row s at 5 → Within 0x21 0x7E s at (at + 2 * n) → Leaves st s at (at + 2 * n) n
  unfolding class_of pick
  left_twos at n c w =
      twos_leave st settled s 0x21 0x7E GL (omega arith) (two_is st.sets (get_or s at 0) GL (here c)).1.1
      (λ b l h. ((l, omega arith), graphic (b % 128) (omega arith) (omega arith))) n at w

  right_twos : (at n : ℕ) → Classed row s at 6 → Within 0xA1 0xFE s at (at + 2 * n) → Leaves st s at (at + 2 * n) n
  unfolding class_of pick
  right_twos at n c w =
      twos_leave st settled s 0xA1 0xFE GR (omega arith) (two_is st.sets (get_or s at 0) GR (here c)).1.1
      (λ b l h. (omega arith, graphic (b % 128) (omega arith) (omega arith))) n at w

-- ---- units of one octet, by their classes

-- a law on each octet goes over all of them, one by one
module _ (row : List ℕ) (st : State) (s : List ℕ)
    (each : (at : ℕ) → at < length s → get_or s at 0 < 256 → get_or row (get_or s at 0) 0 ≤ 4 → Leaves st s at (at + 1) 1) where
  ones_by : (n at : ℕ) → at + n ≤ length s → Ones row s at (at + n) → Leaves st s at (at + n) n
  ones_by zero at h o =
      let e : at + 0 ≡ at = omega arith in
      rw e (leaves_none st s at (omega arith))
  ones_by (suc n) at h o =
      let e : at + 1 + n ≡ at + suc n = omega arith in
      let f : 1 + n ≡ suc n = omega arith in
      let k = o.each at (omega arith) (omega arith) in
      let rest : Ones row s (at + 1) (at + 1 + n) =
      record { since = omega arith; within = λ _. omega arith; each = λ j l m. o.each j (omega arith) (omega arith) } in
      subst (Leaves st s at (at + suc n)) f
      (leaves_more st s at (at + 1) (at + suc n) 1 n (each at (omega arith) k.0 k.1)
      (subst (λ (j : ℕ). Leaves st s (at + 1) j n) e (ones_by n (at + 1) (omega arith) rest)))

  pub ones_leads : (at i : ℕ) → at ≤ length s → Ones row s at i → Leaves st s at i (i - at)
  ones_leads at i h o =
      let e : at + (i - at) ≡ i = omega (arith, o.since) in
      let k = o.within h in
      subst (λ (j : ℕ). Leaves st s at j (i - at)) e (ones_by (i - at) at (omega (arith, e, k)) (subst (Ones row s at) (sym e) o))

-- ---- stretches, as the code has found them by the entries of the table

pub row_length : (row : ℕ) (t : List ℕ) → row + 256 ≤ length t → 256 ≤ length (row_at row t)
row_length row t h = simp (length-take, length-drop) (omega arith)

module _ (t : List ℕ) (row : ℕ) (s : List ℕ) (is : t ≡ table) (low : row ≤ 1280) where
  -- the entry of an octet is its class
  pub entry_rule : (b : ℕ) → b < 256 → get_or (row_at row t) b 0 ≡ rule_of (row + b)
  entry_rule b h = rw (get_or-take, get_or-drop) (table_at t is (row + b) (omega arith))

  pub classed : {at k : ℕ} → Entry (row_at row t) s at k → Classed row s at k
  classed {at = at} c = record { inside = c.inside; octet = c.octet; is = c.is ∙ entry_rule (get_or s at 0) c.octet }

  module _ (st : State) (settled : settled_of st.directions ≡ true) (q : row_of st.sets ≡ row) where
    stretch-leaves : {at i n : ℕ} → at ≤ length s → Stretched (row_at row t) s at i n → Leaves st s at i n
    stretch-leaves h by.none = leaves_none st s _ h
    stretch-leaves h (by.more a b) = leaves_more st s _ _ _ _ _ (stretch-leaves h a) (stretch-leaves ((fits a).1 h) b)
    stretch-leaves h (by.ones o) =
        ones_leads (row_at row t) st s
        (λ j l b k. leaves_lone st settled s j l (lone_is st.sets (get_or s j 0) row _ b q (entry_rule (get_or s j 0) b) k)) _ _ h o
    stretch-leaves h (by.ones_left k c w) = left_leaves st settled row q s k (classed c) w
    stretch-leaves h (by.ones_94 c w) = right_94 st settled row q s (classed c) w
    stretch-leaves h (by.ones_96 c f w) = right_96 st settled row q s (classed c) (sym (entry_rule 0xA0 (omega arith)) ∙ f) w
    stretch-leaves h (by.two l m c d) = two_leaves st settled row q s l m (classed c) (classed d)
    stretch-leaves h (by.twos_left c w) = left_twos st settled row q s _ _ (classed c) w
    stretch-leaves h (by.twos_right c w) = right_twos st settled row q s _ _ (classed c) w

-- ---- under sets that designations change

-- a designation that is found has octets, and they are in the string
pub designation_some : (s : List ℕ) (i : ℕ) (x : Designation) → x ≡ designation_at (from i s) → x.set < no_set
    → (1 ≤ x.octets) × (i + x.octets ≤ length s)
designation_some s i x e h =
    let t = step_passed s i fresh (element_of (from i s) fresh) refl silent (sym (designation_silent (from i s) fresh x e h)) in
    (t.some, t.fits)

-- a designation by its four octets
pub sequence_at : (s : List ℕ) (i : ℕ) (x : Designation) → 4 ≤ length s - i → get_or s i 0 ≡ 0x1B
    → x ≡ sequence_of (get_or s (i + 1) 0) (get_or s (i + 1 + 1) 0) (get_or s (i + 1 + 1 + 1) 0) → x ≡ designation_at (from i s)
sequence_at s i x h e f = on_four s i x (omega arith) h (on_eq _ _ _ _ _ e f)

-- by what its three octets after 1B tell; the form of its set is told by the first of them
pub told_at : (s : List ℕ) (i : ℕ) (x : Designation) → EscapeAt s i
    → x ≡ told_of (get_or s (i + 1) 0) (get_or s (i + 1 + 1) 0) (get_or s (i + 1 + 1 + 1) 0) → x.set < no_set
    → (x ≡ designation_at (from i s)) × (form_of x.set ≡ form_after (get_or s (i + 1) 0))
told_at s i x h e named =
    let f = told_set _ _ _ x e named in (
      sequence_at s i x h.four h.escape f,
      rw f (form_told (get_or s (i + 1) 0) (get_or s (i + 1 + 1) 0) (get_or s (i + 1 + 1 + 1) 0) (rw f at named)),
    )

module _ (s : List ℕ) (at : ℕ) (a : Sets) where
  pub places_none : at ≤ length s → Places s at a at a
  places_none h = record { since = omega arith; within = h; leads = λ d. leads_none s (state a d) at h }

  -- one designation more
  pub places_more : (i : ℕ) (b : Sets) → Places s at a i b → (x : Designation) → x ≡ designation_at (from i s) → x.set < no_set
      → (d : Side) → x.side ≡ d → Places s at a (i + x.octets) (put (on d x.set) b)
  unfolding answer_of
  places_more i b p x e h d f =
      let some = designation_some s i x e h in
      subst (λ (y : Side). Places s at a (i + x.octets) (put (on y x.set) b)) f
      (record {
        since = omega (arith, p.since);
        within = some.1;
        leads = λ z.
            let is = designation_silent (from i s) (state b z) x e h in
            leads_more s at i (i + x.octets) 0 0 (state a z) (state b z) (state (put (on x.side x.set) b) z) (p.leads z)
            (record {
              since = omega arith;
              within = some.1;
              same = λ count.
                  let g : count + 0 ≡ count = omega arith in
                  rw g (sym (ap (answer_of count) (at_passed s i (state b z) (element_of (from i s) (state b z)) refl silent (sym is))));
            });
      })

-- by the table that is lent, whose row is that of the sets
module _ (t s : List ℕ) (at : ℕ) (a : Sets) where
  pub reaches_none : at ≤ length s → Reaches t s at a at a 0
  reaches_none h = record { since = omega arith; within = h; leads = λ is d k. leads_none s (state a d) at h }

  reaches_more : (i j n m : ℕ) (b c : Sets) → Reaches t s at a i b n → Reaches t s i b j c m → Reaches t s at a j c (n + m)
  reaches_more i j n m b c x y =
      record {
        since = omega (arith, x.since, y.since);
        within = y.within;
        leads = λ is d k. leads_more s at i j n m (state a d) (state b d) (state c d) (x.leads is d k) (y.leads is d k);
      }

  -- a stretch
  pub reaches_units : (i j n m row : ℕ) (b : Sets) → Reaches t s at a i b n → row ≡ row_of b → row ≤ 1280 → Stretched (row_at row t) s i j m
      → Reaches t s at a j b (n + m)
  reaches_units i j n m row b x e low p =
      reaches_more i j n m b b x
      (record {
        since = (fits p).0;
        within = (fits p).1 x.within;
        leads = λ is d k. stretch-leaves t row s is low (state b d) k (sym e) x.within p;
      })

  -- designations
  reaches_on : (i j n : ℕ) (b c : Sets) → Reaches t s at a i b n → Places s i b j c → Reaches t s at a j c n
  reaches_on i j n b c x y =
      let e : n + 0 ≡ n = omega arith in
      subst (Reaches t s at a j c) e
      (reaches_more i j n 0 b c x (record { since = omega (arith, y.since); within = y.within; leads = λ is d k. y.leads d }))

  -- one designation
  pub reaches_told : (i n : ℕ) (b : Sets) → Reaches t s at a i b n → (x : Designation) → x ≡ designation_at (from i s) → x.set < no_set
      → (d : Side) → x.side ≡ d → Reaches t s at a (i + x.octets) (put (on d x.set) b) n
  reaches_told i n b r x e h d f =
      reaches_on i (i + x.octets) n b (put (on d x.set) b) r (places_more s i b i b (places_none s i b r.within) x e h d f)
