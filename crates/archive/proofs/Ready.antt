-- The unit at a cursor from which one is next, by the class of the octet there: the element is what the class starts, which the direction rule lets
-- pass, and since a unit is next it is not refused (`one_turn`, `two_turn`); so both octets of a character in GL are below 128 (`two_low`). A
-- designation that is passed changes nothing of what is next (`ready_passed`, `turn_passed`).
use Rattle.element.proofs.Names.{ℕ, ◌+◌, ◌-◌, ◌*◌, ◌%◌, ◌/◌, ◌^◌, ◌<◌, ◌≤◌, arith, ◌≡◌, refl, ap, sym, ◌∙◌, subst, true, false, List, [], ◌∷◌}
use Rattle.element.proofs.Names.{length, get_or, le-ltb, ltb-true, ltb-false, pick, pick_by, test, clash, on_lt, on_ge, from, from_octet, from_end}
use Rattle.element.proofs.Names.{UnitRecord, no_set, Side, GL, GR, part, next, get, put, on, step_of, written_of, State, Sets, Part, Shape, Gives as Makes}
use Rattle.element.proofs.Names.{eqb, ltb, Element, Refused, Found, eqb-true, on_true, on_ne}
use native.Mathlib.Nat.{mod-eq_of_lt}
use Rattle.base.specs.Kind as kind
use Rattle.base.specs.Limit as limit
use Rattle.base.specs.Refusal as refusal
use Rattle.text.specs.Text.{second_octet_of, graphic_of}
use Rattle.element.specs.Element.{shape_of, stepped_of, directed_of, element_of}
use Rattle.element.specs.Start.{Start, start_in, begun_by}
use Rattle.element.specs.Start as start
use Rattle.element.proofs.Starts.{On, Starts, starts}
use Rattle.element.proofs.Starts as starts-of
use Rattle.grammar.specs.Reading.{size}
use Rattle.state.specs.Directions.{in_force_of}
use Rattle.state.specs.State.{designated_of}
use Rattle.grammar.proofs.Elements.{at_nothing}
use Rattle.std.proofs.Common.{Some}
use Rattle.std.specs.declared.option.Option.{Option}
use Rattle.designations.proofs.Found.{some_found, not_found}
use Rattle.designations.specs.Designation.{absent, if_named, sequence_of, told_of, designation_at}
use Rattle.designations.specs.declared.Designation.{Designation}
use Rattle.designations.proofs.Designations.{designation_silent, on_four, on_few, told_set}
use Rattle.units.specs.Records.{record_of}
use Rattle.units.specs.Next.{next_of}
use Rattle.units.specs.Next.{Outcome}
use Rattle.units.specs.Next.{Gives, Stops}
use Rattle.units.proofs.Turn.{outcome, gives_end, gives_refused, gives_silent, gives_found}
use Rattle.cursor.specs.Cursor.{flagged, cursor, state_in, outcome_turn, element_turn, marked_turn, placed_of, passed_of}
use Rattle.cursor.specs.declared.Cursor.{Cursor}
use Rattle.cursor.specs.declared.Turn.{Turn}
use Rattle.cursor.proofs.Marked.{marked_is}
use Rattle.cursor.proofs.Fits.{placed_fits}
use Rattle.octet_table.specs.Table.{number_of, class_of, row_of}
use Rattle.octet_table.proofs.Rule.{row_most, class_number}
use Rattle.archive_laws.specs.Passes.{Classed}
use Rattle.archive.specs.Turns.{rowed, rowed_turn, moved_by, turn_of, Ready, if_character, set_by, one_record, two_record}
use Rattle.archive.specs.declared.turns.RowCursor.{RowCursor}
use Rattle.archive.specs.declared.turns.RowTurn.{RowTurn}
use Rattle.archive_laws.proofs.Passes.{number_is, sequence_at}

-- ---- what an octet gives, at a cursor

-- the unit of a class of one octet
abbrev one_part : ℕ → ℕ → Sets → Part
one_part b k s = part (k % 4) (if_character k (set_by k s.gl s.gr)) (if_character k (b % 128)) 0 1 (ltb (k % 4) 2)

-- the state after a unit that leaves the directions
abbrev after : Part → Cursor → State
after p j = flagged false p.text (state_in j)

one_found : (b : ℕ) (t : List ℕ) (j : Cursor) (c : Start) → number_of c ≤ 4
    → directed_of (begun_by c b t (state_in j).sets) (state_in j)
    ≡ Found (one_part b (number_of c) (state_in j).sets) (after (one_part b (number_of c) (state_in j).sets) j)
unfolding begun_by number_of directed_of stepped_of step_of written_of if_character set_by pick
one_found b t j start.escape h = absurd (omega arith)
one_found b t j start.mark h = absurd (omega arith)
one_found b t j start.tab h = refl
one_found b t j start.newline h = refl
one_found b t j start.space h = refl
one_found b t j start.unused h = absurd (omega arith)
one_found b t j (start.one GL) h = refl
one_found b t j (start.one GR) h = refl
one_found b t j (start.two GL) h = absurd (omega arith)
one_found b t j (start.two GR) h = absurd (omega arith)

-- the character of a class of two octets, which are of one side, and else a refusal
data Two (b y : ℕ) (j : Cursor) (p : Part) : Element → Type 0 where
  refused : {n o : ℕ} → Two b y j p (Refused n o)
  found : y / 128 ≡ b / 128 → Two b y j p (Found p (after p j))

abbrev two_part : ℕ → ℕ → ℕ → Part
two_part b y set = part kind.character set (b % 128 * 256 + y % 128) 0 2 true

-- text is not refused
free_text : (j : Cursor) (p : Part) → p.text ≡ true → directed_of (Makes p) (state_in j) ≡ Found p (after p j)
unfolding directed_of stepped_of step_of written_of pick
free_text j p e = rw e refl

two_found : (b y : ℕ) (t : List ℕ) (j : Cursor) (d : Side)
    → Two b y j (two_part b y (get d (state_in j).sets)) (directed_of (begun_by (start.two d) b (y ∷ t) (state_in j).sets) (state_in j))
unfolding begun_by second_octet_of next directed_of
two_found b y t j d =
    let p : Part = two_part b y (get d (state_in j).sets) in
    let P : Shape → Type 0 = λ x. Two b y j p (directed_of x (state_in j)) in
    let e = free_text j p refl in
    pick_by P (eqb (y / 128) (b / 128))
    (λ h. pick_by P (graphic_of (y % 128)) (λ _. subst (Two b y j _) (sym e) (found (eqb-true _ _ h))) (λ _. refused)) (λ _. refused)

two_cut : (b : ℕ) (j : Cursor) (d : Side) → Refused refusal.cut 1 ≡ directed_of (begun_by (start.two d) b [] (state_in j).sets) (state_in j)
unfolding begun_by second_octet_of next directed_of
two_cut b j d = refl

-- where the first octet of a class of two octets lies
two_on : {s : Sets} {b : ℕ} {d : Side} → Starts s b (start.two d) → On d b
two_on (starts-of.two d h g w) = h

-- a class of text of two octets that is not in GL is in GR
pub right_class : (n : ℕ) → n ≤ 6 → 4 < n → (n ≡ 5 → ⊥) → n ≡ number_of (start.two GR)
unfolding number_of
right_class n h k e = omega arith

-- three octets of which nothing is told name no set
told_none : (b c e : ℕ) (d : Designation) → d ≡ told_of b c e → no_set ≤ d.set → no_set ≤ (sequence_of b c e).set
unfolding told_of
told_none b c e d q h =
    test (ltb (sequence_of b c e).set no_set)
    (λ f. subst (λ (x : Designation). no_set ≤ x.set) (q ∙ sym (on_true _ _ _ _ f refl)) h)
    (ltb-false _ _)

-- ---- a unit that is next

-- what gives a unit does not stop
gives_stops : {u : UnitRecord} {p n m at : ℕ} {a st : State} {X : Type 0} → Gives u p a ≡ Stops n m at st → X
gives_stops e = clash (cc)

-- what is next in a string that is not too long, and the turn of it
next_short : (s : List ℕ) (at : ℕ) (st : State) → length s ≤ limit.octets → next_of s at st ≡ outcome s at st
unfolding next_of pick
next_short s at st h = rw (le-ltb limit.octets (length s) h) refl

abbrev turned : UnitRecord → ℕ → State → RowTurn
turned u p a = record { unit = u; cursor = rowed (cursor p a) }

turn_given : (s : List ℕ) (j : Cursor) {u : UnitRecord} {p : ℕ} {a : State} → next_of s j.place (state_in j) ≡ Gives u p a
    → turned u p a ≡ turn_of s j
unfolding element_turn outcome_turn
turn_given s j e = ap (λ (o : Outcome). record { unit = (outcome_turn j o).unit; cursor = rowed (outcome_turn j o).cursor }) (sym e)

module _ (s : List ℕ) (c : RowCursor) (ready : Ready s c) where
  abbrev k : Cursor
  k = c.cursor

  abbrev st : State
  st = state_in k

  abbrev at : ℕ
  at = k.place

  -- what is next, as it is given
  abbrev given : Outcome
  given = Gives ready.unit ready.place ready.after

  -- the string is not too long, so it is what the elements give
  short : length s ≤ limit.octets
  unfolding next_of pick
  short =
      test (ltb limit.octets (length s)) (λ e. gives_stops (sym (rw e at ready.next))) (λ e. ltb-false _ _ e)

  gives : outcome s at st ≡ given
  gives = sym (next_short s at st short) ∙ ready.next

  -- a mark that is read by its second octet is that unit
  pub mark_turn_lem : (t : Turn) → t ≡ marked_turn s k → rowed_turn t ≡ turn_of s k
  mark_turn_lem t e = ap rowed_turn (e ∙ marked_is s k short ready.next)

  -- the turn is that of the unit that the elements give
  turn_is : {u : UnitRecord} {p : ℕ} {a : State} → Gives u p a ≡ outcome s at st → turned u p a ≡ turn_of s k
  turn_is e = turn_given s k (next_short s at st short ∙ sym e)

  -- neither a refusal nor the end stands at the cursor
  no_refusal_lem : {n o : ℕ} {X : Type 0} → Refused n o ≡ element_of (from at s) st → X
  no_refusal_lem e = gives_stops (sym gives ∙ sym (gives_refused s at st _ e refl))

  pub inside : at < length s
  inside =
      test (ltb at (length s)) (ltb-true _ _)
      (λ e. let f = ap (λ (t : List ℕ). element_of t st) (from_end s at (ltb-false _ _ e)) ∙ at_nothing st in
      gives_stops (sym gives ∙ sym (gives_end s at st _ refl f)))

  -- the place after text at the cursor is a number
  pub moved_fits : (n : ℕ) → n ≤ 2 → at + n < 2 ^ 64
  moved_fits n h = omega (arith, inside, short)

  pub row_fits : c.row ≤ 1280
  row_fits = rw ready.row (row_most st.sets)

  -- a unit of so many octets, which leaves the sets
  found_turn : (p : Part) (n : ℕ) (r : UnitRecord) (j : RowCursor) → Found p (after p k) ≡ element_of (from at s) st → p.skip ≡ 0 → p.octets ≡ n
      → r ≡ record {
        kind = p.kind;
        set = p.set;
        code = p.code;
        start = at % 2 ^ 32;
        length = n;
        direction = c.direction;
        depth = k.depth;
      }
      → j ≡ moved_by c n → record { unit = r; cursor = j } ≡ turn_of s k
  unfolding in_force_of
  found_turn p n r j e z l i m =
      let q : at % 2 ^ 32 ≡ at + p.skip = mod-eq_of_lt (omega (arith, inside, short)) ∙ (let x : at ≡ at + p.skip = omega arith in x) in
      let o : at + n ≡ at + size p = omega arith in
      let f : r ≡ record_of p at (after p k).directions = i ∙ rw (q, l, ready.force) refl in
      let g : j ≡ rowed (cursor (at + size p) (after p k)) = m ∙ rw (ready.row, ready.force, o) refl in
      rw (f, g) (turn_is (gives_found s at st _ e refl refl))

  -- ---- by the class of the octet at the cursor

  module _ (n : ℕ) (x : Classed c.row s at n) where
    abbrev b : ℕ
    b = get_or s at 0

    abbrev begins : Start → List ℕ → Element
    begins i t = directed_of (begun_by i b t st.sets) st

    number : number_of (start_in st.sets b) ≡ n
    number = number_is st.sets b c.row n x.octet (sym ready.row) x.is

    -- the element is what the class of its first octet starts
    begun : begins (start_in st.sets b) (from (at + 1) s) ≡ element_of (from at s) st
    unfolding shape_of
    begun = ap (λ (t : List ℕ). element_of t st) (sym (from_octet s at inside))

    pub one_turn : (r : UnitRecord) (j : RowCursor) → n ≤ 4 → r ≡ one_record k b n (set_by n k.gl k.gr) c.direction → j ≡ moved_by c 1
        → record { unit = r; cursor = j } ≡ turn_of s k
    one_turn r j h i m =
        let e = sym (one_found b (from (at + 1) s) k (start_in st.sets b) (rw number h)) ∙ begun in
        found_turn (one_part b n st.sets) 1 r j (rw number at e) refl refl i m

    abbrev y : ℕ
    y = get_or s (at + 1) 0

    module _ (d : Side) (e : n ≡ number_of (start.two d)) where
      class : start_in st.sets b ≡ start.two d
      class = sym (class_number (start_in st.sets b)) ∙ ap class_of (number ∙ e) ∙ class_number (start.two d)

      pair : begins (start.two d) (from (at + 1) s) ≡ element_of (from at s) st
      pair = rw class at begun

      pub two_inside : at + 1 < length s
      two_inside =
          test (ltb (at + 1) (length s)) (ltb-true _ _)
          (λ f. no_refusal_lem (two_cut b k d ∙ ap (begins (start.two d)) (sym (from_end s (at + 1) (ltb-false _ _ f))) ∙ pair))

      -- both octets are of one side, and the unit is their character
      not-refused : {p : Part} {o : Element} → Two b y k p o → o ≡ element_of (from at s) st
          → (y / 128 ≡ b / 128) × (Found p (after p k) ≡ element_of (from at s) st)
      not-refused refused i = no_refusal_lem i
      not-refused (found h) i = (h, i)

      abbrev pair_part : Part
      pair_part = two_part b y (get d st.sets)

      character : (y / 128 ≡ b / 128) × (Found pair_part (after pair_part k) ≡ element_of (from at s) st)
      character =
          let f = ap (begins (start.two d)) (sym (from_octet s (at + 1) two_inside)) ∙ pair in
          not-refused (two_found b y (from (at + 1 + 1) s) k d) f

      pub two_turn : (r : UnitRecord) (j : RowCursor) → r ≡ two_record k b y (get d st.sets) c.direction → j ≡ moved_by c 2
          → record { unit = r; cursor = j } ≡ turn_of s k
      two_turn r j i m = found_turn pair_part 2 r j character.1 refl refl i m

    -- in GL neither has a top bit
    pub two_low : n ≡ number_of (start.two GL) → (b < 128) × (y < 128)
    two_low e =
        let h : On GL b = two_on (subst (Starts st.sets b) (class GL e) (starts st.sets b)) in
        let q = (character GL e).0 in
        (omega (arith, h.1), omega (arith, h.1, q))

  -- ---- a designation at the cursor

  none_is : (d : Designation) → d ≡ designation_at (from at s) → no_set ≤ d.set → c ≡ rowed (passed_of s k)
  unfolding passed_of placed_of
  none_is d e h =
      let f : c ≡ rowed k = rw (← ready.row, ← ready.force) refl in
      f ∙ ap rowed (on_ge d.set no_set k _ k h refl ∙ ap (placed_of k) e)

  pub few_left : length s - at < 4 → c ≡ rowed (passed_of s k)
  few_left h = none_is absent (on_few s at h) (omega arith)

  module _ (h : 4 ≤ length s - at) where
    pub no_escape : (get_or s at 0 ≡ 0x1B → ⊥) → c ≡ rowed (passed_of s k)
    no_escape n = none_is absent (on_four s at absent inside h (on_ne _ _ _ _ _ n refl)) (omega arith)

    -- by what the three octets after 1B tell
    module _ (i : get_or s at 0 ≡ 0x1B) (d : Designation)
        (e : d ≡ told_of (get_or s (at + 1) 0) (get_or s (at + 1 + 1) 0) (get_or s (at + 1 + 1 + 1) 0)) where
      pub none_told : no_set ≤ d.set → c ≡ rowed (passed_of s k)
      none_told q = none_is _ (sequence_at s at _ h i refl) (told_none _ _ _ d e q)

      module _ (named : d.set < no_set) where
        told_at : d ≡ designation_at (from at s)
        told_at = sequence_at s at d h i (told_set _ _ _ d e named)

        pub told_fits : at + d.octets ≤ length s
        told_fits = placed_fits s at d told_at named

        -- the cursor after it, as the code makes it
        pub placed_is : (row : ℕ) (v : Side) → d.side ≡ v → row ≡ row_of (put (on v d.set) st.sets)
            → record { cursor = cursor (at + d.octets) (designated_of v d.set st); row = row; direction = c.direction } ≡ rowed (passed_of s k)
        unfolding passed_of placed_of
        placed_is row v j q =
            let f = on_lt d.set no_set _ _ k named refl in
            rw (q, ← j, ready.force) (ap rowed (f ∙ ap (placed_of k) told_at))

    -- the same of what the code answers
    module _ (i : get_or s at 0 ≡ 0x1B) (o : Option Designation)
        (e : o ≡ if_named (told_of (get_or s (at + 1) 0) (get_or s (at + 1 + 1) 0) (get_or s (at + 1 + 1 + 1) 0))) where
      pub none_found : ((d : Designation) → o ≡ Some d → ⊥) → c ≡ rowed (passed_of s k)
      none_found n = none_told i _ refl (not_found o _ e n)

      pub found_fits : (d : Designation) → o ≡ Some d → at + d.octets ≤ length s
      found_fits d f = let g = some_found o d _ e f in told_fits i d g.0 g.1

      pub found_is : (d : Designation) → o ≡ Some d → (row : ℕ) (v : Side) → d.side ≡ v → row ≡ row_of (put (on v d.set) st.sets)
          → record { cursor = cursor (at + d.octets) (designated_of v d.set st); row = row; direction = c.direction } ≡ rowed (passed_of s k)
      found_is d f = let g = some_found o d _ e f in placed_is i d g.0 g.1

  -- what is next after it is what was next
  placed_next : next_of s (passed_of s k).place (state_in (passed_of s k)) ≡ given
  unfolding passed_of placed_of
  placed_next =
      let d = designation_at (from at s) in
      pick_by (λ j. next_of s j.place (state_in j) ≡ given) (ltb d.set no_set)
      (λ h. next_short s _ _ short ∙ gives_silent s at st _ (designation_silent (from at s) st d refl (ltb-true _ _ h)) refl ∙ gives)
      (λ _. ready.next)

  module _ (j : RowCursor) (e : j ≡ rowed (passed_of s k)) where
    pub ready_passed : Ready s j
    ready_passed =
        subst (Ready s) (sym e) (record { row = refl; force = refl; unit = ready.unit; place = ready.place; after = ready.after; next = placed_next })

    pub turn_passed : turn_of s j.cursor ≡ turn_of s k
    turn_passed =
        ap (λ (i : RowCursor). turn_of s i.cursor) e ∙ sym (turn_given s (passed_of s k) placed_next) ∙ turn_given s k ready.next
