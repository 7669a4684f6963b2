-- A designation that is found by its octets is the reader's element: where its set is one of the fifteen, the final octet is one that the
-- table has, and the octets before it lead to its form. What `told` answers is the same where it names a set (`told_set`), and the set has the form
-- that the first octet tells (`form_told`), by the rows of the table.
use Rattle.element.proofs.Names.{ℕ, ◌+◌, ◌-◌, ◌<◌, ◌≤◌, arith, ◌≡◌, refl, ap, sym, ◌∙◌, subst, List, [], ◌∷◌, eqb, length, get_or, eqb-true, pick}
use Rattle.element.proofs.Names.{pick_by, from, on_eq, on_lt, on_ge, from_octet, from_length, form_96, form_94x94, no_set, form_of, set_of, Side, GL, GR}
use Rattle.element.proofs.Names.{next, designated_of, Sets, State, Shape, Designates, Silent}
use Rattle.charset.specs.Charsets.{form_94}
use Rattle.charset.proofs.Laws.{final_range, set_form}
use Rattle.control.specs.Escape.{designates_of, designation_of, multi_octet_of, escape_of}
use Rattle.element.specs.Element.{shape_of, directed_of, element_of}
use Rattle.element.specs.Start.{start_of, begun_by}
use Rattle.designations.specs.Designation as quick
use Rattle.designations.specs.declared.Designation.{Designation}

-- ---- the four octets at a place

module _ (s : List ℕ) (at : ℕ) where
  four : at < length s → 4 ≤ length s - at
      → from at s ≡ get_or s at 0 ∷ get_or s (at + 1) 0 ∷ get_or s (at + 1 + 1) 0 ∷ get_or s (at + 1 + 1 + 1) 0 ∷ from (at + 1 + 1 + 1 + 1) s
  four i h =
      from_octet s at i
      ∙ ap (λ (t : List ℕ). get_or s at 0 ∷ t)
      (from_octet s (at + 1) (omega arith)
      ∙ ap (λ (t : List ℕ). get_or s (at + 1) 0 ∷ t)
      (from_octet s (at + 1 + 1) (omega arith) ∙ ap (λ (t : List ℕ). get_or s (at + 1 + 1) 0 ∷ t) (from_octet s (at + 1 + 1 + 1) (omega arith))))

  pub on_four : (r : Designation) → at < length s → 4 ≤ length s - at
      → r ≡ pick (eqb (get_or s at 0) 0x1B) (quick.sequence_of (get_or s (at + 1) 0) (get_or s (at + 1 + 1) 0) (get_or s (at + 1 + 1 + 1) 0)) quick.absent
      → r ≡ quick.designation_at (from at s)
  unfolding quick.designation_at
  on_four r i h e = rw (four i h) e

  pub on_four_octets : (r : Designation) → at < length s → 4 ≤ length s - at → get_or s at 0 ≡ 0x1B
      → r ≡ quick.sequence_of (get_or s (at + 1) 0) (get_or s (at + 2) 0) (get_or s (at + 3) 0)
      → r ≡ quick.designation_at (from at s)
  on_four_octets r i h b e =
      let two : at + 2 ≡ at + 1 + 1 = omega arith in
      let three : at + 3 ≡ at + 1 + 1 + 1 = omega arith in
      on_four r i h (on_eq _ _ _ _ _ b (rw (two, three) at e))

  few : (t : List ℕ) → length t < 4 → quick.absent ≡ quick.designation_at t
  unfolding quick.designation_at
  few [] h = refl
  few (a ∷ []) h = refl
  few (a ∷ b ∷ []) h = refl
  few (a ∷ b ∷ c ∷ []) h = refl
  few (a ∷ b ∷ c ∷ d ∷ t) h = absurd (omega arith)

  pub on_few : length s - at < 4 → quick.absent ≡ quick.designation_at (from at s)
  on_few h = few (from at s) (rw (from_length s at) h)

-- ---- the reader's element

module _ (form : ℕ) (side : Side) (last : ℕ) (named : set_of form side last < no_set) where
  final_octet : (k : ℕ) (t : List ℕ) → Designates (k + 1) side (set_of form side last) ≡ designation_of k form side (last ∷ t)
  unfolding designation_of designates_of next
  final_octet k t =
      let h = final_range form side last named in
      on_ge last 0x21 _ _ _ (omega arith)
      (on_ge last 0x24 _ _ _ (omega arith)
      (on_ge last 0x40 _ _ _ h.0 (on_lt last 0x7F _ _ _ h.1 (on_lt (set_of form side last) no_set _ _ _ named refl))))

-- a designation, where it names a set, is the shape of the octets t
data Is (t : List ℕ) (s : Sets) : Designation → Type 0 where
  is : {d : Designation} → (d.set < no_set → Designates d.octets d.side d.set ≡ shape_of t s) → Is t s d

no : {t : List ℕ} {s : Sets} → Is t s quick.absent
no = is {d = quick.absent} (λ h. absurd (omega arith))

module _ (t : List ℕ) (s : Sets) where
  multi_octet_lem : (c d : ℕ) → Is (0x1B ∷ 0x24 ∷ c ∷ d ∷ t) s (quick.multi_octet_at c d)
  unfolding quick.multi_octet_at shape_of start_of begun_by escape_of multi_octet_of next pick
  multi_octet_lem c d =
      pick_by (Is _ s) (eqb c 0x28) (λ e. rw (eqb-true c 0x28 e) (is {d = quick.by_final_of 4 form_94x94 GL d} (λ h. final_octet form_94x94 GL d h 3 t)))
      (λ _. pick_by (Is _ s) (eqb c 0x29) (λ e. rw (eqb-true c 0x29 e)
      (is {d = quick.by_final_of 4 form_94x94 GR d} (λ h. final_octet form_94x94 GR d h 3 t))) (λ _. no))

  sequence : (b c d : ℕ) → Is (0x1B ∷ b ∷ c ∷ d ∷ t) s (quick.sequence_of b c d)
  unfolding quick.sequence_of shape_of start_of begun_by escape_of next pick
  sequence b c d =
      pick_by (Is _ s) (eqb b 0x24) (λ e. rw (eqb-true b 0x24 e) (multi_octet_lem c d))
      (λ _. pick_by (Is _ s) (eqb b 0x28) (λ e. rw (eqb-true b 0x28 e)
      (is {d = quick.by_final_of 3 form_94 GL c} (λ h. final_octet form_94 GL c h 2 (d ∷ t))))
      (λ _. pick_by (Is _ s) (eqb b 0x29) (λ e. rw (eqb-true b 0x29 e)
      (is {d = quick.by_final_of 3 form_94 GR c} (λ h. final_octet form_94 GR c h 2 (d ∷ t))))
      (λ _. pick_by (Is _ s) (eqb b 0x2D) (λ e. rw (eqb-true b 0x2D e)
      (is {d = quick.by_final_of 3 form_96 GR c} (λ h. final_octet form_96 GR c h 2 (d ∷ t)))) (λ _. no))))

shape : (t : List ℕ) (s : Sets) → Is t s (quick.designation_at t)
unfolding quick.designation_at
shape [] s = no
shape (a ∷ []) s = no
shape (a ∷ b ∷ []) s = no
shape (a ∷ b ∷ c ∷ []) s = no
shape (a ∷ b ∷ c ∷ d ∷ t) s = pick_by (Is _ s) (eqb a 0x1B) (λ e. rw (eqb-true a 0x1B e) (sequence t s b c d)) (λ _. no)

pub designation_silent : (t : List ℕ) (st : State) (d : Designation) → d ≡ quick.designation_at t → d.set < no_set
    → Silent d.octets (designated_of d.side d.set st) ≡ element_of t st
unfolding directed_of
designation_silent t st d e h = ap (λ (x : Shape). directed_of x st) (given (subst (Is t st.sets) (sym e) (shape t st.sets)) h)
  where
    given : {x : Designation} → Is t st.sets x → x.set < no_set → Designates x.octets x.side x.set ≡ shape_of t st.sets
    given (is f) = f

-- ---- by the word of sets

-- what is told names a set only where the octets do
pub told_set : (b c e : ℕ) (d : Designation) → d ≡ quick.told_of b c e → d.set < no_set → d ≡ quick.sequence_of b c e
unfolding quick.told_of
told_set b c e d i =
    subst (λ (x : Designation). x.set < no_set → x ≡ quick.sequence_of b c e) (sym i)
    (pick_by (λ (x : Designation). x.set < no_set → x ≡ quick.sequence_of b c e) _ (λ _ _. refl) (λ _ h. absurd (omega arith)))

-- a designation, where it names a set, names one of this form
data Of (form : ℕ) : Designation → Type 0 where
  of : {d : Designation} → (d.set < no_set → form_of d.set ≡ form) → Of form d

by_set : (octets form : ℕ) (side : Side) (last : ℕ) → Of form (quick.by_final_of octets form side last)
by_set octets form side last = of {d = quick.by_final_of octets form side last} (set_form form side last)

of_none : {form : ℕ} → Of form quick.absent
of_none = of {d = quick.absent} (λ h. absurd (omega arith))

form_after_lem : (b c e : ℕ) → Of (quick.form_after b) (quick.sequence_of b c e)
unfolding quick.sequence_of quick.multi_octet_at quick.form_after pick
form_after_lem b c e =
    pick_by (Of _) (eqb b 0x24)
    (λ i. rw (eqb-true b 0x24 i) (pick_by (Of _) (eqb c 0x28) (λ _. by_set 4 form_94x94 GL e)
    (λ _. pick_by (Of _) (eqb c 0x29) (λ _. by_set 4 form_94x94 GR e) (λ _. of_none))))
    (λ _. pick_by (Of _) (eqb b 0x28) (λ i. rw (eqb-true b 0x28 i) (by_set 3 form_94 GL c))
    (λ _. pick_by (Of _) (eqb b 0x29) (λ i. rw (eqb-true b 0x29 i) (by_set 3 form_94 GR c))
    (λ _. pick_by (Of _) (eqb b 0x2D) (λ i. rw (eqb-true b 0x2D i) (by_set 3 form_96 GR c)) (λ _. of_none))))

pub form_told : (b c e : ℕ) → (quick.sequence_of b c e).set < no_set → form_of (quick.sequence_of b c e).set ≡ quick.form_after b
form_told b c e = given (form_after_lem b c e)
  where
    given : {form : ℕ} {d : Designation} → Of form d → d.set < no_set → form_of d.set ≡ form
    given (of f) = f

pub ruleset placing = (on_four, on_few)
