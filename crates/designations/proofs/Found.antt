-- What the code answers of a designation, as laws on plain values.
use Rattle.element.proofs.Names.{ℕ, ◌≤◌, ◌<◌, arith, ◌≡◌, refl, ap, sym, ◌∙◌, List, [], ◌∷◌, eqb, ltb, ltb-true, ltb-false, test, pick, pick_by}
use Rattle.element.proofs.Names.{GL, GR, form_96, form_94x94, no_set, on_true, on_false, on_lt, on_ge}
use Rattle.charset.specs.Charsets.{form_94}
use Rattle.std.proofs.Common.{Some, None, Ok, Err}
use Rattle.std.specs.declared.option.Option.{Option}
use Rattle.std.specs.Prelude.{Result}
use Rattle.charset.proofs.Laws.{set_most}
use Rattle.designations.specs.Designation.{if_named, named_or, unnamed, designation_with, absent, multi_octet_at, sequence_of, designation_at}
use Rattle.designations.specs.declared.Designation.{Designation}
use Rattle.designations.specs.declared.Unnamed.{Unnamed}

pub none_found : None ≡ if_named absent
unfolding if_named pick
none_found = refl

pub some_is : (d x : Designation) → d ≡ x → d.set < no_set → Some d ≡ if_named x
unfolding if_named
some_is d x e h = rw (← e) (on_lt _ _ _ _ _ h refl)

-- what is found is the designation, and its set is one of the fifteen
pub some_found : (o : Option Designation) (d x : Designation) → o ≡ if_named x → o ≡ Some d → (d ≡ x) × (d.set < no_set)
unfolding if_named
some_found o d x e i =
    test (ltb x.set no_set)
    (λ h. let j : Some d ≡ Some x = sym i ∙ e ∙ sym (on_true _ (Some x) _ None h refl) in
    let k : d ≡ x = cc in
    (k, rw k (ltb-true _ _ h)))
    (λ h. let j : Some d ≡ None = sym i ∙ e ∙ sym (on_false _ None (Some x) _ h refl) in cc)

-- where none is found, the set is that of none
pub not_found : (o : Option Designation) (x : Designation) → o ≡ if_named x → ((d : Designation) → o ≡ Some d → ⊥) → no_set ≤ x.set
unfolding if_named
not_found o x e n =
    test (ltb x.set no_set) (λ h. absurd (n x (e ∙ sym (on_true _ (Some x) _ None h refl)))) (λ h. ltb-false _ _ h)

pub no_more : (o : Option Designation) (x : Designation) → o ≡ if_named x → o ≡ None → no_set ≤ x.set
no_more o x e i = not_found o x e (λ d k. (let j : None ≡ Some d = sym i ∙ k in cc))

-- ---- with the octets and the side of what names no set

pub unnamed_is : (d : Designation) (u : Unnamed) → no_set ≤ d.set → u ≡ unnamed d → Err u ≡ named_or d
unfolding named_or
unnamed_is d u h e = on_ge _ _ _ _ _ h (ap Err e)

pub none_named : Err (unnamed absent) ≡ named_or absent
none_named = unnamed_is absent _ (omega arith) refl

module _ (o : Result Designation Unnamed) (x : Designation) (e : o ≡ named_or x) where
  -- what is named is the designation, and its set is one of the fifteen
  pub ok_named : (d : Designation) → o ≡ Ok d → (d ≡ x) × (d.set < no_set)
  unfolding named_or
  ok_named d i =
      test (ltb x.set no_set)
      (λ h. let j : Ok d ≡ Ok x = sym i ∙ e ∙ sym (on_true _ (Ok x) _ (Err (unnamed x)) h refl) in
      let k : d ≡ x = cc in
      (k, rw k (ltb-true _ _ h)))
      (λ h. let j : Ok d ≡ Err (unnamed x) = sym i ∙ e ∙ sym (on_false _ (Err (unnamed x)) (Ok x) _ h refl) in cc)

  -- what is not named has the octets and the side of the designation, whose set is that of none
  pub err_named : (u : Unnamed) → o ≡ Err u → (u.octets ≡ x.octets) × ((u.side ≡ x.side) × (no_set ≤ x.set))
  unfolding named_or
  err_named u i =
      test (ltb x.set no_set)
      (λ h. let j : Err u ≡ Ok x = sym i ∙ e ∙ sym (on_true _ (Ok x) _ (Err (unnamed x)) h refl) in cc)
      (λ h. let j : Err u ≡ Err (unnamed x) = sym i ∙ e ∙ sym (on_false _ (Err (unnamed x)) (Ok x) _ h refl) in
      let k : u ≡ unnamed x = cc in
      (ap (λ (v : Unnamed). v.octets) k, (ap (λ (v : Unnamed). v.side) k, ltb-false _ _ h)))

  -- so where the set is at most that of none, the whole designation is answered
  pub err_whole : (u : Unnamed) → o ≡ Err u → x.set ≤ no_set → x ≡ designation_with u.octets u.side no_set
  err_whole u i m =
      let h = err_named u i in
      let z : x.set ≡ no_set = omega (arith, m, h.1.1) in
      rw (h.0, h.1.0, ← z) refl

-- ---- the set of these octets is at most that of none

multi_octet_most : (b last : ℕ) → (multi_octet_at b last).set ≤ no_set
unfolding multi_octet_at
multi_octet_most b last =
    pick_by (λ (x : Designation). x.set ≤ no_set) (eqb b 0x28) (λ _. set_most form_94x94 GL last)
    (λ _. pick_by (λ (x : Designation). x.set ≤ no_set) (eqb b 0x29) (λ _. set_most form_94x94 GR last) (λ _. omega arith))

pub sequence_most : (b c d : ℕ) → (sequence_of b c d).set ≤ no_set
unfolding sequence_of
sequence_most b c d =
    pick_by (λ (x : Designation). x.set ≤ no_set) (eqb b 0x24) (λ _. multi_octet_most c d)
    (λ _. pick_by (λ (x : Designation). x.set ≤ no_set) (eqb b 0x28) (λ _. set_most form_94 GL c)
    (λ _. pick_by (λ (x : Designation). x.set ≤ no_set) (eqb b 0x29) (λ _. set_most form_94 GR c)
    (λ _. pick_by (λ (x : Designation). x.set ≤ no_set) (eqb b 0x2D) (λ _. set_most form_96 GR c) (λ _. omega arith))))

pub designation_most : (t : List ℕ) → (designation_at t).set ≤ no_set
unfolding designation_at
designation_most [] = omega arith
designation_most (a ∷ []) = omega arith
designation_most (a ∷ b ∷ []) = omega arith
designation_most (a ∷ b ∷ c ∷ []) = omega arith
designation_most (a ∷ b ∷ c ∷ d ∷ t) =
    pick_by (λ (x : Designation). x.set ≤ no_set) (eqb a 0x1B) (λ _. sequence_most b c d) (λ _. omega arith)

-- so what is answered of them tells the whole designation
pub sequence_whole : (b c d : ℕ) (o : Result Designation Unnamed) (u : Unnamed) → o ≡ named_or (sequence_of b c d) → o ≡ Err u
    → sequence_of b c d ≡ designation_with u.octets u.side no_set
sequence_whole b c d o u e i = err_whole o _ e u i (sequence_most b c d)

pub designation_whole : (t : List ℕ) (o : Result Designation Unnamed) (u : Unnamed) → o ≡ named_or (designation_at t) → o ≡ Err u
    → designation_at t ≡ designation_with u.octets u.side no_set
designation_whole t o u e i = err_whole o _ e u i (designation_most t)
