-- The theorems of resource files, for all octets. A string's form is read as the string (`read_of_form`), a form that is accepted is the form of
-- what it reads as (`form_of_read`), so the only one; a form has one to four octets for each octet (`form_length`), and all octets but three stay
-- (`others_stay`); a fault is the first, stands where a form of octets ends (`fault_first`, `fault_there`), and is at one of the three (`fault_octet`).
use Prim.Native.Nat.{ℕ, ◌+◌, ◌*◌, ◌≤◌}
use native.Mathlib.Omega.{arith}
use mathlib.Core.Path.{◌≡◌, refl, ap, sym, ◌∙◌, subst}
use mathlib.Core.List.{List, [], ◌∷◌, ◌++◌, append-nil}
use mathlib.Core.Logic.{◌⊎◌, inl, inr}
use lib.Dec.{eqb}
use lib.ListN.{length, length-append}
use borrow.Author.Tests.{eqb-true, ne_eqb}
use Rattle.std.specs.Prelude.{None}
use Rattle.base.specs.Choice.{pick}
use Rattle.base.proofs.Bools.{test, clash}
use Rattle.resource_form.specs.Form.{backslash, newline, nul, octet_form, resource_form, form_first}
use Rattle.resource_form.specs.Form.{FormReading, stands_for, fault_at, read_from, form_reading}
use Rattle.resource_form.proofs.Readings.{octet_form_few, Reads, whole, faulty, reads}
use Rattle.resource_form.proofs.Readings.{bad_first, befores, befores_octets, befores_fault, form_before}

-- reading what was written gives the octets back (promise Q1a)
pub read_of_form : (s : List ℕ) → form_reading (resource_form s) ≡ stands_for s
unfolding read_from
read_of_form s =
    ap form_reading (sym (append-nil (resource_form s)))
    ∙ form_before s [] 0
    ∙ befores_octets s [] ∙ ap stands_for (append-nil s)

-- an accepted form is the only one for its octets (promise Q1b)
pub form_of_read : (t bs : List ℕ) → form_reading t ≡ stands_for bs → t ≡ resource_form bs
form_of_read t bs e = go (subst (Reads t 0) e (reads t 0 0 (omega arith))) refl
  where
    go : {r : FormReading} → Reads t 0 r → r ≡ stands_for bs → t ≡ resource_form bs
    go (whole cs f) g = f ∙ ap resource_form (let q : cs ≡ bs = cc g in q)
    go (faulty p cs x u f h k) g = clash (cc g)

-- a form has at least as many octets as the string, and at most four times as many
pub form_length : (s : List ℕ) → (length s ≤ length (resource_form s)) × (length (resource_form s) ≤ 4 * length s)
unfolding resource_form
form_length [] = (omega arith, omega arith)
form_length (b ∷ s) =
    let one = octet_form_few b in
    let rest = form_length s in
    let long = length-append (octet_form b) (resource_form s) in
    (omega (arith, one.0, rest.0, long), omega (arith, one.1, rest.1, long))

-- an octet that is none of the three stays
pub others_stay : (b : ℕ) → (b ≡ backslash → ⊥) → (b ≡ newline → ⊥) → (b ≡ nul → ⊥) → octet_form b ≡ b ∷ []
unfolding octet_form pick
others_stay b x y z = rw (ne_eqb b backslash x, ne_eqb b newline y, ne_eqb b nul z)

-- the fault of a reading: the octets before it are a form, and with the octet there nothing begins (promise Q1c)
pub record FirstFault (t : List ℕ) (p : ℕ) : Type 0 where
  pub before : List ℕ
  pub octet : ℕ
  pub after : List ℕ
  pub is : t ≡ resource_form before ++ (octet ∷ after)
  pub place : p ≡ length (resource_form before)
  pub bad : form_first (octet ∷ after) ≡ None

pub fault_first : (t : List ℕ) (p : ℕ) → form_reading t ≡ fault_at p → FirstFault t p
fault_first t p e = go (subst (Reads t 0) e (reads t 0 0 (omega arith))) refl
  where
    go : {r : FormReading} → Reads t 0 r → r ≡ fault_at p → FirstFault t p
    go (whole cs f) g = clash (cc g)
    go (faulty q cs x u f h k) g =
        let same : q ≡ p = cc g in
        record { before = cs; octet = x; after = u; is = f; place = omega (arith, k); bad = h }

pub fault_there : (t : List ℕ) (p : ℕ) → FirstFault t p → form_reading t ≡ fault_at p
fault_there t p f =
    let at = 0 + length (resource_form f.before) in
    let there : at ≡ p = omega (arith, f.place) in
    ap form_reading f.is
    ∙ form_before f.before (f.octet ∷ f.after) 0
    ∙ ap (befores f.before) (bad_first f.octet f.after at f.bad)
    ∙ befores_fault f.before at ∙ ap fault_at there

-- it stands at a backslash, a newline or 00
pub fault_octet : (x : ℕ) (t : List ℕ) → form_first (x ∷ t) ≡ None → (x ≡ backslash) ⊎ ((x ≡ newline) ⊎ (x ≡ nul))
unfolding form_first pick
fault_octet x t e =
    test (eqb x backslash) (λ f. inl (eqb-true x backslash f))
    (λ f. test (eqb x newline) (λ g. inr (inl (eqb-true x newline g)))
    (λ g. test (eqb x nul) (λ h. inr (inr (eqb-true x nul h))) (λ h. clash (cc (rw (f, g, h) at e)))))
