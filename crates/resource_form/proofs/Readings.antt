-- The form of octets and the reading of a form, which are stated apart, belong together: what stands first in a form is the form of one octet
-- (`first_of_form`, `form_of_first`), so that by induction every reading splits its octets into forms of octets and, where it has a fault, what
-- stands from there on and begins with none (`reads`); and a form of octets before anything is read as these octets (`form_before`).
use Prim.Native.Nat.{ℕ, zero, suc, ◌+◌, ◌-◌, ◌≤◌}
use native.Mathlib.Omega.{arith}
use native.Mathlib.Nat.{not-suc-le-zero}
use mathlib.Core.Path.{◌≡◌, refl, ap, ap₂, sym, ◌∙◌, subst}
use mathlib.Core.Bool.{false}
use mathlib.Core.List.{List, [], ◌∷◌, ◌++◌, append_assoc}
use lib.Dec.{eqb}
use lib.ListN.{length, drop, length-append}
use lib.Seq.{drop-append_seam}
use borrow.Author.Tests.{eqb-true, eq-eqb, ne_eqb}
use Rattle.std.specs.Prelude.{Option, Some, None}
use Rattle.base.specs.Choice.{pick}
use Rattle.base.proofs.Bools.{test, clash}
use Rattle.resource_form.specs.Form.{backslash, newline, nul, letter_n, digit_0, octet_form, resource_form, zero_first, form_zeros, form_escape, form_first, stands}
use Rattle.resource_form.specs.Form.{FormReading, stands_for, fault_at, put_before, on_first, read_from}
use Rattle.resource_form.specs.declared.First.{First}

-- what holds of the three octets that are escaped, and of any other, holds of every octet
pub each_octet : (P : ℕ → Type 0) → P backslash → P newline → P nul
    → ((b : ℕ) → eqb b backslash ≡ false → eqb b newline ≡ false → eqb b nul ≡ false → P b) → (b : ℕ) → P b
each_octet P x y z other b =
    test (eqb b backslash) (λ e. subst P (sym (eqb-true b backslash e)) x)
    (λ e. test (eqb b newline) (λ f. subst P (sym (eqb-true b newline f)) y)
    (λ f. test (eqb b nul) (λ g. subst P (sym (eqb-true b nul g)) z) (λ g. other b e f g)))

-- an octet's form is read as that octet, whatever follows it
pub first_of_form : (b : ℕ) (t : List ℕ) → form_first (octet_form b ++ t) ≡ Some (stands b (length (octet_form b)))
unfolding octet_form form_first form_escape zero_first form_zeros pick
first_of_form b t =
    each_octet (λ c. form_first (octet_form c ++ t) ≡ Some (stands c (length (octet_form c)))) refl refl refl (λ c e f g. rw (e, f, g, e, f, g)) b

-- what stands first is the form of its octet
pub record Starts (b k : ℕ) (t : List ℕ) : Type 0 where
  pub is : t ≡ octet_form b ++ drop k t
  pub size : k ≡ length (octet_form b)

-- what is the same has the same octet and the same size
pub same_first : {c j b k : ℕ} → Some (stands c j) ≡ Some (stands b k) → (c ≡ b) × (j ≡ k)
same_first {c} {j} {b} {k} e =
    let same : stands c j ≡ stands b k = cc e in (ap (λ (f : First). f.octet) same, ap (λ (f : First). f.size) same)

module _ {b k : ℕ} where
  standing : {t : List ℕ} (c j : ℕ) → Some (stands c j) ≡ Some (stands b k) → Starts c j t → Starts b k t
  standing c j e h = let same : (c ≡ b) × (j ≡ k) = same_first e in rw (← same.0, ← same.1) h

  zeros_first : (t : List ℕ) → form_zeros t ≡ Some (stands b k) → Starts b k (backslash ∷ digit_0 ∷ t)
  unfolding octet_form zero_first form_zeros pick
  zeros_first [] e = clash (cc e)
  zeros_first (x ∷ []) e = test (eqb x digit_0) (λ f. clash (cc (rw f at e))) (λ f. clash (cc (rw f at e)))
  zeros_first (x ∷ y ∷ t) e =
      test (eqb x digit_0)
      (λ f. test (eqb y digit_0)
      (λ g. standing nul 4 (rw (f, g) at e) (rw (eqb-true x digit_0 f, eqb-true y digit_0 g) (record { is = refl; size = refl })))
      (λ g. clash (cc (rw (f, g) at e))))
      (λ f. clash (cc (rw f at e)))

  escape_first : (t : List ℕ) → form_escape t ≡ Some (stands b k) → Starts b k (backslash ∷ t)
  unfolding octet_form form_escape pick
  escape_first [] e = clash (cc e)
  escape_first (x ∷ t) e =
      test (eqb x backslash) (λ f. standing backslash 2 (rw f at e) (rw (eqb-true x backslash f) (record { is = refl; size = refl })))
      (λ f. test (eqb x letter_n) (λ g. standing newline 2 (rw (f, g) at e) (rw (eqb-true x letter_n g) (record { is = refl; size = refl })))
      (λ g. test (eqb x digit_0) (λ h. rw (eqb-true x digit_0 h) (zeros_first t (rw (f, g, h) at e))) (λ h. clash (cc (rw (f, g, h) at e)))))

  pub form_of_first : (t : List ℕ) → form_first t ≡ Some (stands b k) → Starts b k t
  unfolding octet_form form_first pick
  form_of_first [] e = clash (cc e)
  form_of_first (x ∷ t) e =
      test (eqb x backslash) (λ f. rw (eqb-true x backslash f) (escape_first t (rw f at e)))
      (λ f. test (eqb x newline) (λ g. clash (cc (rw (f, g) at e)))
      (λ g. test (eqb x nul) (λ h. clash (cc (rw (f, g, h) at e)))
      (λ h. standing x 1 (rw (f, g, h) at e) (record { is = rw (f, g, h); size = rw (f, g, h) }))))

-- after a backslash stands an escape, and any other octet is raw
pub escape_first_of : (x : ℕ) (t : List ℕ) → x ≡ backslash → form_first (x ∷ t) ≡ form_escape t
unfolding form_first pick
escape_first_of x t e = rw (eq-eqb x backslash e)

pub raw_first : (x : ℕ) (t : List ℕ) (b k : ℕ) → (x ≡ backslash → ⊥) → form_first (x ∷ t) ≡ Some (stands b k) → (x ≡ b) × (k ≡ 1)
unfolding form_first pick
raw_first x t b k n e =
    let f = ne_eqb x backslash n in
    test (eqb x newline) (λ g. clash (cc (rw (f, g) at e)))
    (λ g. test (eqb x nul) (λ h. clash (cc (rw (f, g, h) at e)))
    (λ h. let same : (x ≡ b) × (1 ≡ k) = same_first (rw (f, g, h) at e) in (same.0, sym same.1)))

-- a form has one to four octets for each octet
pub octet_form_few : (b : ℕ) → (1 ≤ length (octet_form b)) × (length (octet_form b) ≤ 4)
unfolding octet_form pick
octet_form_few =
    each_octet (λ b. (1 ≤ length (octet_form b)) × (length (octet_form b) ≤ 4)) (omega arith, omega arith) (omega arith, omega arith)
    (omega arith, omega arith) (λ b e f g. rw (e, f, g) (omega arith, omega arith))

-- what stands first has one octet at least, and lies within its octets
pub first_few : (b k : ℕ) (t : List ℕ) → form_first t ≡ Some (stands b k) → (1 ≤ k) × (k ≤ length t)
first_few b k t e =
    let first = form_of_first t e in
    let long = ap length first.is ∙ length-append (octet_form b) (drop k t) in
    let size = first.size in
    (omega (arith, (octet_form_few b).0, size), omega (arith, long, size))

-- what a reading from a place says of its octets: they are a form; or the form of octets, and then something that begins with none, where the fault is
pub data Reads (t : List ℕ) (at : ℕ) : FormReading → Type 0 where
  whole : (bs : List ℕ) → t ≡ resource_form bs → Reads t at (stands_for bs)
  faulty : (p : ℕ) (bs : List ℕ) (x : ℕ) (u : List ℕ) → t ≡ resource_form bs ++ (x ∷ u) → form_first (x ∷ u) ≡ None
      → p ≡ at + length (resource_form bs) → Reads t at (fault_at p)

-- the form of an octet before what is read
reads_before : (b : ℕ) (t : List ℕ) (at : ℕ) (r : FormReading) → Reads t (at + length (octet_form b)) r → Reads (octet_form b ++ t) at (put_before b r)
unfolding resource_form
reads_before b t at r (whole bs e) = whole (b ∷ bs) (ap (λ (x : List ℕ). octet_form b ++ x) e)
reads_before b t at r (faulty p bs x u e f g) =
    faulty p (b ∷ bs) x u (ap (λ (y : List ℕ). octet_form b ++ y) e ∙ sym (append_assoc (octet_form b) (resource_form bs) (x ∷ u))) f
    (omega (arith, g, length-append (octet_form b) (resource_form bs)))

-- what stands first, and the reading after it
reads_first : (x : ℕ) (t : List ℕ) (at : ℕ) → ((k : ℕ) → k ≤ length t → Reads (drop k t) (at + 1 + k) (read_from t k (at + 1)))
    → (f : Option First) → form_first (x ∷ t) ≡ f → Reads (x ∷ t) at (on_first at f (λ k. read_from t k (at + 1)))
unfolding on_first resource_form
reads_first x t at after None e = faulty at [] x t refl e (omega arith)
reads_first x t at after (Some f) e =
    let b = f.octet in
    let k = f.size in
    let first : Starts b k (x ∷ t) = form_of_first (x ∷ t) e in
    let few : (1 ≤ k) × (k ≤ suc (length t)) = first_few b k (x ∷ t) e in
    let cut : suc (k - 1) ≡ k = omega (arith, few) in
    let rest : drop (k - 1) t ≡ drop k (x ∷ t) = ap (λ (j : ℕ). drop j (x ∷ t)) cut in
    let place : at + 1 + (k - 1) ≡ at + length (octet_form b) = omega (arith, few, first.size) in
    subst (λ (y : List ℕ). Reads y at (put_before b (read_from t (k - 1) (at + 1)))) (sym first.is)
    (reads_before b (drop k (x ∷ t)) at (read_from t (k - 1) (at + 1)) (rw (rest, place) at (after (k - 1) (omega (arith, few)))))

-- every reading, of whose octets the first k belong to the escape before
pub reads : (t : List ℕ) (k at : ℕ) → k ≤ length t → Reads (drop k t) (at + k) (read_from t k at)
unfolding read_from resource_form
reads [] zero at h = whole [] refl
reads [] (suc k) at h = absurd (not-suc-le-zero h)
reads (x ∷ t) (suc k) at h =
    subst (λ (p : ℕ). Reads (drop k t) p (read_from t k (at + 1))) (let e : at + 1 + k ≡ at + suc k = omega arith in e)
    (reads t k (at + 1) (omega arith))
reads (x ∷ t) zero at h =
    subst (λ (p : ℕ). Reads (x ∷ t) p (read_from (x ∷ t) 0 at)) (let e : at ≡ at + 0 = omega arith in e)
    (reads_first x t at (λ k. reads t k (at + 1)) (form_first (x ∷ t)) refl)

-- octets that belong to the escape before are passed
passed : (t : List ℕ) (k at : ℕ) → k ≤ length t → read_from t k at ≡ read_from (drop k t) 0 (at + k)
unfolding read_from
passed t zero at h = ap (read_from t 0) (let e : at ≡ at + 0 = omega arith in e)
passed [] (suc k) at h = absurd (not-suc-le-zero h)
passed (x ∷ t) (suc k) at h =
    passed t k (at + 1) (omega arith) ∙ ap (read_from (drop k t) 0) (let e : at + 1 + k ≡ at + suc k = omega arith in e)

-- a reading by what stands first: a fault, or its octet before the reading of the rest
pub bad_first : (x : ℕ) (t : List ℕ) (at : ℕ) → form_first (x ∷ t) ≡ None → read_from (x ∷ t) 0 at ≡ fault_at at
unfolding read_from on_first
bad_first x t at e = ap (λ (f : Option First). on_first at f (λ k. read_from t k (at + 1))) e

pub good_first : (t : List ℕ) (at b k : ℕ) → form_first t ≡ Some (stands b k) → read_from t 0 at ≡ put_before b (read_from (drop k t) 0 (at + k))
unfolding read_from on_first form_first
good_first [] at b k e = clash (cc e)
good_first (x ∷ t) at b k e =
    let few : (1 ≤ k) × (k ≤ suc (length t)) = first_few b k (x ∷ t) e in
    let cut : suc (k - 1) ≡ k = omega (arith, few) in
    let place : at + 1 + (k - 1) ≡ at + k = omega (arith, few) in
    ap (λ (f : Option First). on_first at f (λ j. read_from t j (at + 1))) e
    ∙ ap (put_before b)
    (passed t (k - 1) (at + 1) (omega (arith, few))
    ∙ ap₂ (λ (y : List ℕ) (p : ℕ). read_from y 0 p) (ap (λ (j : ℕ). drop j (x ∷ t)) cut) place)

-- octets before what is read
abbrev pub befores : List ℕ → FormReading → FormReading
befores [] r = r
befores (b ∷ bs) r = put_before b (befores bs r)

pub befores_octets : (bs cs : List ℕ) → befores bs (stands_for cs) ≡ stands_for (bs ++ cs)
befores_octets [] cs = refl
befores_octets (b ∷ bs) cs = ap (put_before b) (befores_octets bs cs)

pub befores_fault : (bs : List ℕ) (p : ℕ) → befores bs (fault_at p) ≡ fault_at p
befores_fault [] p = refl
befores_fault (b ∷ bs) p = ap (put_before b) (befores_fault bs p)

pub form_before : (bs t : List ℕ) (at : ℕ) → read_from (resource_form bs ++ t) 0 at ≡ befores bs (read_from t 0 (at + length (resource_form bs)))
unfolding resource_form
form_before [] t at = ap (read_from t 0) (let e : at ≡ at + 0 = omega arith in e)
form_before (b ∷ bs) t at =
    let n = length (octet_form b) in
    let rest = resource_form bs ++ t in
    let place : at + n + length (resource_form bs) ≡ at + length (octet_form b ++ resource_form bs) =
    omega (arith, length-append (octet_form b) (resource_form bs)) in
    ap (λ (y : List ℕ). read_from y 0 at) (append_assoc (octet_form b) (resource_form bs) t)
    ∙ good_first (octet_form b ++ rest) at b n (first_of_form b rest)
    ∙ ap (put_before b)
    (ap (λ (y : List ℕ). read_from y 0 (at + n)) (drop-append_seam (octet_form b) rest)
    ∙ form_before bs t (at + n) ∙ ap (λ (p : ℕ). befores bs (read_from t 0 p)) place)
