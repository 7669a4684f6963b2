-- Looking a form over: what was counted and what the rest reads as is what the whole form reads as (`Looked`). Storing its octets: a form without fault is
-- the form of its octets, so that what stands at a place is the form of the next octet (`Filling`), which a reading finds there (`here`).
use Prim.Native.Nat.{ℕ, suc, ◌+◌, ◌≤◌, ◌<◌}
use native.Mathlib.Omega.{arith}
use mathlib.Core.Path.{◌≡◌, refl, ap, ap₂, sym, ◌∙◌}
use mathlib.Core.List.{List, [], ◌∷◌, ◌++◌}
use lib.Dec.{ltb}
use lib.ListN.{length, get_or, set, drop, length-set}
use lib.Seq.{sets, drop-append_seam}
use borrow.Author.Tests.{ltb-true, ltb-false}
use Rattle.std.specs.Prelude.{Option, Some, None, Result, Ok, Err}
use Rattle.base.specs.Choice.{from}
use Rattle.base.specs.Output.{stored_in}
use Rattle.base.proofs.Bools.{test, clash}
use Rattle.base.proofs.Ladder.{from_octet, from_end, from_from, from_length}
use Rattle.base.proofs.Stores.{stored_sets}
use Rattle.resource_form.specs.Form.{backslash, octet_form, resource_form, form_escape, form_first, stands}
use Rattle.resource_form.specs.Form.{FormReading, stands_for, fault_at, put_before, read_from, form_reading}
use Rattle.resource_form.specs.declared.First.{First}
use Rattle.resource_form.proofs.Readings.{same_first, first_of_form, first_few, escape_first_of, raw_first, bad_first, good_first}
use Rattle.resource_form.proofs.Theorems.{form_of_read}
use Rattle.resource.specs.Scan.{scan_of, octets_of}
use Rattle.resource.specs.declared.read.Fault.{Fault}

-- ---- looking over

-- n octets before what was found in the rest
abbrev plus : ℕ → Result ℕ Fault → Result ℕ Fault
plus n (Ok m) = Ok (n + m)
plus n (Err fault) = Err fault

plus_none : (x : Result ℕ Fault) → plus 0 x ≡ x
plus_none (Ok m) = ap Ok (let e : 0 + m ≡ m = omega arith in e)
plus_none (Err fault) = refl

plus_one : (n b : ℕ) (r : FormReading) → plus n (scan_of (put_before b r)) ≡ plus (n + 1) (scan_of r)
unfolding scan_of
plus_one n b (stands_for bs) = ap Ok (let e : n + suc (length bs) ≡ n + 1 + length bs = omega arith in e)
plus_one n b (fault_at p) = refl

module _ (s : List ℕ) where
  pub record Looked (at count : ℕ) : Type 0 where
    pub few : at ≤ length s
    pub less : count ≤ at
    pub is : plus count (scan_of (read_from (from at s) 0 at)) ≡ scan_of (form_reading s)

  pub looked_first : Looked 0 0
  unfolding from
  looked_first = record { few = omega arith; less = omega arith; is = plus_none (scan_of (form_reading s)) }

  -- what stands first has one octet at least, and lies within the form
  pub first_within : (at b k : ℕ) (x : Option First) → at < length s → x ≡ form_first (from at s) → x ≡ Some (stands b k) → (1 ≤ k) × (at + k ≤ length s)
  first_within at b k x h is e =
      let few = first_few b k (from at s) (sym is ∙ e) in
      (few.0, omega (arith, few.1, from_length s at))

  pub looked_next : (at count b k : ℕ) (x : Option First) → at < length s → x ≡ form_first (from at s) → x ≡ Some (stands b k) → Looked at count
      → Looked (at + k) (count + 1)
  looked_next at count b k x h is e l =
      let within = first_within at b k x h is e in
      let few = l.few in
      let less = l.less in
      let step : read_from (from at s) 0 at ≡ put_before b (read_from (from (at + k) s) 0 (at + k)) =
      good_first (from at s) at b k (sym is ∙ e) ∙ ap (λ (t : List ℕ). put_before b (read_from t 0 (at + k))) (from_from s at k) in
      record {
        few = within.1;
        less = omega (arith, within.0);
        is =
            sym (plus_one count b (read_from (from (at + k) s) 0 (at + k)))
            ∙ ap (λ (r : FormReading). plus count (scan_of r)) (sym step) ∙ l.is;
      }

  pub looked_bad : (at count : ℕ) (x : Option First) → at < length s → x ≡ form_first (from at s) → x ≡ None → Looked at count
      → Err (record { place = at }) ≡ scan_of (form_reading s)
  unfolding scan_of
  looked_bad at count x h is e l =
      let octet = from_octet s at h in
      let bad : read_from (from at s) 0 at ≡ fault_at at =
      ap (λ (t : List ℕ). read_from t 0 at) octet ∙ bad_first (get_or s at 0) (from (at + 1) s) at (ap form_first (sym octet) ∙ sym is ∙ e) in
      ap (λ (r : FormReading). plus count (scan_of r)) (sym bad) ∙ l.is

  pub looked_last : (at count : ℕ) → length s ≤ at → Looked at count → Ok count ≡ scan_of (form_reading s)
  unfolding scan_of read_from
  looked_last at count h l =
      let done : read_from (from at s) 0 at ≡ stands_for [] = ap (λ (t : List ℕ). read_from t 0 at) (from_end s at h) in
      ap Ok (let e : count ≡ count + 0 = omega arith in e) ∙ ap (λ (r : FormReading). plus count (scan_of r)) (sym done) ∙ l.is

-- ---- storing

module _ (form bs old : List ℕ) (n : ℕ) where
  pub record Filling (i at : ℕ) (out : List ℕ) : Type 0 where
    pub all : n ≡ length bs
    pub few : i ≤ n
    pub stands : from at form ≡ resource_form (from i bs)
    pub stored : sets out i (from i bs) ≡ sets old 0 bs
    pub same : length out ≡ length old

  pub filling_first : form ≡ resource_form bs → n ≡ length bs → Filling 0 0 old
  unfolding from
  filling_first e f = record { all = f; few = omega arith; stands = e; stored = refl; same = refl }

  module _ (i at : ℕ) (out : List ℕ) (h : Filling i at out) (more : i < n) where
    within : i < length bs
    within = omega (arith, h.all)

    split : from at form ≡ octet_form (get_or bs i 0) ++ resource_form (from (i + 1) bs)
    unfolding resource_form
    split = h.stands ∙ ap resource_form (from_octet bs i within)

    -- what stands there is the next octet
    here : form_first (from at form) ≡ Some (stands (get_or bs i 0) (length (octet_form (get_or bs i 0))))
    here = ap form_first split ∙ first_of_form (get_or bs i 0) (resource_form (from (i + 1) bs))

    pub some_here : at < length form
    unfolding form_first
    some_here =
        test (ltb at (length form)) (λ q. ltb-true at (length form) q)
        (λ q. clash (cc (sym here ∙ ap form_first (from_end form at (ltb-false at (length form) q)))))

    pub room_here : n ≤ length old → i < length out
    room_here room = omega (arith, h.same)

    first_here : form_first (get_or form at 0 ∷ from (at + 1) form) ≡ Some (stands (get_or bs i 0) (length (octet_form (get_or bs i 0))))
    first_here = ap form_first (sym (from_octet form at some_here)) ∙ here

    escape-here : (x : Option First) → get_or form at 0 ≡ backslash → x ≡ form_escape (from (at + 1) form)
        → x ≡ Some (stands (get_or bs i 0) (length (octet_form (get_or bs i 0))))
    escape-here x b e = e ∙ sym (escape_first_of (get_or form at 0) (from (at + 1) form) b) ∙ first_here

    -- it is never bad
    pub escape_stands : (x : Option First) → get_or form at 0 ≡ backslash → x ≡ form_escape (from (at + 1) form) → x ≡ None → ⊥
    escape_stands x b e f = clash (cc (sym f ∙ escape-here x b e))

    next : (p : ℕ) (after : List ℕ) → p ≡ at + length (octet_form (get_or bs i 0)) → after ≡ set out i (get_or bs i 0) → Filling (i + 1) p after
    next p after e f =
        let w = octet_form (get_or bs i 0) in
        let rest = resource_form (from (i + 1) bs) in
        record {
          all = h.all;
          few = omega arith;
          stands =
              ap (λ (k : ℕ). from k form) e
              ∙ sym (from_from form at (length w)) ∙ ap (drop (length w)) split ∙ drop-append_seam w rest;
          stored =
              ap₂ (λ (l : List ℕ) (k : ℕ). sets l k (from (i + 1) bs)) f (let z : i + 1 ≡ suc i = omega arith in z)
              ∙ ap (sets out i) (sym (from_octet bs i within)) ∙ h.stored;
          same = ap length f ∙ length-set out i (get_or bs i 0) ∙ h.same;
        }

    pub escape_next : (c k m p : ℕ) (x : Option First) (after : List ℕ) → get_or form at 0 ≡ backslash → x ≡ form_escape (from (at + 1) form)
        → x ≡ Some (stands c k) → m ≡ length (octet_form c) → p ≡ at + m → after ≡ set out i c → Filling (i + 1) p after
    escape_next c k m p x after b e f g h l =
        let octet : c ≡ get_or bs i 0 = (same_first (sym f ∙ escape-here x b e)).0 in
        next p after (h ∙ ap (λ (q : ℕ). at + q) (g ∙ ap (λ (y : ℕ). length (octet_form y)) octet)) (l ∙ ap (set out i) octet)

    pub raw_next : (p : ℕ) (after : List ℕ) → (get_or form at 0 ≡ backslash → ⊥) → p ≡ at + 1 → after ≡ set out i (get_or form at 0)
        → Filling (i + 1) p after
    raw_next p after b e f =
        let octet = raw_first (get_or form at 0) (from (at + 1) form) (get_or bs i 0) (length (octet_form (get_or bs i 0))) b first_here in
        next p after (e ∙ ap (λ (q : ℕ). at + q) (sym octet.1)) (f ∙ ap (set out i) octet.0)

  pub filling_last : (i at : ℕ) (out : List ℕ) → n ≤ length old → n ≤ i → Filling i at out → out ≡ stored_in bs old
  filling_last i at out room done h =
      let all = h.all in
      stored_sets bs old out (omega arith) (ap (sets out i) (sym (from_end bs i (omega arith))) ∙ h.stored)

-- a form without fault is the form of its octets
pub form_of_octets : (t : List ℕ) (k : ℕ) → Ok k ≡ scan_of (form_reading t) → t ≡ resource_form (octets_of (form_reading t))
unfolding scan_of octets_of
form_of_octets t k e = go (form_reading t) refl e
  where
    go : (r : FormReading) → form_reading t ≡ r → Ok k ≡ scan_of r → t ≡ resource_form (octets_of r)
    go (stands_for bs) q f = form_of_read t bs q
    go (fault_at p) q f = clash (cc f)
