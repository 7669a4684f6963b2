-- The refusals of the X11R5 writer beside those of the base writer (rule X6). The record that the base writer refuses is refused here too, by 11 for 11 and by
-- 15 for 7, 8 and 9, or one before it is refused by 15 (`beside_base`): by induction on the list. Up to the first mark or segment no mark was read, so until
-- then the direction rule lets every unit pass (`plain_goes`), and what it refuses is itself a mark.
use Rattle.element.proofs.Names.{ℕ, suc, ◌≤◌, arith, ◌≡◌, refl, sym, ap, ◌∙◌, subst, true, false, cond, List, [], ◌∷◌, Option, none, some, eqb}
use Rattle.element.proofs.Names.{ne_eqb, leb, le-leb, from-tests, UnitRecord, ◌&&◌, clash, off, test, cond_by, directions, undirected, Directions, Step}
use Rattle.element.proofs.Names.{Goes, Stops}
use Rattle.base.specs.Refusal as refusal
use Rattle.element.proofs.Sizes.{Fair, goes, stops, fair}
use Rattle.grammar.specs.Reading.{direct}
use Rattle.grammar.specs.Records.{unit_read}
use Rattle.grammar.specs.Units.{TextUnit, char, space, control, ext, kind_of, counts, good}
use Rattle.shortest.proofs.Offence.{offence as base-offence}
use Rattle.shortest.specs.Offence.{FirstOffends}
use Rattle.shortest.specs.Records.{own, fault, Finding, faulty, on_step, check_records}
use Rattle.x11r5.specs.Outcome.{in_place_of, Beside, same, sooner}
use Rattle.x11r5.specs.Records.{record_refusal, on_refusal, first_refused}
use Rattle.x11r5.specs.Writing.{unsupported_unit}
use Rattle.x11r5.proofs.Directions.{plain_goes}

-- ---- one record

-- what it refuses it refuses by 8 or 9
abbrev Ruled : ℕ → Type 0
Ruled n = (refusal.direction ≤ n) × (n ≤ refusal.too_deep)

ruled : (u : TextUnit) (d : Directions) (n : ℕ) → direct d u ≡ Stops n → Ruled n
ruled u d n = go (fair d (counts u) (kind_of u))
  where
    go : {x : Step} → Fair d x → x ≡ Stops n → Ruled n
    go (goes h) e = clash (cc)
    go (stops {n = m} h) e = subst Ruled (let z : m ≡ n = cc in z) h

-- the refusal of a unit that is not good
own_place : (u : TextUnit) → cond (eqb (own u) refusal.bad_segment) refusal.unsupported refusal.bad_unit ≡ in_place_of (own u)
own_place (char c k) = refl
own_place space = refl
own_place (control x) = refl
own_place (ext e xs) =
    cond_by (λ (n : ℕ). cond (eqb n refusal.bad_segment) refusal.unsupported refusal.bad_unit ≡ in_place_of n) (leb 0x30 e && leb e 0x34)
    (λ _. refl) (λ _. refl)

-- 11 and 7, of any record
pub record_own : (x : Option TextUnit) (d : Directions) (n : ℕ) → fault x d ≡ Stops n → (Ruled n → ⊥) → record_refusal x ≡ in_place_of n
unfolding record_refusal
record_own none d n e r = ap in_place_of (let q : refusal.bad_unit ≡ n = cc in q)
record_own (some u) d n e r =
    test (good u) (λ g. absurd (r (ruled u d n (rw g at e))))
    (λ g. rw g (own_place u ∙ ap in_place_of (let q : own u ≡ n = cc (rw g at e) in q)))

-- 8 and 9, where no mark was read
record_ruled : (x : Option TextUnit) (d : Directions) (n : ℕ) → d.marked ≡ false → fault x d ≡ Stops n → Ruled n
    → record_refusal x ≡ in_place_of n
unfolding record_refusal
record_ruled none d n m e r = ap in_place_of (let q : refusal.bad_unit ≡ n = cc in q)
record_ruled (some u) d n m e r =
    test (good u)
    (λ g. test (unsupported_unit u) (λ q. rw (g, q) (sym (rw (ne_eqb n refusal.bad_unit (λ z. omega (arith, r.1, z))))))
    (λ q. clash (cc (plain_goes u d q m, rw g at e))))
    (λ g. rw g (own_place u ∙ ap in_place_of (let q : own u ≡ n = cc (rw g at e) in q)))

pub record_beside : (x : Option TextUnit) (d : Directions) (n : ℕ) → d.marked ≡ false → fault x d ≡ Stops n → record_refusal x ≡ in_place_of n
record_beside x d n m e =
    test (leb refusal.direction n && leb n refusal.too_deep) (λ t. record_ruled x d n m e (search from-tests))
    (λ t. record_own x d n e (λ r. off (sym t ∙ both r)))
  where
    both : Ruled n → (leb refusal.direction n && leb n refusal.too_deep) ≡ true
    both r = rw (le-leb _ _ r.0, le-leb _ _ r.1)

-- ---- the list

-- the check of records counted from k tells none before k
place_after_lem : (o : List ℕ) (rs : List UnitRecord) (k : ℕ) (d : Directions) (n j : ℕ) → check_records o rs k d ≡ faulty n j → k ≤ j
unfolding check_records
place_after_lem o [] k d n j e = clash (cc)
place_after_lem o (r ∷ rs) k d n j e = go (fault (unit_read o r) d) e (λ next q. place_after_lem o rs (suc k) next n j q)
  where
    go : (x : Step) → on_step x k (λ next. check_records o rs (suc k) next) ≡ faulty n j
        → ((next : Directions) → check_records o rs (suc k) next ≡ faulty n j → suc k ≤ j) → k ≤ j
    go (Stops m) e f = let z : k ≡ j = cc in omega arith
    go (Goes next) e f = let h = f next e in omega arith

-- a record that is refused in the place of n ends the check
refused_here : (n k : ℕ) (c : Finding) → on_refusal (in_place_of n) k c ≡ faulty (in_place_of n) k
refused_here n k c = test (eqb n refusal.bad_unit) (λ t. rw t) (λ t. rw t)

module _ (o : List ℕ) where
  beside : (rs : List UnitRecord) (k : ℕ) (d : Directions) (n j : ℕ) → d.marked ≡ false → check_records o rs k d ≡ faulty n j
      → Beside n j (first_refused o rs k)
  unfolding check_records first_refused record_refusal
  beside [] k d n j m e = clash (cc)
  beside (r ∷ rs) k d n j m e = go (unit_read o r) (fault (unit_read o r) d) refl refl e (λ next q z. beside rs (suc k) next n j q z)
    where
      here : (i : ℕ) → faulty i k ≡ faulty n j → record_refusal (unit_read o r) ≡ in_place_of i
          → Beside n j (on_refusal (record_refusal (unit_read o r)) k (first_refused o rs (suc k)))
      here i e q =
          let a : i ≡ n = cc in
          let b : k ≡ j = cc in
          let c = first_refused o rs (suc k) in
          subst (Beside n j)
          (sym (ap (λ (z : ℕ). on_refusal z k c) (q ∙ ap in_place_of a) ∙ refused_here n k c ∙ ap (faulty (in_place_of n)) b))
          same

      -- a good unit whose step goes on: one that X11R5 has, after which no mark was read, or one that is refused
      on : (u : TextUnit) (next : Directions) → unit_read o r ≡ some u → good u ≡ true → direct d u ≡ Goes next
          → check_records o rs (suc k) next ≡ faulty n j
          → ((next : Directions) → next.marked ≡ false → check_records o rs (suc k) next ≡ faulty n j → Beside n j (first_refused o rs (suc k)))
          → Beside n j (on_refusal (record_refusal (unit_read o r)) k (first_refused o rs (suc k)))
      on u next p g q e f =
          test (unsupported_unit u) (λ t. rw (p, g, t) (sooner {i = k} (place_after_lem o rs (suc k) next n j e)))
          (λ t. let z : directions d.depth d.levels false (cond (counts u) true d.texted) ≡ next = cc (plain_goes u d t m, q) in
          rw (p, g, t) (f next (ap (λ (w : Directions). w.marked) (sym z)) e))

      go : (x : Option TextUnit) (y : Step) → unit_read o r ≡ x → fault (unit_read o r) d ≡ y
          → on_step y k (λ next. check_records o rs (suc k) next) ≡ faulty n j
          → ((next : Directions) → next.marked ≡ false → check_records o rs (suc k) next ≡ faulty n j → Beside n j (first_refused o rs (suc k)))
          → Beside n j (on_refusal (record_refusal (unit_read o r)) k (first_refused o rs (suc k)))
      go x (Stops i) p q e f = here i e (record_beside (unit_read o r) d i m q)
      go none (Goes next) p q e f = clash (cc (rw p at q))
      go (some u) (Goes next) p q e f =
          test (good u) (λ g. on u next p g (rw (p, g) at q) e f) (λ g. clash (cc (rw (p, g) at q)))

-- of a whole list
pub beside_base : (o : List ℕ) (rs : List UnitRecord) (n j : ℕ) → FirstOffends o rs n j → Beside n j (first_refused o rs 0)
beside_base o rs n j f = beside o rs 0 undirected n j refl ((base-offence o rs n j).1 f)
