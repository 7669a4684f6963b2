-- A turn of the check: by what it was before, and by what the record's refusal is.
use Rattle.element.proofs.Names.{ℕ, ◌≤◌, ◌<◌, arith, ◌≡◌, refl, ap, true, false, List, eqb, leb, ltb, eqb-true, le-leb, le-ltb, UnitRecord, Directions}
use Rattle.element.proofs.Names.{refused_at, Step, Goes, Stops, pick, clash, test, pick_by, pick_last, off, tested}
use Rattle.base.proofs.Bools.{pick_both}
use Rattle.grammar.specs.Records.{unit_read}
use Rattle.shortest.specs.Records.{fault}
use Rattle.rows.specs.Rows.{with_record}
use Rattle.base.specs.Kind as kind
use Rattle.rows.specs.Stowable.{Stowable, stowable_of}
use Rattle.record_rules.specs.Plain.{plain_of, settled_by_text}
use Rattle.std.specs.Prelude.{Ok, Err}
use Rattle.check_list.specs.Turn.{Progress, offends, on_fault, turn_of, room_after, quick_after, quick_until}
use Rattle.base.specs.declared.Answer.{Answer}
use Rattle.shortest.proofs.Bad.{bad_stops, not_bad}
use Rattle.record_rules.proofs.Quick.{plain_goes}
use Rattle.check_list.proofs.Fits.{fits}

pub stowable : (o : List ℕ) (r : UnitRecord) (d next : Directions) → fault (unit_read o r) d ≡ Goes next → Stowable r
stowable o r d next e =
    let j = not_bad o r (λ n b. clash (cc (bad_stops o r d b))) d in
    (fits o r j.0 j.2 j.1).stowable

-- a record that the quick check lets through is no segment
pub plain_stowable : (r : UnitRecord) → plain_of r ≡ true → Stowable r
unfolding plain_of pick
plain_stowable r e = test (leb r.kind 1) (λ p. omega tested) (λ p. off (rw p at e))

-- the test of a record that can stand in a row
pub stowable_told : (r : UnitRecord) → stowable_of r ≡ true → Stowable r
unfolding stowable_of pick
stowable_told r e =
    test (eqb r.kind kind.segment)
    (λ q. let a = pick_last (ltb r.code 0x30) _ (rw q at e) in
    let b = pick_both (leb r.code 0x34) (leb r.length 16383) a.1 in omega (tested, q, a.0, b.0, b.1))
    (λ q. let a : leb r.kind kind.segment ≡ true = rw q at e in omega (tested, q, a))

pub stowable_tells : (r : UnitRecord) → Stowable r → stowable_of r ≡ true
unfolding stowable_of pick
stowable_tells r h =
    test (eqb r.kind kind.segment)
    (λ q. let k = eqb-true r.kind kind.segment q in
    rw (q, le-ltb r.code 0x30 (h.low k), le-leb r.code 0x34 (h.high k), le-leb r.length 16383 (h.few k)))
    (λ q. rw q (le-leb _ _ h.one_of_eight))

module _ (o : List ℕ) (r : UnitRecord) (i : ℕ) (p : Progress) (w : List ℕ) where
  pub turn_goes : (d next : Directions) → p ≡ Ok d → fault (unit_read o r) d ≡ Goes next
      → (Ok next ≡ turn_of o r i p) × (with_record w i r ≡ room_after (turn_of o r i p) r i w)
  unfolding turn_of room_after
  turn_goes d next ep ef = (rw (ep, ef), rw (ep, ef))

  pub turn_stops : (d : Directions) (n : ℕ) → p ≡ Ok d → fault (unit_read o r) d ≡ Stops n
      → (offends n i ≡ turn_of o r i p) × (w ≡ room_after (turn_of o r i p) r i w)
  unfolding turn_of room_after
  turn_stops d n ep ef = (rw (ep, ef), rw (ep, ef))

  pub turn_faulty : (f : Answer) → p ≡ Err f → (Err f ≡ turn_of o r i p) × (w ≡ room_after (turn_of o r i p) r i w)
  unfolding turn_of room_after
  turn_faulty f ep = (rw ep, rw ep)

pub fine_faulty : (f : Answer) (d : Directions) → ◌≡◌ {A = Progress} (Err f) (Ok d) → ⊥
fine_faulty f d e = let z : ◌≡◌ {A = ℕ} 0 1 = cc in omega arith

-- a record that is not refused is put into its row unchecked too
module _ (o : List ℕ) (r : UnitRecord) (i : ℕ) (w : List ℕ) (d : Directions) where
  put_fault : (before : Directions) (x : Step) → fault (unit_read o r) before ≡ x → on_fault x i ≡ Ok d
      → pick (stowable_of r) (with_record w i r) w ≡ room_after (on_fault x i) r i w
  unfolding room_after pick
  put_fault before (Goes next) e k = rw (stowable_tells r (stowable o r before next e))
  put_fault before (Stops n) e k = absurd (fine_faulty (refused_at n i) d k)

  pub put_turn : (p : Progress) → turn_of o r i p ≡ Ok d → pick (stowable_of r) (with_record w i r) w ≡ room_after (turn_of o r i p) r i w
  unfolding turn_of
  put_turn (Ok before) k = put_fault before (fault (unit_read o r) before) refl k
  put_turn (Err f) k = absurd (fine_faulty f d k)

-- the end of the records that the quick check may look at
module _ (p : Progress) (from n : ℕ) where
  pub until_settled : (d : Directions) → p ≡ Ok d → settled_by_text d ≡ true → n ≡ quick_until p from n
  unfolding quick_until pick
  until_settled d ep es = rw (ep, es)

  pub until_unsettled : (d : Directions) → p ≡ Ok d → settled_by_text d ≡ false → from ≡ quick_until p from n
  unfolding quick_until pick
  until_unsettled d ep es = rw (ep, es)

  pub until_faulty : (f : Answer) → p ≡ Err f → from ≡ quick_until p from n
  unfolding quick_until pick
  until_faulty f ep = rw ep

  pub until_quick : from < quick_until p from n → quick_after p ≡ true
  unfolding quick_until pick
  until_quick h = test (quick_after p) (λ e. e) (λ e. absurd (let z : from < from = rw e at h in omega arith))

  pub until_most : from ≤ n → quick_until p from n ≤ n
  unfolding quick_until
  until_most h = pick_by (λ m. m ≤ n) (quick_after p) (λ _. omega arith) (λ _. h)

-- where the check so far allows it, a record that is let through leaves the progress as it is
pub quick_goes : (o : List ℕ) (r : UnitRecord) (i : ℕ) (p : Progress) → quick_after p ≡ true → plain_of r ≡ true → turn_of o r i p ≡ p
unfolding turn_of
quick_goes o r i (Ok d) s e = ap (λ (t : Step). on_fault t i) (plain_goes o r d s e)
quick_goes o r i (Err f) s e = off s

-- and stands in its row
pub quick_room : (p : Progress) (r : UnitRecord) (i : ℕ) (w : List ℕ) → quick_after p ≡ true → room_after p r i w ≡ with_record w i r
unfolding room_after
quick_room (Ok d) r i w s = refl
quick_room (Err f) r i w s = off s
