-- The check record by record is that of the whole list, and the rows of a list with no offending record hold its units.
use Rattle.element.proofs.Names.{refused_at, ℕ, zero, suc, ◌+◌, ◌*◌, ◌/◌, ◌≤◌, ◌<◌, arith, ◌≡◌, refl, sym, ap, ap₂, ◌∙◌, subst, true, false, List, []}
use Rattle.element.proofs.Names.{◌∷◌, ◌⊎◌, inl, inr, ⊎_elim, Option, none, some, Option·some-injective, ltb, leb, length, get_or, set, drop, length-set}
use Rattle.element.proofs.Names.{sets, ltb-true, lt-ltb, pick, pick_by, test, tested, UnitRecord, undirected, Directions, Step, Goes, Stops}
use Rattle.std.specs.Prelude.{Ok, Err}
use mathlib.Core.Option.{none-ne-some}
use lib.ListN.{drop_of_length-le}
use lib.Seq.{length-sets, get_or-set_same, get_or-set_other, drop-cons}
use Rattle.base.specs.Limit as limit
use Rattle.grammar.specs.Units.{TextUnit, good}
use Rattle.grammar.specs.Records.{unit_read, list_reading, prepend}
use Rattle.shortest.specs.Records.{fault, Finding, fine, faulty, on_step, check_records}
use Rattle.shortest.specs.Offence.{no_record}
use Rattle.shortest.specs.Writing.{Good}
use Rattle.rows.specs.Rows.{start_from, unit_tagged, unit_from, units_in, tag_of, seven_octets, with_record}
use Rattle.record_rules.specs.Plain.{plain_of}
use Rattle.check_list.specs.Turn.{Progress, begun, on_fault, turn_of, room_after, quick_after, looked_at}
use Rattle.base.specs.declared.Answer.{Answer}
use Rattle.check_list.proofs.Fits.{fits}
use Rattle.check_list.proofs.Turns.{fine_faulty, quick_goes, quick_room}
use Rattle.write.specs.Stowed.{reached, HoldsRecord, Stowed, quick_run, Passed}

-- ---- the check

-- the progress over records that are counted from i
over : List ℕ → List UnitRecord → ℕ → Progress → Progress
over o [] i p = p
over o (r ∷ rs) i p = over o rs (suc i) (turn_of o r i p)

over_faulty : (o : List ℕ) (rs : List UnitRecord) (i : ℕ) (f : Answer) → over o rs i (Err f) ≡ Err f
unfolding over turn_of
over_faulty o [] i f = refl
over_faulty o (r ∷ rs) i f = over_faulty o rs (suc i) f

abbrev pub checked_of : Progress → Finding
checked_of (Ok d) = fine
checked_of (Err f) = faulty f.number f.place

over_checked : (o : List ℕ) (rs : List UnitRecord) (i : ℕ) (d : Directions) → check_records o rs i d ≡ checked_of (over o rs i (Ok d))
unfolding check_records over turn_of
over_checked o [] i d = refl
over_checked o (r ∷ rs) i d = go (fault (unit_read o r) d) (λ next. over_checked o rs (suc i) next)
  where
    go : (s : Step) → ((next : Directions) → check_records o rs (suc i) next ≡ checked_of (over o rs (suc i) (Ok next)))
        → on_step s i (λ next. check_records o rs (suc i) next) ≡ checked_of (over o rs (suc i) (on_fault s i))
    go (Goes next) k = k next
    go (Stops n) k = ap checked_of (sym (over_faulty o rs (suc i) (refused_at n i)))

over_reached : (o : List ℕ) (rs : List UnitRecord) (m i : ℕ) → i + m ≡ length rs → over o (drop i rs) i (reached o rs i) ≡ reached o rs (length rs)
unfolding over reached
over_reached o rs zero i e =
    let z : i ≡ length rs = omega arith in
    ap (λ (l : List UnitRecord). over o l i (reached o rs i)) (drop-end z) ∙ ap (reached o rs) z
  where
    drop-end : i ≡ length rs → drop i rs ≡ []
    drop-end z = let h : length rs ≤ i = omega arith in drop_of_length-le rs h
over_reached o rs (suc m) i e =
    ap (λ (l : List UnitRecord). over o l i (reached o rs i)) (drop-cons rs i no_record (omega arith)) ∙ over_reached o rs m (suc i) (omega arith)

pub reached_checked : (o : List ℕ) (rs : List UnitRecord) → check_records o rs 0 undirected ≡ checked_of (reached o rs (length rs))
unfolding reached
reached_checked o rs =
    over_checked o rs 0 undirected
    ∙ ap checked_of (over_reached o rs (length rs) 0 (omega arith))

-- ---- the rows

-- octets stored elsewhere are not changed, and those stored are read
sets_out : (l : List ℕ) (i : ℕ) (vs : List ℕ) (p : ℕ) → (p < i) ⊎ (i + length vs ≤ p) → get_or (sets l i vs) p 0 ≡ get_or l p 0
sets_out l i [] p h = refl
sets_out l i (v ∷ vs) p h =
    sets_out (set l i v) (suc i) vs p (⊎_elim (λ a. inl (omega arith)) (λ a. inr (omega arith)) h)
    ∙ get_or-set_other l i p v 0 (λ e. ⊎_elim (λ a. omega arith) (λ a. omega arith) h)

sets_in : (l : List ℕ) (i : ℕ) (vs : List ℕ) (q : ℕ) → i + length vs ≤ length l → q < length vs → get_or (sets l i vs) (i + q) 0 ≡ get_or vs q 0
sets_in l i [] q h k = absurd (omega arith)
sets_in l i (v ∷ vs) zero h k =
    sets_out (set l i v) (suc i) vs (i + 0) (inl (omega arith))
    ∙ ap (λ (m : ℕ). get_or (set l i v) m 0) (let e : i + 0 ≡ i = omega arith in e) ∙ get_or-set_same l i v 0 (omega arith)
sets_in l i (v ∷ vs) (suc q) h k =
    ap (λ (m : ℕ). get_or (sets (set l i v) (suc i) vs) m 0) (let e : i + suc q ≡ suc i + q = omega arith in e)
    ∙ sets_in (set l i v) (suc i) vs q (omega (arith, length-set l i v)) (omega arith)

length_with : (w : List ℕ) (i : ℕ) (r : UnitRecord) → length (with_record w i r) ≡ length w
unfolding with_record
length_with w i r = pick_by (λ (v : List ℕ). length v ≡ length w) (ltb i (length w / 72)) (λ _. length-sets w (72 * i + 65) (seven_octets r)) (λ _. refl)

length_room : (p : Progress) (r : UnitRecord) (i : ℕ) (w : List ℕ) → length (room_after p r i w) ≡ length w
unfolding room_after
length_room (Ok d) r i w = length_with w i r
length_room (Err f) r i w = refl

holds_new : (w : List ℕ) (i : ℕ) (r : UnitRecord) → 72 * i + 72 ≤ length w → HoldsRecord (with_record w i r) i r
unfolding with_record pick
holds_new w i r h q k = rw (lt-ltb i (length w / 72) (omega arith)) (sets_in w (72 * i + 65) (seven_octets r) q (omega arith) k)

holds_old : (w : List ℕ) (i j : ℕ) (r s : UnitRecord) → j < i → HoldsRecord w j s → HoldsRecord (with_record w i r) j s
unfolding with_record
holds_old w i j r s l h q k =
    pick_by (λ v. get_or v (72 * j + 65 + q) 0 ≡ get_or (seven_octets s) q 0) (ltb i (length w / 72))
    (λ _. sets_out w (72 * i + 65) (seven_octets r) (72 * j + 65 + q) (inl (omega arith)) ∙ h q k) (λ _. h q k)

pub stowed_none : (o : List ℕ) (rs : List UnitRecord) (w : List ℕ) → Stowed o rs 0 w w
stowed_none o rs w = record { same = refl; rows = λ d e i h. absurd (omega arith) }

pub stowed_next : (o : List ℕ) (rs : List UnitRecord) (k : ℕ) (before after : List ℕ) → Stowed o rs k before after
    → Stowed o rs (suc k) before (room_after (turn_of o (get_or rs k no_record) k (reached o rs k)) (get_or rs k no_record) k after)
unfolding reached turn_of room_after
stowed_next o rs k before after s =
    record {
      same = length_room (turn_of o r k (reached o rs k)) r k after ∙ s.same;
      rows = by-progress (reached o rs k) refl;
    }
  where
    r : UnitRecord
    r = get_or rs k no_record

    by-progress : (p : Progress) → reached o rs k ≡ p → (d : Directions) → turn_of o r k p ≡ Ok d → (i : ℕ) → i < suc k
        → 72 * i + 72 ≤ length before
        → HoldsRecord (room_after (turn_of o r k p) r k after) i (get_or rs i no_record)
    by-progress (Err f) ep d e i h m = absurd (fine_faulty f d e)
    by-progress (Ok d') ep d e i h m =
        subst (λ (q : Progress). HoldsRecord (room_after q r k after) i (get_or rs i no_record)) (sym e)
        (test (ltb i k) (λ q. let l = ltb-true i k q in holds_old after k i r (get_or rs i no_record) l (s.rows d' ep i l m))
        (λ q. let z : k ≡ i = omega tested in
        subst (λ (j : ℕ). HoldsRecord (with_record after k r) j (get_or rs j no_record)) z (holds_new after k r (omega (arith, s.same)))))

-- ---- the units of the rows

abbrev HoldFrom : List ℕ → ℕ → List UnitRecord → Type 0
HoldFrom w i rs = (j : ℕ) → j < length rs → HoldsRecord w (i + j) (get_or rs j no_record)

row_unit : (o w : List ℕ) (i : ℕ) (r : UnitRecord) (u : TextUnit) → HoldsRecord w i r → unit_read o r ≡ some u → good u ≡ true
    → unit_from o w (72 * i) ≡ u
row_unit o w i r u h e g =
    ap₂ (λ (x y : ℕ). unit_tagged o x (get_or w (72 * i + 66) 0) (get_or w (72 * i + 67) 0) y) (at 65 0 refl (omega arith)) start
    ∙ ap₂ (λ (x y : ℕ). unit_tagged o (tag_of r) x y r.start) (at 66 1 refl (omega arith)) (at 67 2 refl (omega arith))
    ∙ (fits o r u g e).unit
  where
    at : (p q : ℕ) → 65 + q ≡ p → q < 7 → get_or w (72 * i + p) 0 ≡ get_or (seven_octets r) q 0
    at p q e k = ap (λ (x : ℕ). get_or w x 0) (let z : 72 * i + p ≡ 72 * i + 65 + q = omega arith in z) ∙ h q k

    start : start_from w (72 * i) ≡ r.start
    start = omega (arith, at 68 3 refl (omega arith), at 69 4 refl (omega arith), at 70 5 refl (omega arith), at 71 6 refl (omega arith))

pub rows_units : (o w : List ℕ) (rs : List UnitRecord) (i : ℕ) (us : List TextUnit) → HoldFrom w i rs → list_reading o rs ≡ some us → Good us
    → units_in o w i (length rs) ≡ us
unfolding units_in list_reading
rows_units o w [] i us h e g = Option·some-injective [] us e
rows_units o w (r ∷ rs) i us h e g = go (unit_read o r) (list_reading o rs) refl refl e
    (λ vs q gs. rows_units o w rs (suc i) vs (λ j l. subst (λ (m : ℕ). HoldsRecord w m (get_or rs j no_record)) (shift j) (h (suc j) (omega arith))) q gs)
  where
    shift : (j : ℕ) → i + suc j ≡ suc i + j
    shift j = omega arith

    first : HoldsRecord w i r
    first = subst (λ (m : ℕ). HoldsRecord w m r) (let z : i + 0 ≡ i = omega arith in z) (h 0 (omega arith))

    go : (x : Option TextUnit) (y : Option (List TextUnit)) → unit_read o r ≡ x → list_reading o rs ≡ y → prepend x y ≡ some us
        → ((vs : List TextUnit) → list_reading o rs ≡ some vs → Good vs → units_in o w (suc i) (length rs) ≡ vs)
        → unit_from o w (72 * i) ∷ units_in o w (suc i) (length rs) ≡ us
    go none y p q e k = absurd (none-ne-some us e)
    go (some u) none p q e k = absurd (none-ne-some us e)
    go (some u) (some vs) p q e k =
        let s = Option·some-injective (u ∷ vs) us e in
        let g' : Good (u ∷ vs) = subst Good (sym s) g in
        ap₂ ◌∷◌ (row_unit o w i r u first p g'.0) (k vs q g'.1) ∙ s

-- ---- for the loop

pub looked_most : (n : ℕ) → looked_at n ≤ n
unfolding looked_at
looked_most n = pick_by (λ m. m ≤ n) (leb n limit.units) (λ _. omega arith) (λ _. omega arith)

pub reached_next : (o : List ℕ) (rs : List UnitRecord) (k : ℕ) → turn_of o (get_or rs k no_record) k (reached o rs k) ≡ reached o rs (suc k)
unfolding reached
reached_next o rs k = refl

pub reached_none : (o : List ℕ) (rs : List UnitRecord) → begun ≡ reached o rs 0
unfolding reached
reached_none o rs = refl

-- ---- for the loop of the quick check

pub run_over : (rs : List UnitRecord) (m i : ℕ) → m ≡ 0 → i ≡ quick_run rs m i
unfolding quick_run
run_over rs zero i e = refl
run_over rs (suc m) i e = absurd (omega arith)

pub run_stops : (rs : List UnitRecord) (m i : ℕ) → plain_of (get_or rs i no_record) ≡ false → i ≡ quick_run rs m i
unfolding quick_run pick
run_stops rs zero i e = refl
run_stops rs (suc m) i e = rw e

pub run_goes : (rs : List UnitRecord) (m k i : ℕ) → m ≡ suc k → plain_of (get_or rs i no_record) ≡ true → quick_run rs k (suc i) ≡ quick_run rs m i
unfolding quick_run pick
run_goes rs zero k i e t = absurd (omega arith)
run_goes rs (suc m) k i e t = rw t (ap (λ (j : ℕ). quick_run rs j (suc i)) (let z : k ≡ m = omega arith in z))

pub run_most : (rs : List UnitRecord) (m i : ℕ) → quick_run rs m i ≤ i + m
unfolding quick_run
run_most rs zero i = omega arith
run_most rs (suc m) i =
    pick_by (λ k. k ≤ i + suc m) (plain_of (get_or rs i no_record)) (λ _. omega (arith, run_most rs m (suc i))) (λ _. omega arith)

pub passed_none : (p : Progress) (rs : List UnitRecord) (i : ℕ) (w : List ℕ) → Passed p rs i i w w
passed_none p rs i w = record { onwards = omega arith; same = refl; stays = λ o e. e; stowed = λ o room e s. s }

pub passed_next : (p : Progress) (rs : List UnitRecord) (from i : ℕ) (before after : List ℕ) → quick_after p ≡ true
    → plain_of (get_or rs i no_record) ≡ true
    → Passed p rs from i before after → Passed p rs from (suc i) before (with_record after i (get_or rs i no_record))
unfolding reached
passed_next p rs from i before after q t s =
    record {
      onwards = omega (arith, s.onwards);
      same = length_with after i r ∙ s.same;
      stays = λ o e. turn o e;
      stowed = λ o room e h. subst (Stowed o rs (suc i) room) (ap (λ (z : Progress). room_after z r i after) (turn o e) ∙ quick_room p r i after q)
          (stowed_next o rs i room after (s.stowed o room e h));
    }
  where
    r : UnitRecord
    r = get_or rs i no_record

    turn : (o : List ℕ) → reached o rs from ≡ p → turn_of o r i (reached o rs i) ≡ p
    turn o e = ap (turn_of o r i) (s.stays o e) ∙ quick_goes o r i p q t
