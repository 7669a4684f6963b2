-- A reader opened on a string hands out the records of its units one after the other, and from then on the answer of `check` (`opened_items`);
-- of a string that is too long it hands out no unit. By induction on the elements of the string: a reader from which the next unit is
-- that of the elements that are left hands out their records, and with the answer comes to stand where they stop, and stays (`hands`).
use Rattle.element.proofs.Names.{ℕ, zero, suc, ◌+◌, ◌≤◌, ◌<◌, arith, ◌≡◌, refl, ap, sym, ◌∙◌, Bool, true, false, List, [], ◌∷◌, ltb, length}
use Rattle.element.proofs.Names.{ltb-false, le-ltb, lt-ltb, le-leb, ne_eqb, refused_at, pick, Answer, UnitRecord, allowed, may_use, fresh, State}
use denote.Ref.{Bor}
use Rattle.base.specs.Limit as limit
use Rattle.base.specs.Refusal as refusal
use Rattle.element.proofs.Sizes.{Fit}
use Rattle.grammar.specs.Reading.{Elements, size, elements_of, answer_of, check_of, stop_of}
use Rattle.grammar.proofs.Places.{Ahead, ends, stops, passes, reads, from_start}
use Rattle.units.specs.Records.{records_from, records_of}
use Rattle.units.specs.Next.{outcome_of, next_of}
use Rattle.units.specs.Next.{Outcome}
use Rattle.units.specs.Next.{Gives, Stops}
use Rattle.units.proofs.Records.{next_ahead, few_records}
use Rattle.std.specs.Prelude.{Result, Ok, Err}
use Rattle.reader.specs.Step.{stepped, may_stand, largest, counted_of, ended_of, after_of, step_at}
use Rattle.reader.specs.Reader.{opened, reader_step, item_at, moved, reader_after, at_stop, units_before, item_of}
use Rattle.reader.specs.declared.Reader.{Reader}
use Rattle.reader.specs.declared.Stepped.{Stepped}

-- ---- steps

-- the first step may be taken first
after_moved : (k : ℕ) (r : Reader) → reader_after k (moved r) ≡ moved (reader_after k r)
unfolding reader_after
after_moved zero r = refl
after_moved (suc k) r = ap moved (after_moved k r)

first_step : (k : ℕ) (r : Reader) {next : Reader} → moved r ≡ next → reader_after (suc k) r ≡ reader_after k next
unfolding reader_after
first_step k r m = sym (after_moved k r) ∙ ap (reader_after k) m

-- a reader that stays where it is
stays : (k : ℕ) (r : Reader) → moved r ≡ r → reader_after k r ≡ r
unfolding reader_after
stays zero r e = refl
stays (suc k) r e = ap moved (stays k r e) ∙ e

-- what a step says of the item, and of the reader after it
step_to_lem : (r : Reader) {i : Result UnitRecord Answer} {place count : ℕ} {st : State} → reader_step r ≡ stepped i place count st
    → (item_at r ≡ i) × (moved r ≡ record { octets = r.octets; place = place; count = count; state = st })
step_to_lem r e =
    (ap (λ (t : Stepped). t.item) e, ap (λ (t : Stepped). record { octets = r.octets; place = t.place; count = t.count; state = t.state }) e)

-- a reader hands out units, and then an answer, with which it becomes the last reader; that one repeats the answer and stays
pub data Hands : Reader → List UnitRecord → Answer → Reader → Type 0 where
  hands_answer : {r last : Reader} {a : Answer} → item_at r ≡ Err a → moved r ≡ last → item_at last ≡ Err a → moved last ≡ last
      → Hands r [] a last
  hands_unit : {r next last : Reader} {u : UnitRecord} {us : List UnitRecord} {a : Answer} → item_at r ≡ Ok u → moved r ≡ next
      → Hands next us a last → Hands r (u ∷ us) a last

items : {r last : Reader} {us : List UnitRecord} {a : Answer} → Hands r us a last → (k : ℕ) → item_at (reader_after k r) ≡ item_of k us a
unfolding reader_after item_of
items (hands_answer i m j n) zero = i
items {r} {last} (hands_answer i m j n) (suc k) = ap item_at (first_step k r m ∙ stays k last n) ∙ j
items (hands_unit i m h) zero = i
items {r} (hands_unit i m h) (suc k) = ap item_at (first_step k r m) ∙ items h k

pub lasts : {r last : Reader} {us : List UnitRecord} {a : Answer} → Hands r us a last → (k : ℕ) → length us < k → reader_after k r ≡ last
lasts h zero n = absurd (omega (arith, n))
lasts {r} {last} (hands_answer i m j e) (suc k) n = first_step k r m ∙ stays k last e
lasts {r} (hands_unit i m h) (suc k) n = first_step k r m ∙ lasts h k (omega (arith, n))

-- ---- where a reader may stand
pub may_stand_lem : (n place : ℕ) (st : State) → place ≤ n → Fit st → may_stand n place st ≡ true
unfolding may_stand pick
may_stand_lem n place st h f = rw (le-ltb n place h, f.left, f.right) (le-leb st.directions.depth limit.depth f.depth)

pub fresh-fit : Fit fresh
unfolding allowed may_use
fresh-fit = record { left = refl; right = refl; depth = omega arith }

-- ---- a string that is not too long
module _ (s : Bor (List ℕ)) (short : length s.now ≤ limit.octets) where
  abbrev reader : ℕ → ℕ → State → Reader
  reader place count st = record { octets = s; place = place; count = count; state = st }

  -- a reader may stand at a place under a state, and what comes next from there
  record Finds (place : ℕ) (st : State) (o : Outcome) : Type 0 where
    may : may_stand (length s.now) place st ≡ true
    gives : next_of s.now place st ≡ o

  -- where the elements ahead start it finds what they give
  finds : {at : ℕ} {st : State} {es : Elements} → Ahead s.now at st es → at ≤ length s.now → Fit st → Finds at st (outcome_of st es)
  finds {at} {st} a h f = record { may = may_stand_lem (length s.now) at st h f; gives = next_ahead s.now short a }

  step_by : {place : ℕ} {st : State} {o : Outcome} (count : ℕ) → Finds place st o → reader_step (reader place count st) ≡ after_of count o
  unfolding step_at pick
  step_by count h = rw (le-ltb limit.octets (length s.now) short, h.may, h.gives)

  counted_one : (count : ℕ) → count + 1 ≤ largest → counted_of count ≡ count + 1
  unfolding counted_of pick
  counted_one count h = rw (lt-ltb count largest (omega arith))

  ended_refused : (n place count : ℕ) → 1 ≤ n → ended_of n place count ≡ refused_at n place
  unfolding ended_of pick
  ended_refused n place count h = rw (ne_eqb n refusal.accepted (λ (e : n ≡ refusal.accepted). omega (arith, h, e)))

  -- no unit comes next, neither from a place nor from where the reading stops
  answers : {place : ℕ} {to : State} {number p at : ℕ} {st : State} (count : ℕ) → Finds place to (Stops number p at st)
      → Finds at st (Stops number p at st) → Hands (reader place count to) [] (ended_of number p count) (reader at count st)
  unfolding after_of
  answers {place} {to} {number} {p} {at} {st} count h g =
      let x = step_to_lem (reader place count to) (step_by count h) in
      let y = step_to_lem (reader at count st) (step_by count g) in
      hands_answer x.0 x.1 y.0 y.1

  -- a unit comes next
  gives_unit : {place : ℕ} {to : State} {u : UnitRecord} {at : ℕ} {st : State} {us : List UnitRecord} {a : Answer} {last : Reader} (count : ℕ)
      → count + 1 ≤ largest → Finds place to (Gives u at st) → Hands (reader at (count + 1) st) us a last
      → Hands (reader place count to) (u ∷ us) a last
  unfolding after_of
  gives_unit {place} {to} {at = at} {st = st} count n h g =
      let x = step_to_lem (reader place count to) (step_by count h) in
      hands_unit x.0 (x.1 ∙ ap (λ (c : ℕ). reader at c st) (counted_one count n)) g

  -- the records of the elements ahead, and the last reader stands where they stop
  hands : {at : ℕ} {st : State} {es : Elements} → Ahead s.now at st es → at ≤ length s.now → Fit st → (place count : ℕ) (to : State)
      → Finds place to (outcome_of st es) → (total : ℕ) → count + length (records_from es) ≡ total → total ≤ largest
      → Hands (reader place count to) (records_from es) (answer_of count es) (reader (stop_of st es).place total (stop_of st es).state)
  unfolding records_from outcome_of answer_of ended_of stop_of pick
  hands (ends e) i f place count to h total c n =
      let z : count ≡ total = omega (arith, c) in
      rw (← z) (answers count h (finds (ends e) i f))
  hands {at} (stops {n = number} {o = o} g e) i f place count to h total c n =
      let z : count ≡ total = omega (arith, c) in
      rw (← z, ← (ended_refused number (at + o) count g)) (answers count h (finds (stops g e) i f))
  hands (passes t e a) i f place count to h total c n = hands a t.fits (t.fit f) place count to h total c n
  hands {at} (reads {p = p} {next = next} t m e a) i f place count to h total c n =
      gives_unit count (omega (arith, c, n)) h
      (hands a t.fits (t.fit f) (at + size p) (count + 1) next (finds a t.fits (t.fit f)) total (omega (arith, c)) n)

  pub opened_hands : Hands (opened s) (records_of s.now) (answer_of 0 (elements_of s.now)) (at_stop s)
  unfolding records_of
  opened_hands =
      let start = from_start s.now in
      let few : 0 + length (records_from (elements_of s.now)) ≤ length s.now = few_records s.now start (omega arith) in
      hands start (omega arith) fresh-fit 0 0 fresh (finds start (omega arith) fresh-fit) _ (omega arith) (omega (arith, few, short))

-- ---- every string

by_length : (s : Bor (List ℕ)) (b : Bool) → ltb limit.octets (length s.now) ≡ b → (k : ℕ)
    → item_at (reader_after k (opened s)) ≡ item_of k (pick b [] (records_of s.now)) (pick b (refused_at refusal.too_long 0) (answer_of 0 (elements_of s.now)))
unfolding step_at pick
by_length s true e k =
    let z : reader_step (opened s) ≡ stepped (Err (refused_at refusal.too_long 0)) 0 0 fresh = rw e in
    let x = step_to_lem (opened s) z in
    items (hands_answer x.0 x.1 x.0 x.1) k
by_length s false e k = items (opened_hands s (ltb-false limit.octets (length s.now) e)) k

-- item k of a reader opened on a string: the units in their order, and then the string's answer for good (rules U7, U8)
pub opened_items : (s : Bor (List ℕ)) (k : ℕ) → item_at (reader_after k (opened s)) ≡ item_of k (units_before s.now) (check_of s.now)
unfolding units_before check_of
opened_items s k = by_length s (ltb limit.octets (length s.now)) refl k
