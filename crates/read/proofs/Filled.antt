-- The list that a reader fills, record by record at a cursor, is the list of the contract of `read` (`filled`, `filled_by_lem`): by induction on the
-- elements of the string, the cursor stands where the next unit is that of the elements that are left. It is shown of any way to read the unit
-- at a cursor, of which `Advances` holds; `read` itself reads it by `advance_of`.
use Rattle.element.proofs.Names.{ℕ, zero, suc, ◌+◌, ◌≤◌, ◌<◌, zero-le, not-suc-le-zero, arith, ◌≡◌, refl, ap, sym, ◌∙◌, subst, Bool, true, false}
use Rattle.element.proofs.Names.{List, [], ◌∷◌, ◌++◌, ltb, length, drop, eq-eqb, ne_eqb, ltb-false, refused_at, pick, Answer, UnitRecord, State}
use native.Mathlib.Nat.{le_of_suc-le-suc}
use Rattle.base.specs.Limit as limit
use Rattle.base.specs.Refusal as refusal
use Rattle.grammar.specs.Reading.{Elements, size, elements_of, answer_of, check_of}
use Rattle.grammar.proofs.Places.{Ahead, ends, stops, passes, reads, from_start}
use Rattle.units.specs.Records.{record_of, records_from, records_of}
use Rattle.units.specs.Next.{outcome_of}
use Rattle.units.specs.Next.{Gives}
use Rattle.walks.proofs.Filling.{iter, fill_from}
use Rattle.cursor.specs.declared.Cursor.{Cursor}
use Rattle.cursor.specs.declared.Turn.{Turn}
use Rattle.cursor.specs.Cursor.{cursor, first, turn, advance_of}
use Rattle.cursor.proofs.Free.{Like, like}
use Rattle.cursor.proofs.Turns.{Turns, turns, advance_ahead}
use Rattle.read.specs.Listing.{read_answer, stored_of, list_after}
use Rattle.read.proofs.Cases.{Case, refuses, lacks, accepts, read_cases}

-- a cursor at which a unit is next, in a string
abbrev pub Standing : List ℕ → (Cursor → Type 0) → Type 0
Standing s P = (at : ℕ) (st to : State) (es : Elements) → Ahead s at st es → Like st to → 1 ≤ length (records_from es) → P (cursor at to)

-- a turn that gives a unit, by the state of the cursor after it
given : {r : Turn} {u : UnitRecord} {place : ℕ} {st : State} → Turns r (Gives u place st)
    → (to : State) × ((r ≡ turn u (cursor place to)) × Like st to)
given (turns {to = to} l) = (to, (refl, l))

-- ---- by a way f to read the unit at a cursor
module _ (f : List ℕ → Cursor → Turn) where
  -- the unit at a cursor, and the cursor after it
  abbrev pub unit_by : List ℕ → Cursor → UnitRecord
  unit_by s c = (f s c).unit

  abbrev pub after_by : List ℕ → Cursor → Cursor
  after_by s c = (f s c).cursor

  abbrev pub filled_by : List ℕ → ℕ → Cursor → List UnitRecord → List UnitRecord
  filled_by s n c ys = fill_from (unit_by s) (after_by s) n c ys

  abbrev pub cursor_by : List ℕ → ℕ → Cursor → Cursor
  cursor_by s i c = iter (unit_by s) (after_by s) i c

  -- where a unit is next by the elements, that unit is read
  abbrev pub Advances : Type 0
  Advances = (s : List ℕ) → length s ≤ limit.octets → (at : ℕ) (st to : State) (es : Elements) → Ahead s at st es → Like st to
      → 1 ≤ length (records_from es) → Turns (f s (cursor at to)) (outcome_of st es)

  module _ (advances : Advances) (s : List ℕ) (short : length s ≤ limit.octets) where
    -- a cursor from which the next unit, if there is one, is that of the elements
    fills : {at : ℕ} {st : State} {es : Elements} → Ahead s at st es → (c : Cursor)
        → (1 ≤ length (records_from es) → Turns (f s c) (outcome_of st es))
        → (ys : List UnitRecord) → length (records_from es) ≤ length ys
        → filled_by s (length (records_from es)) c ys ≡ records_from es ++ drop (length (records_from es)) ys
    unfolding records_from outcome_of
    fills (ends e) c h ys k = refl
    fills (stops z e) c h ys k = refl
    fills (passes t e a) c h ys k = fills a c h ys k
    fills (reads t m e a) c h [] k = absurd (not-suc-le-zero k)
    fills {at} (reads {p = p} {next = next} {es = es} t m e a) c h (y ∷ ys) k =
        let g = given (h (omega arith)) in
        ap (λ (t : Turn). t.unit ∷ filled_by s (length (records_from es)) t.cursor ys) g.1.0
        ∙ ap (λ (l : List UnitRecord). record_of p at next.directions ∷ l)
        (fills a (cursor (at + size p) g.0) (advances s short _ _ _ _ a g.1.1) ys (le_of_suc-le-suc k))

    -- what holds of each cursor at which a unit is next holds after so many steps, if there are more units
    each : (P : Cursor → Type 0) → Standing s P → {at : ℕ} {st : State} {es : Elements} → Ahead s at st es → (c : Cursor)
        → (1 ≤ length (records_from es) → Turns (f s c) (outcome_of st es) × P c)
        → (i : ℕ) → i < length (records_from es) → P (cursor_by s i c)
    unfolding records_from outcome_of
    each P all (ends e) c h i k = absurd (not-suc-le-zero k)
    each P all (stops z e) c h i k = absurd (not-suc-le-zero k)
    each P all (passes t e a) c h i k = each P all a c h i k
    each P all (reads t m e a) c h zero k = (h (omega arith)).1
    each P all {at} (reads {p = p} t m e a) c h (suc i) k =
        let g = given (h (omega arith)).0 in
        subst (λ (t : Turn). P (cursor_by s i t.cursor)) (sym g.1.0)
        (each P all a (cursor (at + size p) g.0) (λ n. (advances s short _ _ _ _ a g.1.1 n, all _ _ _ _ a g.1.1 n)) i (le_of_suc-le-suc k))

-- an accepted string has at most 65,535 octets
short_by : (s : List ℕ) (b : Bool) → ltb limit.octets (length s) ≡ b
    → (pick b (refused_at refusal.too_long 0) (answer_of 0 (elements_of s))).number ≡ refusal.accepted → length s ≤ limit.octets
unfolding pick
short_by s true e z = absurd (let y : ◌≡◌ {A = ℕ} refusal.too_long refusal.accepted = z in omega arith)
short_by s false e z = ltb-false limit.octets (length s) e

pub short : (s : List ℕ) → (check_of s).number ≡ refusal.accepted → length s ≤ limit.octets
unfolding check_of
short s z = short_by s (ltb limit.octets (length s)) refl z

-- an answer that refuses stores none
none_stored : (a : Answer) → (a.number ≡ refusal.accepted → ⊥) → stored_of a ≡ 0
unfolding stored_of pick
none_stored a n = rw (ne_eqb a.number refusal.accepted n)

all_stored : (a : Answer) → a.number ≡ refusal.accepted → stored_of a ≡ a.count
unfolding stored_of pick
all_stored a e = rw (eq-eqb a.number refusal.accepted e)

module _ {s : List ℕ} {ys : List UnitRecord} where
  stores_by : {a : Answer} {l : List UnitRecord} → Case s ys a l → stored_of a ≤ length ys
  unfolding stored_of pick
  stores_by (refuses f) = rw (none_stored (check_of s) f) zero-le
  stores_by (lacks g h) = zero-le
  stores_by (accepts g c h) = rw (all_stored (check_of s) g, c) h

  short_by_stored : {a : Answer} {l : List UnitRecord} → Case s ys a l → 0 < stored_of a → length s ≤ limit.octets
  short_by_stored (refuses f) h = absurd (let e = none_stored (check_of s) f in omega (arith, e, h))
  short_by_stored (lacks g k) h = short s g
  short_by_stored (accepts g c k) h = short s g

-- a string of which records are stored is short
pub short_stored : (s : List ℕ) (ys : List UnitRecord) → 0 < stored_of (read_answer s (length ys)) → length s ≤ limit.octets
short_stored s ys h = short_by_stored (read_cases s ys) h

-- no more records are stored than there is room for
pub stores : (s : List ℕ) (ys : List UnitRecord) → stored_of (read_answer s (length ys)) ≤ length ys
stores s ys = stores_by (read_cases s ys)

-- ---- the list, and the cursors on the way
module _ (f : List ℕ → Cursor → Turn) (advances : Advances f) (s : List ℕ) (ys : List UnitRecord) where
  all : (check_of s).number ≡ refusal.accepted → length (records_of s) ≤ length ys
      → filled_by f s (length (records_of s)) first ys ≡ records_of s ++ drop (length (records_of s)) ys
  unfolding records_of
  all z h = fills f advances s (short s z) (from_start s) first (advances s (short s z) _ _ _ _ (from_start s) like) ys h

  filled_case : {a : Answer} {l : List UnitRecord} → Case s ys a l → filled_by f s (stored_of a) first ys ≡ l
  unfolding stored_of pick
  filled_case (refuses n) = rw (none_stored (check_of s) n)
  filled_case (lacks g h) = refl
  filled_case (accepts g c h) = rw (all_stored (check_of s) g, c) (all g h)

  pub filled_by_lem : filled_by f s (stored_of (read_answer s (length ys))) first ys ≡ list_after s ys
  filled_by_lem = filled_case (read_cases s ys)

  each_case : (P : Cursor → Type 0) → Standing s P → {a : Answer} {l : List UnitRecord} → Case s ys a l → (i : ℕ) → i < stored_of a
      → P (cursor_by f s i first)
  unfolding stored_of pick records_of
  each_case P stands (refuses n) i h = absurd (let e = none_stored (check_of s) n in omega (arith, e, h))
  each_case P stands (lacks g k) i h = absurd (not-suc-le-zero h)
  each_case P stands (accepts g c k) i h =
      let e : stored_of (check_of s) ≡ length (records_of s) = all_stored (check_of s) g ∙ c in
      each f advances s (short s g) P stands (from_start s) first
      (λ n. (advances s (short s g) _ _ _ _ (from_start s) like n, stands _ _ _ _ (from_start s) like n)) i (subst (λ (m : ℕ). i < m) e h)

  -- what holds of each cursor at which a unit is next holds of the cursor of each record that is stored
  pub each_by : (P : Cursor → Type 0) → Standing s P → (i : ℕ) → i < stored_of (read_answer s (length ys)) → P (cursor_by f s i first)
  each_by P stands i h = each_case P stands (read_cases s ys) i h

-- ---- by `advance_of`
abbrev pub unit_at : List ℕ → Cursor → UnitRecord
unit_at = unit_by advance_of

abbrev pub after : List ℕ → Cursor → Cursor
after = after_by advance_of

abbrev pub filled_to : List ℕ → ℕ → Cursor → List UnitRecord → List UnitRecord
filled_to = filled_by advance_of

pub filled : (s : List ℕ) (ys : List UnitRecord) → filled_to s (stored_of (read_answer s (length ys))) first ys ≡ list_after s ys
filled s ys = filled_by_lem advance_of (λ s short _ _ _ _. advance_ahead s short) s ys
