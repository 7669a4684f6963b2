-- A turn of `read`: the units of the span at its cursor are stored one after another, and the list and the cursor are those after so many
-- single steps (`list_next`, `cursor_next`). By induction on how many may follow, since each unit of a span is the one that `advance` gives.
use Rattle.element.proofs.Names.{ℕ, zero, suc, ◌+◌, ◌-◌, ◌≤◌, ◌<◌, arith, ◌≡◌, refl, ap, sym, ◌∙◌, Bool, true, false, List, length, set, pick}
use Rattle.element.proofs.Names.{UnitRecord}
use Rattle.base.specs.Limit as limit
use Rattle.walks.proofs.Filling.{iter, iter_suc, fill_suc}
use Rattle.cursor.specs.Cursor.{first}
use Rattle.spans.specs.Spans.{span_of, moved_of, stands_after, unit_after}
use Rattle.read.specs.Stores.{count_from, stored_from}
use Rattle.cursor.specs.declared.Cursor.{Cursor}
use Rattle.cursor.specs.declared.Turn.{Turn}
use Rattle.spans.specs.declared.Span.{Span}
use Rattle.spans.proofs.Stood.{stood, span_turns, span_first, span_some}
use Rattle.read.proofs.Filled.{unit_at, after, filled_to}
use Rattle.read.proofs.Fills.{count_goes, count_least}

module _ (s : List ℕ) (ys : List UnitRecord) where
  -- the cursor and the list after so many steps
  abbrev pub cur : ℕ → Cursor
  cur i = iter (unit_at s) (after s) i first

  abbrev pub got : ℕ → List UnitRecord
  got i = filled_to s i first ys

  module _ (short : length s ≤ limit.octets) (i n : ℕ) where
    abbrev r : Span
    r = span_of s (cur i) n

    abbrev at : ℕ → Cursor
    at j = stood s (cur i) n r j

    next-cursor : (j : ℕ) → j < r.most → stands_after s r j ≡ true → at j ≡ cur (i + j) → at (suc j) ≡ cur (i + suc j)
    next-cursor j h e k =
        let m : suc (i + j) ≡ i + suc j = omega arith in
        ap (λ (t : Turn). t.cursor) (span_turns s (cur i) n short j h e) ∙ ap (after s) k ∙ sym (iter_suc (unit_at s) (after s) (i + j) first) ∙ ap cur m

    next-list : (j : ℕ) (l : List UnitRecord) → j < r.most → i + j < length ys → stands_after s r j ≡ true → at j ≡ cur (i + j)
        → l ≡ got (i + j)
        → set l (i + j) (unit_after s r j) ≡ got (i + suc j)
    next-list j l h in_List e k g =
        let m : suc (i + j) ≡ i + suc j = omega arith in
        let u : unit_after s r j ≡ unit_at s (cur (i + j)) = ap (λ (t : Turn). t.unit) (span_turns s (cur i) n short j h e) ∙ ap (unit_at s) k in
        ap (λ (z : List UnitRecord). set z (i + j) (unit_after s r j)) g ∙ ap (set (got (i + j)) (i + j)) u ∙ fill_suc (unit_at s) (after s)
        (i + j) first ys in_List ∙ ap got m

    abbrev Reached : ℕ → List UnitRecord → Type 0
    Reached k l = (l ≡ got (i + k)) × (at k ≡ cur (i + k))

    goes_on : (m j : ℕ) (l : List UnitRecord) → j + m ≤ r.most → i + r.most ≤ length ys → Reached j l
        → Reached (count_from s r m j) (stored_from s r i m j l)
    unfolding count_from stored_from pick
    goes_on zero j l h k e = e
    goes_on (suc m) j l h k e = by (stands_after s r j) refl (λ u. goes_on m (suc j) (set l (i + j) (unit_after s r j)) (omega (arith, h)) k u)
      where
        by : (b : Bool) → stands_after s r j ≡ b → (Reached (suc j) (set l (i + j) (unit_after s r j))
            → Reached (count_from s r m (suc j)) (stored_from s r i m (suc j) (set l (i + j) (unit_after s r j))))
            → Reached (pick b (count_from s r m (suc j)) j) (pick b (stored_from s r i m (suc j) (set l (i + j) (unit_after s r j))) l)
        by true t onward = onward (next-list j l (omega (arith, h)) (omega (arith, h, k)) t e.1 e.0, next-cursor j (omega (arith, h)) t e.1)
        by false t onward = e

    abbrev count : ℕ
    count = count_from s r r.most 0

    none : i ≡ i + 0
    none = omega arith

    all-on : i + r.most ≤ length ys → Reached count (stored_from s r i r.most 0 (got i))
    all-on k = goes_on r.most 0 (got i) (omega arith) k (ap got none, ap cur none)

    pub list_next : i + r.most ≤ length ys → stored_from s r i r.most 0 (got i) ≡ got (i + count)
    list_next k = (all-on k).0

    -- at least one unit is stored
    pub count_some : 1 ≤ n → 1 ≤ count
    count_some h =
        let k : r.most ≡ suc (r.most - 1) = (let z = span_some s (cur i) n h in omega (arith, z)) in
        let e = count_goes s r r.most 0 (r.most - 1) k (span_first s (cur i) n) in
        let l = count_least s r (r.most - 1) 1 in
        omega (arith, e, l)

    moved-is : (k : ℕ) → 1 ≤ k → moved_of r k ≡ at k
    moved-is zero h = absurd (omega (arith, h))
    moved-is (suc k) h = refl

    pub cursor_next : 1 ≤ n → i + r.most ≤ length ys → moved_of r count ≡ cur (i + count)
    cursor_next h k = moved-is count (count_some h) ∙ (all-on k).1
