-- Each turn stores a span of units, at least one and no more than are wanted (`count_some`, `count_most`), and moves the cursor past them
-- (`cursor_next`, `list_next`).
use Rattle.std.proofs.Common.{◌≡◌, ◌≤◌, ◌<◌, ◌+◌, ◌-◌, ◌*◌, ◌^◌, ◌∙◌, ap, ap₂, sym, ℕ, length, List, arith}
use native.Mathlib.Nat.{le_antisymm}
use Rattle.base.specs.declared.Unit.{Unit as UnitRecord}
use Rattle.cursor.specs.declared.Cursor.{Cursor}
use Rattle.spans.specs.Spans.{Fits, ones, span_of, moved_of}
use Rattle.spans.specs.declared.Span.{Span}
use Rattle.spans.proofs.Stood.{span_fits, span_most}
use Rattle.read.specs.Stores.{count_from, stored_from}
use Rattle.read.specs.Listing.{read_answer, stored_of}
use Rattle.read.proofs.Filled.{filled, stores, short_stored}
use Rattle.read.proofs.Fills.{count_most}
use Rattle.read.proofs.Spanned.{cur, got, list_next, cursor_next, count_some}
use Rattle.read.proofs.read.Goals as goal

-- what is known of a turn at i units of n
record Turn (s : List ℕ) (ys : List UnitRecord) (i n : ℕ) : Type 0 where
  short : length s ≤ 65535
  room : i + (span_of s (cur s ys i) (n - i)).most ≤ length ys
  most : i + count_from s (span_of s (cur s ys i) (n - i)) (span_of s (cur s ys i) (n - i)).most 0 ≤ n
  some : 1 ≤ count_from s (span_of s (cur s ys i) (n - i)) (span_of s (cur s ys i) (n - i)).most 0

turn : (s : List ℕ) (ys : List UnitRecord) (i n : ℕ) → n ≡ stored_of (read_answer s (length ys)) → i < n → Turn s ys i n
turn s ys i n e less =
    let c = cur s ys i in
    let h = span_most s c (n - i) (omega (arith, less)) in
    let k : count_from s (span_of s c (n - i)) (span_of s c (n - i)).most 0 ≤ 0 + (span_of s c (n - i)).most = count_most s _ _ 0 in
    let f = stores s ys in
    let short = short_stored s ys (omega (arith, less, e)) in
    record {
      short = short;
      room = omega (arith, h, f, e, less);
      most = omega (arith, h, k, less);
      some = count_some s ys short i (n - i) (omega (arith, less));
    }

-- the place after the units is in the string
placed : (s : List ℕ) (c : Cursor) (n k : ℕ) → length s ≤ 65535 → k ≡ count_from s (span_of s c n) (span_of s c n).most 0
    → ((span_of s c n).form ≡ ones → (span_of s c n).cursor.place + k < 2 ^ 64)
    × (ones < (span_of s c n).form → (span_of s c n).cursor.place + 2 * k < 2 ^ 64)
placed s c n k short e =
    let h : count_from s (span_of s c n) (span_of s c n).most 0 ≤ 0 + (span_of s c n).most = count_most s _ _ 0 in
    let f : Fits s (span_of s c n) = span_fits s c n in
    (λ o. (let m = f.of_ones o in omega (arith, h, m, e, short)), λ o. (let m = f.of_twos o in omega (arith, h, m, e, short)))

pub fill-k-requires : goal.fill-k-requires
fill-k-requires c =
    let t = turn c.args.s.now c.args.units.now c.loop-i.i _ (c.stored-n.ensures ∙ ap stored_of c.answer-a.ensures) c.loop-i-test.true in
    rw (c.span_at-r.ensures, c.loop-i.invariant.cursor, c.loop-i.auto.units) (span_fits _ _ _, t.room)

pub moved-c-requires : goal.moved-c-requires
moved-c-requires c =
    let t = turn c.args.s.now c.args.units.now c.loop-i.i _ (c.stored-n.ensures ∙ ap stored_of c.answer-a.ensures) c.loop-i-test.true in
    let e = c.fill-k.ensures.0 in
    rw c.span_at-r.ensures (placed _ _ _ _ t.short (rw c.span_at-r.ensures at e))

-- how many are stored
counted : (s : List ℕ) (r : Span) (c d : Cursor) (n k : ℕ) → k ≡ count_from s r r.most 0 → r ≡ span_of s c n → c ≡ d
    → k ≡ count_from s (span_of s d n) (span_of s d n).most 0
counted s r c d n k e f g = e ∙ ap (λ (r : Span). count_from s r r.most 0) (f ∙ ap (λ (c : Cursor). span_of s c n) g)

pub overflow_add-i : goal.overflow_add-i
overflow_add-i c =
    let t = turn c.args.s.now c.args.units.now c.loop-i.i _ (c.stored-n.ensures ∙ ap stored_of c.answer-a.ensures) c.loop-i-test.true in
    let k = counted _ _ _ _ _ _ c.fill-k.ensures.0 c.span_at-r.ensures c.loop-i.invariant.cursor in omega (arith, t.most, k)

pub loop-i-smaller : goal.loop-i-smaller
loop-i-smaller c =
    let t = turn c.args.s.now c.args.units.now c.loop-i.i _ (c.stored-n.ensures ∙ ap stored_of c.answer-a.ensures) c.loop-i-test.true in
    let k = counted _ _ _ _ _ _ c.fill-k.ensures.0 c.span_at-r.ensures c.loop-i.invariant.cursor in omega (arith, t.some, t.most, k)

from_cursor : (s : List ℕ) (c d : Cursor) (n : ℕ) → c ≡ d → span_of s c n ≡ span_of s d n
from_cursor s c d n e = ap (λ (c : Cursor). span_of s c n) e

stored_by : (s : List ℕ) (r q : Span) (i : ℕ) (us vs : List UnitRecord) → r ≡ q → us ≡ vs
    → stored_from s r i r.most 0 us ≡ stored_from s q i q.most 0 vs
stored_by s r q i us vs e f =
    ap (λ (r : Span). stored_from s r i r.most 0 us) e ∙ ap (λ (us : List UnitRecord). stored_from s q i q.most 0 us) f

pub loop-i-preserved : goal.loop-i-preserved
loop-i-preserved c =
    let t = turn c.args.s.now c.args.units.now c.loop-i.i _ (c.stored-n.ensures ∙ ap stored_of c.answer-a.ensures) c.loop-i-test.true in
    let k = counted _ _ _ _ _ _ c.fill-k.ensures.0 c.span_at-r.ensures c.loop-i.invariant.cursor in
    record {
      within = omega (arith, t.most, k);
      cursor =
          c.moved-c.ensures ∙ ap₂ moved_of (c.span_at-r.ensures ∙ from_cursor _ _ _ _ c.loop-i.invariant.cursor) k
          ∙ cursor_next _ _ t.short _ _ (omega arith) t.room ∙ sym (ap (λ (j : ℕ). cur c.args.s.now c.args.units.now (c.loop-i.i + j)) k);
      list =
          c.fill-k.ensures.1 ∙ stored_by _ _ _ _ _ _ (c.span_at-r.ensures ∙ from_cursor _ _ _ _ c.loop-i.invariant.cursor) c.loop-i.invariant.list
          ∙ list_next _ _ t.short _ _ t.room ∙ sym (ap (λ (j : ℕ). got c.args.s.now c.args.units.now (c.loop-i.i + j)) k);
    }

pub returns : goal.returns
returns c =
    let e = c.stored-n.ensures ∙ ap stored_of c.answer-a.ensures in
    let i : c.loop-i.i ≡ c.stored-n.result = le_antisymm c.loop-i.invariant.within c.loop-i-test.false in
    (c.answer-a.ensures, c.loop-i.invariant.list ∙ ap (got c.args.s.now c.args.units.now) (i ∙ e) ∙ filled c.args.s.now c.args.units.now)
