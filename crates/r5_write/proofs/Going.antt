-- The pen on its way through a list: what holds of it before each turn (`Going`), that a turn keeps this and comes nearer to the end (`turned`), and that at
-- the end answer and output are those of the definitions (`ended`). While it counts, the octets of the records passed and those of the writing of the rest
-- are those of the whole writing; while it stores, the octets stored and that writing are the whole writing.
use Rattle.element.proofs.Names.{ℕ, suc, zero, ◌+◌, ◌-◌, ◌*◌, ◌≤◌, ◌<◌, arith, add-one, ◌≡◌, refl, sym, ap, ap₂, ◌∙◌, subst, Bool, true, false, cond}
use Rattle.element.proofs.Names.{List, [], ◌∷◌}
use Rattle.element.proofs.Names.{◌++◌, some, ◌⊎◌, inl, inr, ⊎_elim, true≢false, eqb, leb, ltb, eqb-true, eqb-false, ltb-true, ltb-false, leb-true}
use Rattle.element.proofs.Names.{leb-false}
use Rattle.element.proofs.Names.{ne_eqb, le-leb, length, get_or, drop, length-append, test, pick_by, pick_last, pick, UnitRecord}
use Rattle.element.proofs.Names.{fresh, clash, not-suc-le-zero, Sets}
use mathlib.Core.List.{append_assoc}
use native.Mathlib.Nat.{le_of_suc-le-suc, eq-or-lt_of_le}
use lib.ListN.{drop_of_length-le}
use lib.Seq.{drop-cons}
use Rattle.base.specs.Kind as kind
use Rattle.base.specs.Limit as limit
use Rattle.base.specs.Refusal as refusal
use Rattle.grammar.specs.Records.{unit_read, prepend, list_reading}
use Rattle.grammar.specs.Units.{TextUnit}
use Rattle.shortest.specs.Offence.{no_record}
use Rattle.shortest.specs.Records.{Finding, fine, faulty}
use Rattle.state.specs.State.{sets as setsOf}
use Rattle.unit_octets.specs.Octets.{Written}
use Rattle.unit_octets.proofs.Storing.{written_both, written_none, written_length, written_as, room_as}
use Rattle.x11r5.specs.Records.{record_refusal, first_refused}
use Rattle.x11r5.specs.Writing.{home_octets, home_after, home_writing}
use Rattle.x11r5.specs.Theorems.{Supported}
use Rattle.x11r5.proofs.Offence.{fine_units}
use Rattle.x11r5.proofs.Writing.{writing_most}
use Rattle.record_rules.specs.Plain.{plain_of}
use Rattle.write.specs.Stowed.{quick_run}
use Rattle.write.proofs.Lists.{run_most}
use Rattle.r5_units.proofs.Refusals.{plain_accepted}
use Rattle.r5_units.specs.Unit.{text_set, text_code, width_of, designated_width, stored_to, stored_over}
use Rattle.r5_pen.specs.Pen.{pen, looking_at, storing, begun_at, counted, stayed_at, moved_to, stands_in, stopped_by, turned_over, passed_text, passed_by}
use Rattle.r5_pen.specs.Pen.{ample_for, looked_by, checked_by}
use Rattle.r5_pen.specs.Pen.{stored_text, output_text, stored_by, output_by, turn_of, output_of}
use Rattle.r5_pen.specs.declared.Pen.{Pen}
use Rattle.r5_write.proofs.Homes.{Fine, unit_by, fine_read, fine_record, Legal, legal_fresh, legal_moved, width_is, designated_is}
use Rattle.r5_write.proofs.Homes.{TextWay, stays, changes, Way, text, controls, way}

-- ---- the units of a list

abbrev pub units_by : List UnitRecord → List TextUnit
units_by [] = []
units_by (r ∷ rs) = unit_by r ∷ units_by rs

pub units_length : (rs : List UnitRecord) → length (units_by rs) ≡ length rs
units_length [] = refl
units_length (r ∷ rs) = ap suc (units_length rs)

-- where no record is refused, each is refused for nothing, and these units are the reading
first_fine : (o : List ℕ) (r : UnitRecord) (rs : List UnitRecord) (i : ℕ) → first_refused o (r ∷ rs) i ≡ fine
    → (record_refusal (unit_read o r) ≡ refusal.accepted) × (first_refused o rs (suc i) ≡ fine)
unfolding first_refused
first_fine o r rs i e =
    test (eqb (record_refusal (unit_read o r)) refusal.accepted) (λ q. (eqb-true _ _ q, rw q at e)) (λ q. clash (cc (rw q at e)))

pub fine_reading : (o : List ℕ) (rs : List UnitRecord) (i : ℕ) → first_refused o rs i ≡ fine → list_reading o rs ≡ some (units_by rs)
unfolding list_reading
fine_reading o [] i e = refl
fine_reading o (r ∷ rs) i e =
    let f = first_fine o r rs i e in
    ap₂ prepend (fine_read o r (fine_record o r f.0)) (fine_reading o rs (suc i) f.1)

fine_at : (o : List ℕ) (rs : List UnitRecord) (j : ℕ) → first_refused o rs j ≡ fine → (i : ℕ) → i < length rs
    → record_refusal (unit_read o (get_or rs i no_record)) ≡ refusal.accepted
fine_at o [] j e i h = absurd (not-suc-le-zero h)
fine_at o (r ∷ rs) j e zero h = (first_fine o r rs j e).0
fine_at o (r ∷ rs) j e (suc i) h = fine_at o rs (suc j) (first_fine o r rs j e).1 i (le_of_suc-le-suc h)

-- and X11R5 has them
fine_supported : (o : List ℕ) (rs : List UnitRecord) → first_refused o rs 0 ≡ fine → Supported (units_by rs)
fine_supported o rs e =
    let f = fine_units o rs e in
    subst Supported (some_one (sym f.reading ∙ fine_reading o rs 0 e)) f.supported
  where
    some_one : {us vs : List TextUnit} → some us ≡ some vs → us ≡ vs
    some_one q = cc

-- a pen and an output by the same test
both_by : (S : Pen → List ℕ → Type 0) {y z : Pen} {v w : List ℕ} (b : Bool) → (b ≡ true → S y v) → (b ≡ false → S z w)
    → S (pick b y z) (pick b v w)
unfolding pick
both_by S true f g = f refl
both_by S false f g = g refl

-- ---- stores that have room

over_written : (l : List ℕ) (at : ℕ) (xs : List ℕ) → at + length xs ≤ length l → Written l at xs (stored_to at xs (length l)) (stored_over l at xs)
unfolding stored_to stored_over pick
over_written l at xs h = let e = le-leb (at + length xs) (length l) h in record { next = rw e; now = rw e }

-- ---- a count that goes no further once it is over the limit

pub data Counts (at n : ℕ) : Type 0 where
  exactly : n ≡ at → Counts at n
  over : limit.octets < at → limit.octets < n → Counts at n

counts_more : (at n k j : ℕ) → k ≡ j → Counts at n → Counts (counted at k) (n + j)
unfolding counted
counts_more at n k j e (exactly q) =
    pick_by (λ x. Counts x (n + j)) (ltb limit.octets at)
    (λ t. let h = ltb-true limit.octets at t in over h (omega arith)) (λ t. exactly (omega arith))
counts_more at n k j e (over h g) =
    pick_by (λ x. Counts x (n + j)) (ltb limit.octets at) (λ t. over h (omega arith)) (λ t. over (omega arith) (omega arith))

pub counts_over : (at n : ℕ) → Counts at n → limit.octets < at → limit.octets < n
counts_over at n (exactly q) h = omega arith
counts_over at n (over h g) _ = g

pub counts_within : (at n : ℕ) → Counts at n → at ≤ limit.octets → n ≡ at
counts_within at n (exactly q) h = q
counts_within at n (over h g) l = absurd (omega arith)

-- ---- a list, the octets of segments, and the output before

module _ (rs : List UnitRecord) (o before : List ℕ) where
  abbrev pub n : ℕ
  n = length rs

  abbrev pub whole : List ℕ
  whole = home_writing (units_by rs) fresh.sets

  -- the writing of the records from an index on, with sets in force
  abbrev pub rest_from : ℕ → ℕ → ℕ → List ℕ
  rest_from i gl gr = home_writing (units_by (drop i rs)) (setsOf gl gr)

  abbrev refused_from : ℕ → Finding
  refused_from i = first_refused o (drop i rs) i

  pub record Counting (p : Pen) : Type 0 where
    pub accepts : p.number ≡ refusal.accepted
    pub counts : p.stores ≡ false
    pub legal : Legal p.gl p.gr
    pub found : first_refused o rs 0 ≡ refused_from p.index
    pub done : ℕ
    pub rest : done + length (rest_from p.index p.gl p.gr) ≡ length whole
    pub count : Counts p.at done

  -- the string may be written
  pub record Fits : Type 0 where
    pub none_refused_lem : first_refused o rs 0 ≡ fine
    pub within : length whole ≤ limit.octets
    pub room : length whole < length before

  pub record Storing (p : Pen) (l : List ℕ) : Type 0 where
    pub accepts : p.number ≡ refusal.accepted
    pub most : p.index ≤ n
    pub stores : p.index < n → p.stores ≡ true
    pub legal : Legal p.gl p.gr
    pub done : List ℕ
    pub put : Written before 0 done p.at l
    pub rest : done ++ rest_from p.index p.gl p.gr ≡ whole

  -- after the last record, where a record was refused, or the string may not be written
  pub record Stopped (p : Pen) : Type 0 where
    pub last : p.index ≡ n
    pub counts : p.stores ≡ false
    pub refuses : p.number ≡ refusal.accepted → ⊥
    pub found : first_refused o rs 0 ≡ faulty p.number p.place

  pub record Unfit (p : Pen) : Type 0 where
    pub last : p.index ≡ n
    pub counts : p.stores ≡ false
    pub accepts : p.number ≡ refusal.accepted
    pub none_refused_lem : first_refused o rs 0 ≡ fine
    pub count : Counts p.at (length whole)
    pub no-fit : (limit.octets < p.at) ⊎ (length before ≤ p.at)

  -- where all units have room in any case, nothing is counted
  abbrev enough : Bool
  enough = ample_for n (length before)

  pub record Checking (p : Pen) : Type 0 where
    pub ample : enough ≡ true
    pub accepts : p.number ≡ refusal.accepted
    pub counts : p.stores ≡ false
    pub none : p.at ≡ 0
    pub found : first_refused o rs 0 ≡ refused_from p.index

  pub data Going (p : Pen) (l : List ℕ) : Type 0 where
    counting : Counting p → enough ≡ false → p.index < n → l ≡ before → Going p l
    checking : Checking p → p.index < n → l ≡ before → Going p l
    storing' : Fits → Storing p l → Going p l
    stopped : Stopped p → l ≡ before → Going p l
    unfit : Unfit p → l ≡ before → Going p l

  -- what is left to do
  abbrev pub left : Pen → ℕ
  left p = cond p.stores 0 n + (n - p.index)

  -- ---- a record

  abbrev record' : ℕ → UnitRecord
  record' i = get_or rs i no_record

  module _ (i : ℕ) (h : i < n) where
    next-refused : refused_from i ≡ first_refused o (record' i ∷ drop (i + 1) rs) i
    next-refused =
        ap (λ (x : List UnitRecord). first_refused o x i)
        (drop-cons rs i no_record h ∙ ap (λ (k : ℕ). record' i ∷ drop k rs) (sym (add-one i)))

    refuses-here : (k : ℕ) → k ≡ record_refusal (unit_read o (record' i)) → (k ≡ refusal.accepted → ⊥) → refused_from i ≡ faulty k i
    unfolding first_refused
    refuses-here k e ne = next-refused ∙ rw (← e, ne_eqb k refusal.accepted ne)

    passes-here : record_refusal (unit_read o (record' i)) ≡ refusal.accepted → refused_from i ≡ refused_from (i + 1)
    unfolding first_refused
    passes-here e = next-refused ∙ rw e (ap (λ (k : ℕ). first_refused o (drop (i + 1) rs) k) (sym (add-one i)))

    -- the writing from it on: its octets, and the writing of the rest
    next-rest : (gl gr : ℕ) {gl' gr' : ℕ} → home_after (unit_by (record' i)) (setsOf gl gr) ≡ setsOf gl' gr'
        → rest_from i gl gr ≡ home_octets (unit_by (record' i)) (setsOf gl gr) ++ rest_from (i + 1) gl' gr'
    unfolding home_writing
    next-rest gl gr e =
        ap (λ (x : List UnitRecord). home_writing (units_by x) (setsOf gl gr))
        (drop-cons rs i no_record h ∙ ap (λ (k : ℕ). record' i ∷ drop k rs) (sym (add-one i)))
        ∙ ap (λ (s : Sets). home_octets (unit_by (record' i)) (setsOf gl gr) ++ home_writing (units_by (drop (i + 1) rs)) s) e

  pub rest_none : (i gl gr : ℕ) → n ≤ i → rest_from i gl gr ≡ []
  unfolding home_writing
  rest_none i gl gr h = ap (λ (x : List UnitRecord). home_writing (units_by x) (setsOf gl gr)) (drop_of_length-le rs h)

  refused_none : (i : ℕ) → n ≤ i → refused_from i ≡ fine
  unfolding first_refused
  refused_none i h = ap (λ (x : List UnitRecord). first_refused o x i) (drop_of_length-le rs h)

  -- a pen that does not store leaves the output
  no_output : (p : Pen) (r : UnitRecord) (l : List ℕ) → p.stores ≡ false → output_of p r n l ≡ l
  unfolding output_of
  no_output p r l e =
      pick_by (λ (x : List ℕ). x ≡ l) (leb n p.index) (λ _. refl)
      (λ _. pick_by (λ (x : List ℕ). x ≡ l) p.stores (λ t. absurd (true≢false (sym t ∙ e))) (λ _. refl))

  -- ---- counting

  -- the string may be written where all units have room in any case
  ample_fits : enough ≡ true → first_refused o rs 0 ≡ fine → Fits
  unfolding ample_for
  ample_fits a f =
      let few = pick_last (ltb 10922 n) _ a in
      let h = ltb-false 10922 n few.0 in
      let m = ltb-true (6 * n) (length before) few.1 in
      let most = writing_most (units_by rs) fresh.sets (fine_supported o rs f) in
      let len = units_length rs in
      record { none_refused_lem = f; within = omega (arith, most, len); room = omega (arith, most, len) }

  -- the storing begins
  start_storing : Storing storing before
  start_storing =
      record {
        accepts = refl;
        most = omega arith;
        stores = λ _. refl;
        legal = legal_fresh;
        done = [];
        put = written_none before 0;
        rest = refl;
      }

  module _ (p : Pen) (c : Counting p) (few : enough ≡ false) (h : p.index < n) where
    abbrev i : ℕ
    i = p.index

    abbrev r' : UnitRecord
    r' = record' i

    abbrev Nearer : Pen → Type 0
    Nearer q = Going q before × (left q < left p)

    left-counting : left p ≡ n + (n - i)
    left-counting = ap (λ (b : Bool). cond b 0 n + (n - i)) c.counts

    stop : (record_refusal (unit_read o r') ≡ refusal.accepted → ⊥) → Nearer (stopped_by p (record_refusal (unit_read o r')) n)
    unfolding stopped_by
    stop ne = (
      stopped (record { last = refl; counts = c.counts; refuses = ne; found = c.found ∙ refuses-here i h _ refl ne }) refl,
      omega (arith, left-counting, ap (λ (b : Bool). cond b 0 n + (n - n)) c.counts),
    )

    module _ (e : record_refusal (unit_read o r') ≡ refusal.accepted) where
      f : Fine r'
      f = fine_record o r' e

      abbrev q : Pen
      q = passed_by p r' (i + 1)

      abbrev Octets : List ℕ
      Octets = home_octets (unit_by r') (setsOf p.gl p.gr)

      -- the pen with a count and sets that are those after the record
      grown : (k gl gr : ℕ) → k ≡ length Octets → home_after (unit_by r') (setsOf p.gl p.gr) ≡ setsOf gl gr → Legal gl gr
          → Counting (pen (counted p.at k) (i + 1) p.number p.place gl gr p.stores)
      grown k gl gr ek ea l =
          record {
            accepts = c.accepts;
            counts = c.counts;
            legal = l;
            found = c.found ∙ passes-here i h e;
            done = c.done + length Octets;
            rest = omega (arith, c.rest, ap length (next-rest i h p.gl p.gr ea), length-append Octets (rest_from (i + 1) gl gr));
            count = counts_more p.at c.done _ _ ek c.count;
          }

      passed : Counting q
      unfolding passed_by passed_text stayed_at moved_to
      passed = by (way r' p.gl p.gr c.legal f)
        where
          by-text : TextWay (unit_by r') (text_set r' p.gl) (text_code r') p.gl p.gr → Counting (passed_text p (text_set r' p.gl) (i + 1))
          by-text (stays t w m) =
              pick_by Counting (stands_in (text_set r' p.gl) p)
              (λ _. grown (width_of (text_set r' p.gl)) p.gl p.gr (width_is _ (text_code r') _ ∙ ap length (sym w)) m c.legal)
              (λ t'. absurd (true≢false (sym t ∙ t')))
          by-text (changes t w m b) =
              pick_by Counting (stands_in (text_set r' p.gl) p) (λ t'. absurd (true≢false (sym t' ∙ t)))
              (λ _. grown (designated_width (text_set r' p.gl)) _ _ (designated_is _ (text_code r') _ b ∙ ap length (sym w)) m
              (legal_moved (text_set r' p.gl) p.gl p.gr c.legal))

          by : Way r' p.gl p.gr → Counting q
          by (text t w) =
              pick_by Counting (leb r'.kind kind.space) (λ _. by-text w) (λ t'. absurd (omega (arith, leb-false r'.kind kind.space t')))
          by (controls t w m) =
              pick_by Counting (leb r'.kind kind.space) (λ t'. absurd (omega (arith, leb-true r'.kind kind.space t')))
              (λ _. grown 1 p.gl p.gr (ap length (sym w)) m c.legal)

      index_is : q.index ≡ i + 1
      unfolding passed_by passed_text stayed_at moved_to
      index_is =
          pick_by (λ (y : Pen). y.index ≡ i + 1) (leb r'.kind kind.space)
          (λ _. pick_by (λ (y : Pen). y.index ≡ i + 1) (stands_in (text_set r' p.gl) p) (λ _. refl) (λ _. refl)) (λ _. refl)

      left_passed : left q ≡ n + (n - (i + 1))
      left_passed = ap₂ (λ (b : Bool) (k : ℕ). cond b 0 n + (n - k)) passed.counts index_is

      module _ (g : n ≤ q.index) where
        last-index : q.index ≡ n
        last-index = omega (arith, index_is)

        whole-count : Counts q.at (length whole)
        whole-count =
            subst (λ (k : ℕ). Counts q.at k)
            (let z : passed.done ≡ length whole = omega (arith, passed.rest, ap length (rest_none q.index q.gl q.gr g)) in z) passed.count

        none-refused' : first_refused o rs 0 ≡ fine
        none-refused' = passed.found ∙ refused_none q.index g

        ends : (limit.octets < q.at) ⊎ (length before ≤ q.at) → Nearer q
        ends w = (
          unfit (record {
            last = last-index;
            counts = passed.counts;
            accepts = passed.accepts;
            none_refused_lem = none-refused';
            count = whole-count;
            no-fit = w;
          }) refl,
          omega (arith, left-counting, left_passed),
        )

        begins : q.at ≤ limit.octets → q.at < length before → Nearer storing
        begins w m =
            let k = counts_within q.at (length whole) whole-count w in (
              storing' (record { none_refused_lem = none-refused'; within = omega arith; room = omega arith }) start_storing,
              omega (arith, left-counting),
            )

      turned-over : Nearer (turned_over q n (length before))
      unfolding turned_over
      turned-over =
          pick_by Nearer (ltb q.index n)
          (λ t. (counting passed few (ltb-true q.index n t) refl, omega (arith, left-counting, left_passed)))
          (λ t. let g = ltb-false q.index n t in
          pick_by Nearer (ltb limit.octets q.at) (λ w. ends g (inl (ltb-true limit.octets q.at w)))
          (λ w. pick_by Nearer (leb (length before) q.at) (λ m. ends g (inr (leb-true (length before) q.at m)))
          (λ m. begins g (ltb-false limit.octets q.at w) (leb-false (length before) q.at m))))

    checked : Nearer (checked_by p r' (i + 1) n o (length before))
    unfolding checked_by looked_by
    checked =
        pick_by Nearer (eqb (record_refusal (unit_read o r')) refusal.accepted)
        (λ t. pick_by (λ (y : Pen). Nearer (turned_over y n (length before))) enough (λ a. absurd (true≢false (sym a ∙ few)))
        (λ _. turned-over (eqb-true _ _ t)))
        (λ t. stop (eqb-false _ _ t))

    counting-turn : Nearer (turn_of p r' n o (length before))
    unfolding turn_of
    counting-turn =
        pick_by Nearer (leb n i) (λ t. absurd (omega (arith, leb-true n i t)))
        (λ _. pick_by Nearer p.stores (λ t. absurd (true≢false (sym t ∙ c.counts))) (λ _. checked))

    counting-output : (l : List ℕ) → output_of p r' n l ≡ l
    counting-output l = no_output p r' l c.counts

  -- ---- checking alone

  module _ (p : Pen) (c : Checking p) (h : p.index < n) where
    abbrev k : ℕ
    k = p.index

    abbrev y' : UnitRecord
    y' = record' k

    abbrev Nearer'' : Pen → Type 0
    Nearer'' q = Going q before × (left q < left p)

    left-checking : left p ≡ n + (n - k)
    left-checking = ap (λ (b : Bool). cond b 0 n + (n - k)) c.counts

    checking-stop : (record_refusal (unit_read o y') ≡ refusal.accepted → ⊥) → Nearer'' (stopped_by p (record_refusal (unit_read o y')) n)
    unfolding stopped_by
    checking-stop ne = (
      stopped (record { last = refl; counts = c.counts; refuses = ne; found = c.found ∙ refuses-here k h _ refl ne }) refl,
      omega (arith, left-checking, ap (λ (b : Bool). cond b 0 n + (n - n)) c.counts),
    )

    module _ (e : record_refusal (unit_read o y') ≡ refusal.accepted) where
      abbrev z' : Pen
      z' = pen p.at (k + 1) p.number p.place p.gl p.gr p.stores

      found-next : first_refused o rs 0 ≡ refused_from (k + 1)
      found-next = c.found ∙ passes-here k h e

      left-next : left z' ≡ n + (n - (k + 1))
      left-next = ap (λ (b : Bool). cond b 0 n + (n - (k + 1))) c.counts

      checking-over : Nearer'' (turned_over z' n (length before))
      unfolding turned_over ample_for
      checking-over =
          pick_by Nearer'' (ltb (k + 1) n)
          (λ t. (
            checking (record { ample = c.ample; accepts = c.accepts; counts = c.counts; none = c.none; found = found-next }) (ltb-true (k + 1) n t) refl,
            omega (arith, left-checking, left-next),
          ))
          (λ t. let g = ltb-false (k + 1) n t in
          let fits = ample_fits c.ample (found-next ∙ refused_none (k + 1) g) in
          pick_by Nearer'' (ltb limit.octets p.at) (λ w. absurd (omega (arith, ltb-true limit.octets p.at w, c.none)))
          (λ w. pick_by Nearer'' (leb (length before) p.at)
          (λ m. absurd (omega (arith, leb-true (length before) p.at m, c.none, fits.room)))
          (λ m. (storing' fits start_storing, omega (arith, left-checking)))))

    checking-turn : Nearer'' (turn_of p y' n o (length before))
    unfolding turn_of checked_by looked_by stayed_at
    checking-turn =
        pick_by Nearer'' (leb n k) (λ t. absurd (omega (arith, leb-true n k t)))
        (λ _. pick_by Nearer'' p.stores (λ t. absurd (true≢false (sym t ∙ c.counts)))
        (λ _. pick_by Nearer'' (eqb (record_refusal (unit_read o y')) refusal.accepted)
        (λ t. pick_by (λ (y : Pen). Nearer'' (turned_over y n (length before))) enough (λ _. checking-over (eqb-true _ _ t))
        (λ a. absurd (true≢false (sym c.ample ∙ a))))
        (λ t. checking-stop (eqb-false _ _ t))))

    checking-output : (l : List ℕ) → output_of p y' n l ≡ l
    checking-output l = no_output p y' l c.counts

  -- ---- storing

  module _ (p : Pen) (l : List ℕ) (fits : Fits) (s : Storing p l) (h : p.index < n) where
    abbrev j : ℕ
    j = p.index

    abbrev x : UnitRecord
    x = record' j

    fine-here : Fine x
    fine-here = fine_record o x (fine_at o rs 0 fits.none_refused_lem j h)

    abbrev octets' : List ℕ
    octets' = home_octets (unit_by x) (setsOf p.gl p.gr)

    abbrev q' : Pen
    q' = stored_by p x (j + 1) (length l)

    -- the pen and the output after the record's octets are stored, with sets that are those after it
    module _ {gl gr : ℕ} (ea : home_after (unit_by x) (setsOf p.gl p.gr) ≡ setsOf gl gr) (lg : Legal gl gr) where
      have-room : p.at + length octets' ≤ length l
      have-room =
          omega (
            arith,
            fits.room,
            s.put.next,
            written_length s.put,
            ap length s.rest,
            length-append s.done (rest_from j p.gl p.gr),
            ap length (next-rest j h p.gl p.gr ea),
            length-append octets' (rest_from (j + 1) gl gr),
          )

      added : {b : ℕ} {last : List ℕ} → Written l p.at octets' b last
          → Storing (pen b (j + 1) p.number p.place gl gr p.stores) last
      added w =
          record {
            accepts = s.accepts;
            most = omega arith;
            stores = λ _. s.stores h;
            legal = lg;
            done = s.done ++ octets';
            put = written_both s.put w;
            rest =
                append_assoc s.done octets' (rest_from (j + 1) gl gr)
                ∙ ap (λ (y : List ℕ). s.done ++ y) (sym (next-rest j h p.gl p.gr ea)) ∙ s.rest;
          }

      one-put : (xs : List ℕ) → octets' ≡ xs
          → Storing (pen (stored_to p.at xs (length l)) (j + 1) p.number p.place gl gr p.stores) (stored_over l p.at xs)
      one-put xs e = added (written_as e (over_written l p.at xs (room_as e p.at have-room)))

      two-put : (xs ys : List ℕ) → octets' ≡ xs ++ ys
          → Storing (pen (stored_to (stored_to p.at xs (length l)) ys (length l)) (j + 1) p.number p.place gl gr p.stores)
          (stored_over (stored_over l p.at xs) (stored_to p.at xs (length l)) ys)
      two-put xs ys e =
          let r : p.at + length (xs ++ ys) ≤ length l = room_as e p.at have-room in
          let a : Written l p.at xs (stored_to p.at xs (length l)) (stored_over l p.at xs)
          = over_written l p.at xs (omega (arith, r, length-append xs ys)) in
          let mid : List ℕ = stored_over l p.at xs in
          let at' : ℕ = stored_to p.at xs (length l) in
          added (written_as e (written_both a
          (subst (λ (m : ℕ). Written mid at' ys (stored_to at' ys m) (stored_over mid at' ys)) (written_length a)
          (over_written mid at' ys (omega (arith, r, length-append xs ys, a.next, written_length a))))))

    stored : Storing q' (output_by p x l)
    unfolding stored_by output_by stored_text output_text stayed_at moved_to
    stored = by (way x p.gl p.gr s.legal fine-here)
      where
        by-text : TextWay (unit_by x) (text_set x p.gl) (text_code x) p.gl p.gr
            → Storing (stored_text p (text_set x p.gl) (text_code x) (j + 1) (length l)) (output_text p (text_set x p.gl) (text_code x) l)
        by-text (stays t w m) =
            both_by Storing (stands_in (text_set x p.gl) p) (λ _. one-put m s.legal _ w) (λ t'. absurd (true≢false (sym t ∙ t')))
        by-text (changes t w m b) =
            both_by Storing (stands_in (text_set x p.gl) p) (λ t'. absurd (true≢false (sym t' ∙ t)))
            (λ _. two-put m (legal_moved (text_set x p.gl) p.gl p.gr s.legal) _ _ w)

        by : Way x p.gl p.gr → Storing q' (output_by p x l)
        by (text t w) =
            both_by Storing (leb x.kind kind.space) (λ _. by-text w) (λ t'. absurd (omega (arith, leb-false x.kind kind.space t')))
        by (controls t w m) =
            both_by Storing (leb x.kind kind.space) (λ t'. absurd (omega (arith, leb-true x.kind kind.space t')))
            (λ _. one-put m s.legal _ w)

    -- a record changes neither what the pen does, nor by more than one its index
    kept_by : (P : Pen → Type 0) → ((at gl gr : ℕ) → P (pen at (j + 1) p.number p.place gl gr p.stores)) → P q'
    unfolding stored_by stored_text stayed_at moved_to
    kept_by P f =
        pick_by P (leb x.kind kind.space) (λ _. pick_by P (stands_in (text_set x p.gl) p) (λ _. f _ _ _) (λ _. f _ _ _)) (λ _. f _ _ _)

    left_less : left q' < left p
    left_less =
        omega (
          arith,
          kept_by (λ (y : Pen). left y ≡ 0 + (n - (j + 1))) (λ at gl gr. ap (λ (b : Bool). cond b 0 n + (n - (j + 1))) (s.stores h)),
          ap (λ (b : Bool). cond b 0 n + (n - j)) (s.stores h),
        )

    abbrev Nearer' : Pen → Type 0
    Nearer' y = Going y (output_by p x l) × (left y < left p)

    storing-turn : Nearer' (turn_of p x n o (length l))
    unfolding turn_of
    storing-turn =
        pick_by Nearer' (leb n j) (λ t. absurd (omega (arith, leb-true n j t)))
        (λ _. pick_by Nearer' p.stores (λ _. (storing' fits stored, left_less)) (λ t. absurd (true≢false (sym (s.stores h) ∙ t))))

    storing-output : output_of p x n l ≡ output_by p x l
    unfolding output_of
    storing-output =
        pick_by (λ (y : List ℕ). y ≡ output_by p x l) (leb n j) (λ t. absurd (omega (arith, leb-true n j t)))
        (λ _. pick_by (λ (y : List ℕ). y ≡ output_by p x l) p.stores (λ _. refl) (λ t. absurd (true≢false (sym (s.stores h) ∙ t))))

  -- ---- a turn

  pub going_most : (p : Pen) (l : List ℕ) → Going p l → p.index ≤ n
  going_most p l (counting c few h e) = omega arith
  going_most p l (checking c h e) = omega arith
  going_most p l (storing' f s) = s.most
  going_most p l (stopped s e) = omega (arith, s.last)
  going_most p l (unfit u e) = omega (arith, u.last)

  pub going_length : (p : Pen) (l : List ℕ) → Going p l → length l ≡ length before
  going_length p l (counting c few h e) = ap length e
  going_length p l (checking c h e) = ap length e
  going_length p l (storing' f s) = written_length s.put
  going_length p l (stopped s e) = ap length e
  going_length p l (unfit u e) = ap length e

  abbrev pub turn_at : Pen → List ℕ → Pen
  turn_at p l = turn_of p (record' p.index) n o (length l)

  abbrev pub output_at : Pen → List ℕ → List ℕ
  output_at p l = output_of p (record' p.index) n l

  -- a turn that stores nothing
  unstored : (p : Pen) (l : List ℕ) → l ≡ before → output_at p l ≡ l
      → Going (turn_of p (record' p.index) n o (length before)) before × (left (turn_of p (record' p.index) n o (length before)) < left p)
      → Going (turn_at p l) (output_at p l) × (left (turn_at p l) < left p)
  unstored p l e kept g =
      subst (λ (y : List ℕ). Going (turn_at p l) y × (left (turn_at p l) < left p)) (sym (kept ∙ e))
      (subst (λ (m : ℕ). Going (turn_of p (record' p.index) n o m) before × (left (turn_of p (record' p.index) n o m) < left p))
      (sym (ap length e)) g)

  pub turned : (p : Pen) (l : List ℕ) → p.index < n → Going p l → Going (turn_at p l) (output_at p l) × (left (turn_at p l) < left p)
  turned p l h (counting c few k e) = unstored p l e (counting-output p c few k l) (counting-turn p c few k)
  turned p l h (checking c k e) = unstored p l e (checking-output p c k l) (checking-turn p c k)
  turned p l h (storing' f s) =
      subst (λ (y : List ℕ). Going (turn_at p l) y × (left (turn_at p l) < left p)) (sym (storing-output p l f s h)) (storing-turn p l f s h)
  turned p l h (stopped s e) = absurd (omega (arith, s.last))
  turned p l h (unfit u e) = absurd (omega (arith, u.last))

  -- before the first turn, to count; of an empty list the string is the 00 alone
  going_first : enough ≡ false → Going (looking_at 0) before
  going_first a =
      test (ltb 0 n) (λ t. counting from_start a (ltb-true 0 n t) refl)
      (λ t. let h = ltb-false 0 n t in
      test (leb (length before) 0) (λ w. no-octet h (leb-true (length before) 0 w)) (λ w. only_null h (leb-false (length before) 0 w)))
    where
      from_start : Counting (looking_at 0)
      from_start = record { accepts = refl; counts = refl; legal = legal_fresh; found = refl; done = 0; rest = omega arith; count = exactly refl }

      no-octet : n ≤ 0 → length before ≤ 0 → Going (looking_at 0) before
      no-octet h w =
          unfit (record {
            last = omega arith;
            counts = refl;
            accepts = refl;
            none_refused_lem = refused_none 0 h;
            count = exactly (ap length (rest_none 0 0 3 h));
            no-fit = inr w;
          }) refl

      only_null : n ≤ 0 → 0 < length before → Going (looking_at 0) before
      only_null h w =
          let e : length whole ≡ 0 = ap length (rest_none 0 0 3 h) in
          storing' (record { none_refused_lem = refused_none 0 h; within = omega arith; room = omega arith })
          (record {
            accepts = refl;
            most = omega arith;
            stores = λ k. absurd (omega arith);
            legal = legal_fresh;
            done = [];
            put = written_none before 0;
            rest = refl;
          })

  -- ---- where the pen begins, by the records that the quick check lets through at the start

  abbrev run : ℕ
  run = quick_run rs n 0

  run_plain : (m i j : ℕ) → i ≤ j → j < quick_run rs m i → plain_of (record' j) ≡ true
  unfolding quick_run
  run_plain zero i j h = λ l. absurd (omega arith)
  run_plain (suc m) i j h =
      pick_by (λ (k : ℕ). j < k → plain_of (record' j) ≡ true) (plain_of (record' i))
      (λ t l. ⊎_elim (λ (e : i ≡ j). subst (λ (k : ℕ). plain_of (record' k) ≡ true) e t) (λ (e : i < j). run_plain m (suc i) j (omega arith) l)
      (eq-or-lt_of_le h))
      (λ t l. absurd (omega arith))

  -- they are refused for nothing
  found_plain : (i : ℕ) → i ≤ n → ((j : ℕ) → j < i → plain_of (record' j) ≡ true) → first_refused o rs 0 ≡ refused_from i
  found_plain zero h p = refl
  found_plain (suc i) h p =
      found_plain i (omega arith) (λ j l. p j (omega arith))
      ∙ passes-here i (omega arith) (sym (plain_accepted o (record' i) (p i (omega arith)))) ∙ ap refused_from (add-one i)

  found_run : first_refused o rs 0 ≡ refused_from run
  found_run = found_plain run (omega (arith, run_most rs n 0)) (λ j l. run_plain n 0 j (omega arith) l)

  pub going_begun : Going (begun_at run n (length before)) before
  unfolding begun_at
  going_begun =
      pick_by (λ (p : Pen). Going p before) enough
      (λ a. pick_by (λ (p : Pen). Going p before) (ltb run n)
      (λ t. checking (record { ample = a; accepts = refl; counts = refl; none = refl; found = found_run }) (ltb-true run n t) refl)
      (λ t. storing' (ample_fits a (found_run ∙ refused_none run (ltb-false run n t))) start_storing))
      going_first
