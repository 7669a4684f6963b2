-- What request No. 2 changed in writing, and nothing else. The writer by the direction rule before it (grammar/proofs/Before) is `answer_before` and
-- `output_before`: the check of the records alone asks that rule. A list without an extended segment that has text is answered and written as before
-- (`list_as_before`). Any list is, or is refused 8 now at a unit that did not offend before, and none before it did (`list_changed`). By one walk over
-- the records, whose steps by the two rules are compared in `grammar`.
use Rattle.element.proofs.Names.{ℕ, suc, ◌<◌, arith, ◌≡◌, refl, sym, ap, ◌∙◌, Bool, true, false, cond, ◌||◌, List, [], ◌∷◌, Option, none, some}
use Rattle.element.proofs.Names.{◌⊎◌, inl, inr, length, eqb, ltb, off, test, refused_at, Answer, UnitRecord, undirected, step_of, Directions, Step}
use Rattle.element.proofs.Names.{Goes, Stops}
use Rattle.base.proofs.Bools.{or_first, or_more, or_turn}
use Rattle.base.specs.Limit as limit
use Rattle.base.specs.Refusal as refusal
use Rattle.grammar.specs.Units.{TextUnit, kind_of, text_in, good}
use Rattle.grammar.specs.Records.{unit_read, list_reading}
use Rattle.grammar.proofs.Before.{with_text, counted_before, Behind, Steps, go, stop, now, unit_steps, behind_fresh}
use Rattle.shortest.specs.Records.{own, fault, Finding, fine, faulty, on_step, check_records, after_check, of_reading, work_room, writer_answer, output_of}
use Rattle.shortest.specs.Records.{writer_output}

-- ---- the writer by the rule before the request

abbrev pub fault_before : Option TextUnit → Directions → Step
fault_before none d = Stops refusal.bad_unit
fault_before (some u) d = cond (good u) (step_of (counted_before (kind_of u)) (kind_of u) d) (Stops (own u))

unfoldable pub records_before : List ℕ → List UnitRecord → ℕ → Directions → Finding
records_before o [] i d = fine
records_before o (r ∷ rs) i d = on_step (fault_before (unit_read o r) d) i (λ next. records_before o rs (suc i) next)

-- the writer's answer, by what the check of the records finds
abbrev pub answer_by : Finding → List UnitRecord → List ℕ → ℕ → ℕ → Answer
answer_by x rs o work out =
    cond (ltb limit.units (length rs)) (refused_at refusal.too_long 0)
    (after_check x (cond (ltb work (work_room (length rs))) (refused_at refusal.no_work_room 0) (of_reading (list_reading o rs) out)))

unfoldable pub answer_before : List UnitRecord → List ℕ → ℕ → ℕ → Answer
answer_before rs o work out = answer_by (records_before o rs 0 undirected) rs o work out

unfoldable pub output_before : List UnitRecord → List ℕ → ℕ → List ℕ → List ℕ
output_before rs o work out =
    cond (eqb (answer_before rs o work (length out)).number refusal.accepted) (output_of (list_reading o rs) out) out

-- whether a record stands for an extended segment with text, and whether one of a list does
abbrev pub record_text : Option TextUnit → Bool
record_text none = false
record_text (some u) = with_text u

unfoldable pub any_record : List ℕ → List UnitRecord → Bool
any_record o [] = false
any_record o (r ∷ rs) = record_text (unit_read o r) || any_record o rs

-- ---- the walk

-- no record up to an index was found to offend
pub data After (i : ℕ) : Finding → Type 0 where
  never : After i fine
  later : {n j : ℕ} → i < j → After i (faulty n j)

-- what the check finds before and now: the same; or now a refusal 8 at a record that did not offend before, with a segment with text in the list
data Finds (text : Bool) : Finding → Finding → Type 0 where
  alike : {x : Finding} → Finds text x x
  refused_now : {x : Finding} {i : ℕ} → text ≡ true → After i x → Finds text x (faulty refusal.direction i)

-- where a segment with text is known for another reason
known : {a b : Bool} {x y : Finding} → (a ≡ true → b ≡ true) → Finds a x y → Finds b x y
known f alike = alike
known f (refused_now h l) = refused_now (f h) l

module _ (o : List ℕ) where
  after : (i : ℕ) (rs : List UnitRecord) (j : ℕ) (d : Directions) → i < j → After i (records_before o rs j d)
  unfolding records_before
  after i [] j d h = never
  after i (r ∷ rs) j d h = by (fault_before (unit_read o r) d) (λ next. after i rs (suc j) next (omega arith))
    where
      by : (x : Step) → ((next : Directions) → After i (records_before o rs (suc j) next))
          → After i (on_step x j (λ next. records_before o rs (suc j) next))
      by (Goes next) rest = rest next
      by (Stops n) rest = later h

  abbrev Rest : List UnitRecord → ℕ → Type 0
  Rest rs i = (d e : Directions) (seen : Bool) → Behind seen d e → Finds (any_record o rs || seen) (records_before o rs i d) (check_records o rs i e)

  -- a record that stands for a good unit, by its two steps
  stepped : (rs : List UnitRecord) (i : ℕ) (text seen : Bool) {x y : Step} → Rest rs (suc i) → Steps (text || seen) x y
      → Finds ((text || any_record o rs) || seen) (on_step x i (λ next. records_before o rs (suc i) next))
      (on_step y i (λ next. check_records o rs (suc i) next))
  stepped rs i text seen rest (go {d = d} {e = e} r) = known (or_turn (any_record o rs) text seen) (rest d e (text || seen) r)
  stepped rs i text seen rest stop = alike
  stepped rs i text seen rest (now {d = d} h) = refused_now (or_more text (any_record o rs) seen h) (after i rs (suc i) d (omega arith))

  walk : (rs : List UnitRecord) (i : ℕ) → Rest rs i
  unfolding records_before check_records any_record
  walk [] i d e seen r = alike
  walk (u ∷ us) i d e seen r = by (unit_read o u) (walk us (suc i))
    where
      by : (x : Option TextUnit) → Rest us (suc i)
          → Finds ((record_text x || any_record o us) || seen) (on_step (fault_before x d) i (λ next. records_before o us (suc i) next))
          (on_step (fault x e) i (λ next. check_records o us (suc i) next))
      by none rest = alike
      by (some v) rest =
          test (good v) (λ h. rw h (stepped us i (with_text v) seen rest (unit_steps seen d e r (kind_of v) (text_in v)))) (λ h. rw h alike)

-- ---- the theorems

-- a list is answered and written as before the request
pub record WrittenBefore (rs : List UnitRecord) (o : List ℕ) (work : ℕ) (out : List ℕ) : Type 0 where
  pub answers : writer_answer rs o work (length out) ≡ answer_before rs o work (length out)
  pub output : writer_output rs o work out ≡ output_before rs o work out

-- a list is refused 8 now, at a unit that did not offend before, as none before it did
pub record ListRefusedNow (rs : List UnitRecord) (o : List ℕ) (work : ℕ) (out : List ℕ) : Type 0 where
  pub index : ℕ
  pub answers : writer_answer rs o work (length out) ≡ refused_at refusal.direction index
  pub before : After index (records_before o rs 0 undirected)

module _ (rs : List UnitRecord) (o : List ℕ) (work : ℕ) (out : List ℕ) where
  abbrev output_by : Finding → List ℕ
  output_by x = cond (eqb (answer_by x rs o work (length out)).number refusal.accepted) (output_of (list_reading o rs) out) out

  same : check_records o rs 0 undirected ≡ records_before o rs 0 undirected → WrittenBefore rs o work out
  unfolding writer_answer writer_output answer_before output_before
  same e = record { answers = ap (λ (x : Finding). answer_by x rs o work (length out)) e; output = ap output_by e }

  too_long : ltb limit.units (length rs) ≡ true → WrittenBefore rs o work out
  unfolding writer_answer writer_output answer_before output_before
  too_long e = record { answers = rw e refl; output = rw e refl }

  from_start : Finds (any_record o rs || false) (records_before o rs 0 undirected) (check_records o rs 0 undirected)
  from_start = walk o rs 0 undirected undirected false behind_fresh

  -- a list without an extended segment that has text is answered and written as before
  pub list_as_before : any_record o rs ≡ false → WrittenBefore rs o work out
  list_as_before m = by from_start refl refl
    where
      by : {x y : Finding} → Finds (any_record o rs || false) x y → check_records o rs 0 undirected ≡ y → records_before o rs 0 undirected ≡ x
          → WrittenBefore rs o work out
      by alike e f = same (e ∙ sym f)
      by (refused_now h l) e f = off (sym m ∙ or_first (any_record o rs) h)

  -- any list is, or is refused 8 now
  pub list_changed : WrittenBefore rs o work out ⊎ ListRefusedNow rs o work out
  unfolding writer_answer
  list_changed = by from_start refl refl
    where
      by : {x y : Finding} → Finds (any_record o rs || false) x y → check_records o rs 0 undirected ≡ y → records_before o rs 0 undirected ≡ x
          → WrittenBefore rs o work out ⊎ ListRefusedNow rs o work out
      by alike e f = inl (same (e ∙ sym f))
      by (refused_now {i = i} h l) e f =
          test (ltb limit.units (length rs)) (λ q. inl (too_long q))
          (λ q. inr (record { index = i; answers = rw (q, e) refl; before = rw f l }))
