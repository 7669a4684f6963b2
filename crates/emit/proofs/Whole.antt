-- From the plan to the writing, and the answer for the rows.
use Rattle.element.proofs.Names.{◌≡◌, refl, sym, ap, ap₂, ◌∙◌, subst, Bool, false, List, ◌∷◌, ◌++◌, ℕ, zero, suc, ◌+◌, ◌-◌, ◌*◌, ◌≤◌, ◌<◌, arith}
use Rattle.element.proofs.Names.{length, get_or, drop, sets, ltb, lt-ltb, le-ltb, le-leb, answer, refused_at, pick, Answer, fresh}
use lib.Seq.{sets-eq}
use Rattle.base.specs.Refusal as refusal
use Rattle.grammar.specs.Units.{TextUnit}
use Rattle.shortest.specs.Writing.{cost, writing}
use Rattle.shortest.specs.Demand.{write_answer, output_after}
use Rattle.shortest.specs.Records.{work_room}
use Rattle.shortest.proofs.Costs.{writing_length}
use Rattle.rows.specs.Rows.{tag_at, start_from, unit_tagged, unit_from, units_in, rows_of}
use Rattle.numbers.specs.Numbers.{numbered, class_of, after_first, after_second, second_slot}
use Rattle.table.specs.Table.{TwoStandings}
use Rattle.plan.specs.Plan.{Planned}
use Rattle.plan.proofs.Units.{same_start}
use Rattle.unit_octets.specs.Octets.{Written}
use Rattle.emit.specs.Emit.{rows_answer, rows_output, Ready}

-- ---- the rows hold the same units before and after the plan

abbrev Same : List ℕ → List ℕ → Type 0
Same a b = (j q : ℕ) → 65 ≤ q → q < 72 → get_or a (72 * j + q) 0 ≡ get_or b (72 * j + q) 0

module _ (a b : List ℕ) (e : Same a b) where
  same_tag : (i : ℕ) → tag_at a i ≡ tag_at b i
  same_tag i = e i 65 (omega arith) (omega arith)

  same_unit : (o : List ℕ) (i : ℕ) → unit_from o a (72 * i) ≡ unit_from o b (72 * i)
  same_unit o i =
      ap₂ (λ (t s : ℕ). unit_tagged o t (get_or a (72 * i + 66) 0) (get_or a (72 * i + 67) 0) s) (same_tag i) (same_start a b (72 * i) (e i))
      ∙ ap₂ (λ (x y : ℕ). unit_tagged o (tag_at b i) x y (start_from b (72 * i))) (e i 66 (omega arith) (omega arith)) (e i 67 (omega arith) (omega arith))

  same_units : (o : List ℕ) (m i : ℕ) → units_in o a i m ≡ units_in o b i m
  unfolding units_in
  same_units o zero i = refl
  same_units o (suc m) i = ap₂ ◌∷◌ (same_unit o i) (same_units o m (suc i))

ready : (o before after : List ℕ) (n : ℕ) → Planned o before n 0 after → Ready o after n
ready o before after n p i h t =
    let c = p.costs i (omega arith) h (subst (λ (x : ℕ). TwoStandings (class_of x)) (tag i) t) in
    record {
      base = c.base;
      first_cost = λ k hk.
          c.first_cost k hk
          ∙ ap₂ (λ (x : ℕ) (us : List TextUnit). cost us (numbered (after_first (class_of x) k))) (sym (tag i)) (sym (units (n - suc i) (suc i)));
      second_cost = λ k hk.
          ap (λ (x : ℕ). c.base + get_or after (72 * i + second_slot (class_of x) k) 0) (tag i)
          ∙ c.second_cost k hk
          ∙ ap₂ (λ (x : ℕ) (us : List TextUnit). cost us (numbered (after_second (class_of x) k))) (sym (tag i)) (sym (units (n - suc i) (suc i)));
    }
  where
    tag : (i : ℕ) → tag_at after i ≡ tag_at before i
    tag = same_tag after before p.kept

    units : (m i : ℕ) → units_in o after i m ≡ units_in o before i m
    units = same_units after before p.kept o

-- ---- the answers

units_length : (o w : List ℕ) (m i : ℕ) → length (units_in o w i m) ≡ m
unfolding units_in
units_length o w zero i = refl
units_length o w (suc m) i = ap suc (units_length o w m (suc i))

-- the answer, the output after, and a room that is as long as it was
abbrev Wrote : List ℕ → List ℕ → ℕ → List ℕ → Answer → List ℕ → List ℕ → Type 0
Wrote o w n out a after room = (a ≡ rows_answer o w n (length out)) × (after ≡ rows_output o w n out) × (length room ≡ length w)

module _ (o w : List ℕ) (n : ℕ) (out : List ℕ) where
  pub wrote_many : {a : Answer} → 65535 < n → a ≡ refused_at refusal.too_long 0 → Wrote o w n out a out w
  unfolding rows_answer rows_output pick
  wrote_many h e = let l = lt-ltb 65535 n h in (e ∙ rw l, rw l, refl)

  module _ (hn : n ≤ 65535) where
    few : ltb 65535 n ≡ false
    few = le-ltb 65535 n hn

    pub wrote_no_work : {a : Answer} → length w < work_room n → a ≡ refused_at refusal.no_work_room 0 → Wrote o w n out a out w
    unfolding rows_answer rows_output pick
    wrote_no_work h e = let m = lt-ltb (length w) (work_room n) h in (e ∙ rw (few, m), rw (few, m), refl)

    -- after the plan, which counted c octets
    module _ (hw : work_room n ≤ length w) (c : ℕ) (room : List ℕ)
        (p : (c ≡ cost (units_in o w 0 (rows_of n (length w))) fresh.sets) × Planned o w (rows_of n (length w)) 0 room) where
      abbrev shortest : List ℕ
      shortest = writing (units_in o w 0 n) fresh.sets

      -- the plan is that of all rows, since they lie in the room
      planned : (c ≡ cost (units_in o w 0 n) fresh.sets) × Planned o w n 0 room
      unfolding rows_of pick
      planned = rw (le-leb n 65535 hn, le-leb (72 * n) (length w) (omega arith)) at p

      lie : ltb (length w) (work_room n) ≡ false
      lie = le-ltb (length w) (work_room n) hw

      -- a test of the cost, by the count
      by_count : (m : ℕ) {t : Bool} → ltb m c ≡ t → ltb m (cost (units_in o w 0 n) fresh.sets) ≡ t
      by_count m e = ap (ltb m) (sym planned.0) ∙ e

      units : units_in o room 0 n ≡ units_in o w 0 n
      units = same_units room w planned.1.kept o n 0

      pub wrote_long : {a : Answer} → 65535 < c → a ≡ refused_at refusal.too_long 0 → Wrote o w n out a out room
      unfolding rows_answer rows_output write_answer output_after pick
      wrote_long h e = let q = by_count 65535 (lt-ltb 65535 c h) in (e ∙ rw (few, lie, q), rw (few, lie, q), planned.1.long)

      module _ (h : c ≤ 65535) where
        count : ltb 65535 (cost (units_in o w 0 n) fresh.sets) ≡ false
        count = by_count 65535 (le-ltb 65535 c h)

        pub wrote_room : length out < c → Wrote o w n out (answer refusal.no_room 0 c) out room
        unfolding rows_answer rows_output write_answer output_after pick
        wrote_room k =
            let r = by_count (length out) (lt-ltb (length out) c k) in
            (rw (few, lie, count, r) (ap (answer 10 0) planned.0), rw (few, lie, count, r), planned.1.long)

        module _ (k : c ≤ length out) where
          -- what `emit` asks
          pub ready_all : (n ≤ 65535) × (72 * n ≤ length room) × Ready o room n × (length (writing (units_in o room 0 n) fresh.sets) ≤ length out)
          ready_all = (
            hn,
            omega (arith, planned.1.long),
            ready o w room n planned.1,
            omega (arith, planned.0, ap (λ (us : List TextUnit). length (writing us fresh.sets)) units, writing_length (units_in o w 0 n) fresh.sets),
          )

          pub wrote_all : {a : Answer} (after : List ℕ) (end : ℕ) → Written out 0 (writing (units_in o room 0 n) fresh.sets) end after
              → a ≡ answer refusal.accepted n c → Wrote o w n out a after room
          unfolding rows_answer rows_output write_answer output_after pick
          wrote_all after end z e =
              let r = by_count (length out) (le-ltb (length out) c k) in
              let s = writing_length (units_in o w 0 n) fresh.sets in (
                e ∙ rw (few, lie, count, r) (ap₂ (answer 0) (sym (units_length o w n 0)) planned.0),
                rw (few, lie, count, r)
                    (z.now ∙ ap (λ (us : List TextUnit). sets out 0 (writing us fresh.sets)) units
                    ∙ sets-eq shortest out 0 (omega (arith, planned.0, s))
                    ∙ ap (λ (y : ℕ). shortest ++ drop y out)
                    (let y : 0 + length shortest ≡ cost (units_in o w 0 n) fresh.sets = omega (arith, s) in y)),
                planned.1.long,
              )
