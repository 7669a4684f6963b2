-- The writer's answer is that of rule N6, exactly (`outcome`): each test of `writer_answer` is one case. From it: what each
-- number means (`accepted_where`, `work_room_where`, `too_long_where`, `no_room_where`), the counts and places (`accepted_answer`,
-- `refused_count`, `refused_place`), and what the output holds (`refused_output`, `accepted_output`).
use Rattle.element.proofs.Names.{ℕ, ◌≤◌, ◌<◌, arith, ◌≡◌, refl, sym, ◌∙◌, subst, cond, List, Option, none, some, ◌↔◌, inl, inr, ⊎_elim, length}
use Rattle.element.proofs.Names.{get_or, take, ltb, ltb-true, ltb-false, le-ltb, lt-ltb, answer, refused_at, Answer, UnitRecord, cond_by, undirected}
use mathlib.Core.Option.{none-ne-some}
use Rattle.base.specs.Limit as limit
use Rattle.base.specs.Refusal as refusal
use Rattle.grammar.specs.Units.{TextUnit}
use Rattle.shortest.specs.Writing.{shortest_count}
use Rattle.shortest.specs.Demand.{write_answer}
use Rattle.grammar.specs.Records.{unit_read, list_reading}
use Rattle.shortest.specs.Records.{Finding, fine, faulty, check_records, after_check, of_reading, work_room, writer_answer}
use Rattle.shortest.specs.Offence.{directions_after, no_record, fault_at, FirstOffends, Number}
use Rattle.shortest.specs.Outcome.{Served, Accepts, LacksWorkRoom, TooLong, LacksRoom, Outcome, long_list, offending, short_work, long_writing}
use Rattle.shortest.specs.Outcome.{short_output, written}
use Rattle.shortest.proofs.Offence.{offence, no_offence, numbers}
use Rattle.shortest.proofs.Records.{fine_units, reading_length}

-- number, place and count of an answer
abbrev Of : (ℕ → ℕ → ℕ → Type 0) → Answer → Type 0
Of P a = P a.number a.place a.count

pub offence_number : (o : List ℕ) (rs : List UnitRecord) (n i : ℕ) → FirstOffends o rs n i → Number n
unfolding fault_at
offence_number o rs n i f = numbers (unit_read o (get_or rs i no_record)) (directions_after o (take i rs) undirected) n f.offends

-- none of the other numbers
apart : (n : ℕ) → Number n → (2 ≤ n) × (n < refusal.no_work_room) × (n ≡ refusal.no_room → ⊥)
apart n (inl e) = omega arith
apart n (inr (inl e)) = omega arith
apart n (inr (inr (inl e))) = omega arith
apart n (inr (inr (inr e))) = omega arith

module _ (rs : List UnitRecord) (o : List ℕ) (work m : ℕ) where
  -- the answer is an outcome
  abbrev Is : Answer → Type 0
  Is = Of (Outcome rs o work m)

  writing_outcome : (us : List TextUnit) → Served rs o work us → Is (write_answer us m)
  unfolding write_answer
  writing_outcome us v =
      cond_by Is (ltb limit.octets (shortest_count us)) (λ p. long_writing us v (ltb-true _ _ p))
      (λ p. cond_by Is (ltb m (shortest_count us)) (λ q. short_output us v (ltb-false _ _ p) (ltb-true _ _ q))
      (λ q. rw (reading_length o rs us v.reading) (written us v (ltb-false _ _ p) (ltb-false _ _ q))))

  is_outcome : Is (writer_answer rs o work m)
  unfolding writer_answer
  is_outcome =
      cond_by Is (ltb limit.units (length rs)) (λ e. long_list (ltb-true _ _ e)) (λ e. check (ltb-false _ _ e) (check_records o rs 0 undirected) refl)
    where
      reading : length rs ≤ limit.units → check_records o rs 0 undirected ≡ fine → work_room (length rs) ≤ work
          → (x : Option (List TextUnit)) → list_reading o rs ≡ x → Is (of_reading x m)
      reading l c w none e = let f = fine_units o rs 0 undirected c in absurd (none-ne-some _ (sym e ∙ f.reading))
      reading l c w (some us) e = writing_outcome us (record { list = l; none = (no_offence o rs).0 c; room = w; reading = e })

      check : length rs ≤ limit.units → (c : Finding) → check_records o rs 0 undirected ≡ c
          → Is (after_check c (cond (ltb work (work_room (length rs))) (refused_at refusal.no_work_room 0) (of_reading (list_reading o rs) m)))
      check l fine e =
          cond_by Is (ltb work (work_room (length rs))) (λ w. short_work l ((no_offence o rs).0 e) (ltb-true _ _ w))
          (λ w. reading l e (ltb-false _ _ w) (list_reading o rs) refl)
      check l (faulty n i) e = offending l ((offence o rs n i).0 e)

  -- an outcome is the answer
  pub served : (us : List TextUnit) → Served rs o work us → writer_answer rs o work m ≡ write_answer us m
  unfolding writer_answer
  served us v = rw (le-ltb _ _ v.list, (no_offence o rs).1 v.none, le-ltb _ _ v.room, v.reading)

  pub outcome_is : {n p c : ℕ} → Outcome rs o work m n p c → writer_answer rs o work m ≡ answer n p c
  unfolding writer_answer write_answer
  outcome_is (long_list h) = rw (lt-ltb limit.units)
  outcome_is (offending {n} {i} h f) = rw (le-ltb limit.units, (offence o rs n i).1 f)
  outcome_is (short_work h f w) = rw (le-ltb limit.units, (no_offence o rs).1 f, lt-ltb work)
  outcome_is (long_writing us v h) = served us v ∙ rw (lt-ltb limit.octets)
  outcome_is (short_output us v h k) = served us v ∙ rw (le-ltb limit.octets, lt-ltb m)
  outcome_is (written us v h k) = served us v ∙ rw (le-ltb limit.octets, le-ltb m, reading_length o rs us v.reading)

  -- the order of the writer's refusals, whole
  pub outcome : (n p c : ℕ) → (writer_answer rs o work m ≡ answer n p c) ↔ Outcome rs o work m n p c
  outcome n p c = (λ e. subst Is e is_outcome, outcome_is)

  -- ---- what each number means

  abbrev number : ℕ
  number = (writer_answer rs o work m).number

  off : {n i : ℕ} → FirstOffends o rs n i → (2 ≤ n) × (n < refusal.no_work_room) × (n ≡ refusal.no_room → ⊥)
  off {n} {i} f = apart n (offence_number o rs n i f)

  -- the outcome of a known number, and the number of a known outcome
  known : {n : ℕ} → number ≡ n → Outcome rs o work m n (writer_answer rs o work m).place (writer_answer rs o work m).count
  known e = rw e at is_outcome

  numbered : {n p c : ℕ} → Outcome rs o work m n p c → number ≡ n
  numbered x = cc (outcome_is x)

  -- 0 (rule N6)
  pub accepted_where : (number ≡ refusal.accepted) ↔ Accepts rs o work m
  accepted_where = (λ e. go (known e), λ w. numbered (written w.0 w.1 w.2 w.3))
    where
      go : {p c : ℕ} → Outcome rs o work m refusal.accepted p c → Accepts rs o work m
      go (offending h f) = absurd (omega (arith, off f))
      go (written us v h k) = (us, v, h, k)

  -- 12 (rule N4)
  pub work_room_where : (number ≡ refusal.no_work_room) ↔ LacksWorkRoom rs o work
  work_room_where = (λ e. go (known e), λ w. numbered (short_work w.0 w.1 w.2))
    where
      go : {p c : ℕ} → Outcome rs o work m refusal.no_work_room p c → LacksWorkRoom rs o work
      go (offending h f) = absurd (omega (arith, off f))
      go (short_work h f w) = (h, f, w)

  -- 1 (rules J2, N3)
  pub too_long_where : (number ≡ refusal.too_long) ↔ TooLong rs o work
  too_long_where = (λ e. go (known e), ⊎_elim (λ h. numbered (long_list h)) (λ w. numbered (long_writing w.0 w.1 w.2)))
    where
      go : {p c : ℕ} → Outcome rs o work m refusal.too_long p c → TooLong rs o work
      go (long_list h) = inl h
      go (offending h f) = absurd (omega (arith, off f))
      go (long_writing us v h) = inr (us, v, h)

  -- 10 (rule N6)
  pub no_room_where : (number ≡ refusal.no_room) ↔ LacksRoom rs o work m
  no_room_where = (λ e. go (known e), λ w. numbered (short_output w.0 w.1 w.2 w.3))
    where
      go : {p c : ℕ} → Outcome rs o work m refusal.no_room p c → LacksRoom rs o work m
      go (offending h f) = absurd ((off f).2 refl)
      go (short_output us v h k) = (us, v, h, k)

  -- 11, 7, 8, 9: the first offending record has that number and stands there
  pub offends_where : (n i : ℕ) → Number n → (writer_answer rs o work m ≡ refused_at n i) ↔ ((length rs ≤ limit.units) × FirstOffends o rs n i)
  offends_where n i k = (λ e. go k ((outcome n i 0).0 e), λ w. outcome_is (offending w.0 w.1))
    where
      go : {n i c : ℕ} → Number n → Outcome rs o work m n i c → (length rs ≤ limit.units) × FirstOffends o rs n i
      go k (long_list h) = absurd (omega (arith, apart _ k))
      go k (offending h f) = (h, f)
      go k (short_work h f w) = absurd (omega (arith, apart _ k))
      go k (long_writing us v h) = absurd (omega (arith, apart _ k))
      go k (short_output us v h l) = absurd ((apart _ k).2 refl)
      go k (written us v h l) = absurd (omega (arith, apart _ k))

  -- ---- counts and places

  bare : {n p c : ℕ} → Outcome rs o work m n p c → (n ≡ refusal.accepted → ⊥)
      → ((n ≡ refusal.no_room → ⊥) → c ≡ 0) × ((Number n → ⊥) → p ≡ 0)
  bare (long_list h) a = (λ _. refl, λ _. refl)
  bare (offending {n} {i} h f) a = (λ _. refl, λ b. absurd (b (offence_number o rs n i f)))
  bare (short_work h f w) a = (λ _. refl, λ _. refl)
  bare (long_writing us v h) a = (λ _. refl, λ _. refl)
  bare (short_output us v h k) a = (λ b. absurd (b refl), λ _. refl)
  bare (written us v h k) a = absurd (a refl)

  -- a refusal other than 10 has count 0 (rule N1)
  pub refused_count : (number ≡ refusal.accepted → ⊥) → (number ≡ refusal.no_room → ⊥) → (writer_answer rs o work m).count ≡ 0
  refused_count a = (bare is_outcome a).0

  -- a refusal other than of a unit has place 0 (rule N2)
  pub refused_place : (number ≡ refusal.accepted → ⊥) → (Number number → ⊥) → (writer_answer rs o work m).place ≡ 0
  refused_place a = (bare is_outcome a).1

  -- accepted: 0, the units, and the octets written (rule N1)
  pub accepted_answer : number ≡ refusal.accepted
      → (us : List TextUnit) × (list_reading o rs ≡ some us) × (writer_answer rs o work m ≡ answer refusal.accepted (length rs) (shortest_count us))
  accepted_answer e =
      let w = accepted_where.0 e in
      (w.0, w.1.reading, outcome_is (written w.0 w.1 w.2 w.3))
