-- The costs of what follows, unit by unit from the last to the first. They are kept less a base, since no two differ by more than two
-- designations; and beside them the class that changed them last, since its need changes them no more.
use Rattle.element.proofs.Names.{◌≡◌, refl, sym, ap, ap₂, ◌∙◌, subst, Bool, true, false, not, true≢false, List, ◌⊎◌, inl, inr, Option, none, some}
use Rattle.element.proofs.Names.{ℕ, zero, suc, ◌+◌, ◌-◌, ◌*◌, ◌%◌, ◌≤◌, ◌<◌, arith, ltb, eqb, ltb-true, ltb-false, eqb-true, length, get_or}
use Rattle.element.proofs.Names.{List·getD-eq-default, test, pick_by, pick, GL, GR, row_of, allowed, may_use, form_of, Standing, on, put, fresh, Sets}
use mathlib.Core.Path.{fun_ext}
use mir.Syntax.{w64}
use mir.Val.{Fits}
use Rattle.grammar.specs.Units.{TextUnit, designation}
use Rattle.grammar.proofs.Sound.{lead_size}
use Rattle.shortest.specs.Writing.{Need, least, choose, after, price, cost}
use Rattle.shortest.proofs.Needs.{spent, least_chosen}
use Rattle.shortest.proofs.Costs.{cost_steady}
use Rattle.rows.specs.Rows.{tag_at, start_from, count_of, part_of, units_in, size_of}
use Rattle.numbers.specs.Numbers.{numbered, class_of, need_of_class, after_first, after_second, after_choice, surcharge, second_slot, changes}
use Rattle.plan.specs.Costs.{least_by, Smooth, Turned}
use Rattle.table.specs.Table.{TwoStandings, RowKept}
use Rattle.plan.specs.Plan.{size_at, rest_from, CostsKept, Planned}
use Rattle.numbers.proofs.Numbers.{choice_at, chosen_base, below, steady_at}
use Rattle.plan.proofs.Again.{least_again, least_plus, least_space}
use Rattle.plan.proofs.Units.{rest_end, rest_cons, same_start}

-- ---- bounds

price_most : (p : Standing) → price p ≤ 4
unfolding price designation form_of
price_most p =
    let size = lead_size (row_of p.set).form p.side (row_of p.set).last in
    test (eqb (row_of p.set).form 3) (λ e. omega (arith, size true e)) (λ e. omega (arith, size false e))

-- no two costs differ by more than two designations
near : (us : List TextUnit) (s t : Sets) → cost us s ≤ 8 + cost us t
unfolding put
near us s t =
    omega (
      arith,
      cost_steady us (on GL t.gl) s,
      price_most (on GL t.gl),
      cost_steady us (on GR t.gr) (put (on GL t.gl) s),
      price_most (on GR t.gr),
    )

least_most : (n : Need) (f : Sets → ℕ) (b : ℕ) (s : Sets) → ((t : Sets) → f t ≤ b) → least n f s ≤ 4 + b
least_most n f b s h = go (choose n f s) (least_chosen n f s)
  where
    go : (o : Option Standing) → least n f s ≡ spent o + f (after o s) → least n f s ≤ 4 + b
    go none e = omega (arith, h s)
    go (some p) e = omega (arith, h (put p s), price_most p)

size_most : (t n : ℕ) → n ≤ 16383 → size_of t n ≤ 16389
unfolding size_of
size_most t n h = by _ (omega arith) (by _ (omega arith) (by _ (omega arith) (by _ (omega arith) (by _ (omega arith) (by _ (omega arith) (omega arith))))))
  where
    by : {x y : ℕ} (b : Bool) → x ≤ 16389 → y ≤ 16389 → pick b x y ≤ 16389
    by b hx hy = pick_by (λ m. m ≤ 16389) b (λ _. hx) (λ _. hy)

pub class_below : (t : ℕ) → class_of t < 17
unfolding class_of
class_below t = pick_by (λ m. m < 17) (ltb t 16) (λ e. let l = ltb-true t 16 e in omega arith) (λ _. omega arith)

-- the sets of the fresh state have number 1
pub fresh_number : numbered 1 ≡ fresh.sets
unfolding numbered
fresh_number = refl

-- ---- the rows as they were before, whose segments stand in o

module _ (o before : List ℕ) (n : ℕ) where
  abbrev class : ℕ → ℕ
  class i = class_of (tag_at before i)

  abbrev rest : ℕ → Sets → ℕ
  rest i = rest_from o before n i

  -- no unit takes more than 16,393 octets with its designation
  rest_most : ((p : ℕ) → get_or before p 0 < 256) → (m i : ℕ) (s : Sets) → n - i ≡ m → i ≤ n → rest i s ≤ 16393 * m
  rest_most h zero i s e l = let z : n ≡ i = omega arith in omega (arith, subst (λ (j : ℕ). rest j s ≡ 0) z (rest_end o before n s))
  rest_most h (suc m) i s e l =
      omega (
        arith,
        rest_cons o before n i s (omega arith),
        least_most (need_of_class (class i)) (rest (suc i)) (16393 * m) s (λ t. rest_most h m (suc i) t (omega arith) (omega arith)),
        size_most (tag_at before i)
            (part_of (count_of (get_or before (72 * i + 66) 0) (get_or before (72 * i + 67) 0)) (start_from before (72 * i)) (length o))
            (omega (arith, h (72 * i + 67))),
      )

  -- the costs of all numbers, less a base, are those of the rows from i on
  abbrev CostsAre : ℕ → ℕ → List ℕ → Type 0
  CostsAre i base cur = (k : ℕ) → k < 80 → base + get_or cur k 0 ≡ rest i (numbered k)

  -- the need of class x changes no cost of the rows from i on
  abbrev Settled : ℕ → ℕ → Type 0
  Settled i x = (s : Sets) → least (need_of_class x) (rest i) s ≡ rest i s

  least_rest : (i base : ℕ) (next : List ℕ) → i < n → CostsAre (suc i) base next → (k : ℕ) → k < 80
      → base + size_at o before i + least_by (class i) next k ≡ rest i (numbered k)
  unfolding least_by
  least_rest i base next h v k hk = omega (arith, m, rest_cons o before n i (numbered k) h)
    where
      at : ℕ → ℕ
      at j = get_or next j 0

      j : ℕ
      j = after_choice (class i) k at

      e : j ≡ after_choice (class i) k (λ m. base + at m)
      e = chosen_base (class i) k base (at (after_first (class i) k)) (at (after_second (class i) k)) _ _ refl refl

      m : base + (surcharge (class i) k j + at j) ≡ least (need_of_class (class i)) (rest (suc i)) (numbered k)
      m =
          omega (
            arith,
            (choice_at (rest (suc i)) (λ m. base + at m) v (class i) k hk (class_below (tag_at before i))).cost,
            ap (λ (m : ℕ). surcharge (class i) k m + (base + at m)) e,
          )

  -- where the need changes nothing, the unit only adds its octets
  module _ (i : ℕ) (h : i < n) (c : Settled (suc i) (class i)) where
    skip-rest : (s : Sets) → rest i s ≡ size_at o before i + rest (suc i) s
    skip-rest s = rest_cons o before n i s h ∙ ap (λ (m : ℕ). size_at o before i + m) (c s)

    settled-skip : (y : ℕ) → Settled (suc i) y → Settled i y
    settled-skip y d s =
        ap (λ (f : Sets → ℕ). least (need_of_class y) f s) (fun_ext skip-rest)
        ∙ least_plus (rest (suc i)) (size_at o before i) (need_of_class y) s ∙ ap (λ (m : ℕ). size_at o before i + m) (d s) ∙ sym (skip-rest s)

  -- after a unit its need changes nothing
  settled_new : (i : ℕ) → i < n → Settled i (class i)
  settled_new i h s =
      ap (λ (f : Sets → ℕ). least (need_of_class (class i)) f s) (fun_ext (λ t. rest_cons o before n i t h))
      ∙ least_again (rest (suc i)) (size_at o before i) (need_of_class (class i)) s ∙ sym (rest_cons o before n i s h)

  settled_none : (i : ℕ) → Settled i 16
  unfolding need_of_class least
  settled_none i s = refl

  -- where a class does not change the costs, its need changes nothing
  calm : (i last x : ℕ) → Settled i last → changes last x ≡ false → Settled i x
  unfolding changes pick need_of_class allowed may_use
  calm i last x d e = go (eqb x 16) refl (eqb x last) refl (eqb x 15) refl (eqb last 0) refl e
    where
      alike : (y : ℕ) → eqb x y ≡ true → Settled i y → Settled i x
      alike y q g = subst (Settled i) (sym (eqb-true x y q)) g

      go : (a : Bool) → eqb x 16 ≡ a → (b : Bool) → eqb x last ≡ b → (c : Bool) → eqb x 15 ≡ c → (f : Bool) → eqb last 0 ≡ f
          → pick a false (pick b false (pick c (not f) true)) ≡ false → Settled i x
      go true qa b qb c qc f qf r = alike 16 qa (settled_none i)
      go false qa true qb c qc f qf r = alike last qb d
      go false qa false qb true qc true qf r = alike 15 qc (least_space (rest i) (subst (Settled i) (eqb-true last 0 qf) d))
      go false qa false qb true qc false qf r = absurd (true≢false r)
      go false qa false qb false qc f qf r = absurd (true≢false r)

  -- ---- what is known between two units

  pub record Known (i base last : ℕ) (cur : List ℕ) : Type 0 where
    pub values : CostsAre i base cur
    pub settled : Settled i last
    pub low : get_or cur 1 0 ≤ 200
    pub long : length cur ≡ 80
    pub inside : i ≤ n
    pub few : n ≤ 65535
    pub lie : 72 * n ≤ length before
    pub octets : (p : ℕ) → get_or before p 0 < 256

  pub known_none : (cur : List ℕ) → ((k : ℕ) → get_or cur k 0 ≤ 0) → length cur ≡ 80 → n ≤ 65535 → 72 * n ≤ length before
      → ((p : ℕ) → get_or before p 0 < 256) → Known n 0 16 cur
  known_none cur z l f h b =
      record {
        values = λ k h. omega (arith, z k, rest_end o before n (numbered k));
        settled = settled_none n;
        low = omega (arith, z 1);
        long = l;
        inside = omega arith;
        few = f;
        lie = h;
        octets = b;
      }

  -- ---- the rows

  pub planned_none : Planned o before n n before
  planned_none = record { costs = λ j h l. absurd (omega arith); kept = λ j q h l. refl; long = refl }

  planned_step : (i base : ℕ) (cur room after : List ℕ) → i < n → CostsAre (suc i) base cur → Planned o before n (suc i) room
      → RowKept (class i) cur room (72 * i) after → Planned o before n i after
  planned_step i base cur room after h v p s =
      record {
        costs = λ j l m t.
            test (ltb i j) (λ e. later j m t (ltb-true i j e))
            (λ e. let q = ltb-false i j e in let z : i ≡ j = omega arith in
            subst (λ (y : ℕ). TwoStandings (class y) → CostsKept o before n y after) z here t);
        kept = λ j q a b. s.kept (72 * j + q) (outside j q a b) ∙ p.kept j q a b;
        long = s.long ∙ p.long;
      }
    where
      outside : (j q : ℕ) → 65 ≤ q → q < 72 → (72 * j + q < 72 * i) ⊎ (72 * i + 65 ≤ 72 * j + q)
      outside j q a b =
          test (ltb j i) (λ e. inl (let l = ltb-true j i e in omega arith)) (λ e. inr (let l = ltb-false j i e in omega arith))

      later : (j : ℕ) → j < n → TwoStandings (class j) → suc i ≤ j → CostsKept o before n j after
      later j m t l =
          let c = p.costs j l m t in
          record {
            base = c.base;
            first_cost = λ k hk. ap (λ (y : ℕ). c.base + y) (s.kept (72 * j + k % 16) (inr (omega arith))) ∙ c.first_cost k hk;
            second_cost = λ k hk. ap (λ (y : ℕ). c.base + y) (s.kept (72 * j + second_slot (class j) k) (inr (omega arith))) ∙ c.second_cost k hk;
          }

      here : TwoStandings (class i) → CostsKept o before n i after
      here t =
          let x = class_below (tag_at before i) in
          record {
            base = base;
            first_cost = λ k hk. ap (λ (y : ℕ). base + y) (s.first_cost t k hk) ∙ v (after_first (class i) k) (below (class i) k x hk).0;
            second_cost = λ k hk. ap (λ (y : ℕ). base + y) (s.second_cost t k hk) ∙ v (after_second (class i) k) (below (class i) k x hk).1;
          }

-- ---- what follows from it

module _ {o before : List ℕ} {n i base last : ℕ} {cur : List ℕ} (v : Known o before n i base last cur) where
  -- the sums of the plan fit
  known_bound : base ≤ 1074400000
  known_bound = omega (arith, v.values 1 (omega arith), rest_most o before n v.octets (n - i) i (numbered 1) refl v.inside)

  pub known_sum : {w r : ℕ} → w ≤ 16389 → r ≤ 128 → Fits w64 (w + r) × Fits w64 (base + (w + r))
  known_sum hw hr = (omega arith, omega (arith, known_bound))

  known_low : (j : ℕ) → get_or cur j 0 ≤ 208
  known_low j =
      test (ltb j 80)
      (λ e. let h = ltb-true j 80 e in
      omega (arith, v.values j h, v.values 1 (omega arith), near (units_in o before i (n - i)) (numbered j) (numbered 1)))
      (λ e. let m = ltb-false j 80 e in omega (arith, List·getD-eq-default cur 0 (let z : length cur ≤ j = omega arith in z)))

  pub known_result : Fits w64 (base + get_or cur 1 0)
  known_result = omega (arith, known_bound, known_low 1)

  pub known_smooth : (x : ℕ) → x < 17 → Smooth x cur
  known_smooth x hx =
      let steady = steady_at (rest_from o before n i) (cost_steady (units_in o before i (n - i))) x in
      record {
        first_near = λ k hk. omega (arith, v.values k hk, v.values (after_first x k) (below x k hx hk).0, (steady k hx hk).0);
        second_near = λ k hk. omega (arith, v.values k hk, v.values (after_second x k) (below x k hx hk).1, (steady k hx hk).1);
        small = known_low;
      }

-- the row before row i lies in the room
pub record RowLies (i : ℕ) (room : List ℕ) : Type 0 where
  pub next : i ≡ suc (i - 1)
  pub start : Fits w64 (72 * (i - 1))
  pub tag : Fits w64 (72 * (i - 1) + 65)
  pub read : 72 * (i - 1) + 65 < length room
  pub costs : 72 * (i - 1) + 65 ≤ length room

pub row_lies : {o before : List ℕ} {n i base last : ℕ} {cur room : List ℕ} → Known o before n i base last cur × Planned o before n i room → 0 < i
    → RowLies i room
row_lies (v, p) h =
    record { next = omega arith; start = omega arith; tag = omega arith; read = omega arith; costs = omega arith }

-- ---- one turn of the plan: the unit before row i, which is read in the room as it then is

module _ {o before : List ℕ} {n i j base last : ℕ} {cur room : List ℕ} (e : i ≡ suc j) (v : Known o before n i base last cur)
    (p : Planned o before n i room)
    {x w : ℕ} (ex : x ≡ class_of (tag_at room j)) (ew : w ≡ size_at o room j) where
  hj : j < n
  hj = omega arith

  v' : Known o before n (suc j) base last cur
  v' = subst (λ (m : ℕ). Known o before n m base last cur) e v

  its_class : x ≡ class_of (tag_at before j)
  its_class = ex ∙ ap class_of (p.kept j 65 (omega arith) (omega arith))

  its_size : w ≡ size_at o before j
  its_size =
      ew ∙ ap₂ size_of (p.kept j 65 (omega arith) (omega arith))
      (ap₂ (λ (c s : ℕ). part_of c s (length o))
      (ap₂ count_of (p.kept j 66 (omega arith) (omega arith)) (p.kept j 67 (omega arith) (omega arith)))
      (same_start room before (72 * j) (p.kept j)))

  pub turn_near : (k m : ℕ) → k < 80 → m < 80 → least_by x cur k ≤ 8 + least_by x cur m
  turn_near k m hk hm =
      let at = least_rest o before n j base cur hj v'.values in
      rw its_class (omega (arith, at k hk, at m hm, near (units_in o before j (n - j)) (numbered k) (numbered m)))

  pub turn_planned : {after : List ℕ} → RowKept x cur room (72 * j) after → Planned o before n j after
  turn_planned {after} s =
      planned_step o before n j base cur room after hj v'.values (subst (λ (m : ℕ). Planned o before n m room) e p)
      (subst (λ (y : ℕ). RowKept y cur room (72 * j) after) its_class s)

  pub turn_known : {r last' : ℕ} {after : List ℕ} → Turned last x cur r last' after → Known o before n j (base + (w + r)) last' after
  turn_known {r} {last'} {after} t =
      test (changes last x)
      (λ q. more (λ k hk. omega (arith, its_size, rw its_class at ((t.moved q).1 k hk), least_rest o before n j base cur hj v'.values k hk))
      (rw ((t.moved q).0 ∙ its_class) (settled_new o before n j hj)))
      (λ q. let d = subst (Settled o before n (suc j)) its_class (calm o before n (suc j) last x v'.settled q) in
      more (λ k hk. rw (t.still q).2 (omega (arith, its_size, (t.still q).0, v'.values k hk, skip-rest o before n j hj d (numbered k))))
      (rw (t.still q).1 (settled-skip o before n j hj d last v'.settled)))
    where
      more : CostsAre o before n j (base + (w + r)) after → Settled o before n j last' → Known o before n j (base + (w + r)) last' after
      more values settled =
          record {
            values = values;
            settled = settled;
            low = t.low;
            long = t.long ∙ v.long;
            inside = omega arith;
            few = v.few;
            lie = v.lie;
            octets = v.octets;
          }

pub plan_end : {o before : List ℕ} {n i base last : ℕ} {cur room : List ℕ} {r : ℕ} → i ≤ 0 → Known o before n i base last cur
    → Planned o before n i room → r ≡ base + get_or cur 1 0
    → (r ≡ cost (units_in o before 0 n) fresh.sets) × Planned o before n 0 room
plan_end {o} {before} {n} {i} {base} {last} {cur} {room} h v p er =
    let e : i ≡ 0 = omega arith in
    let z : n - 0 ≡ n = omega arith in (
      er ∙ subst (λ (m : ℕ). CostsAre o before n m base cur) e v.values 1 (omega arith)
          ∙ ap₂ (λ (m : ℕ) (s : Sets). cost (units_in o before 0 m) s) z fresh_number,
      subst (λ (m : ℕ). Planned o before n m room) e p,
    )
