-- The number and the index that `check_records` gives are those of the first record that offends after those before it (`offence`), and
-- it gives none exactly where no record offends (`no_offence`): both from what it gives (`verdict`), by induction on the list with the
-- directions in force, and since the first is one. An offence has the number 11, 7, 8 or 9 (`numbers`).
use Rattle.element.proofs.Names.{ℕ, zero, suc, ◌+◌, ◌<◌, arith, ◌≡◌, refl, sym, ap, ap₂, ◌∙◌, subst, Bool, ◌&&◌, List, [], ◌∷◌, Option, none, some}
use Rattle.element.proofs.Names.{◌↔◌, ◌⊎◌, inl, inr, get_or, take, leb, ltb, ltb-true, pick, UnitRecord, clash, test, pick_by, cond_by, tested, undirected}
use Rattle.element.proofs.Names.{written_of, deeper_of, begun_of, reverted_of, step_of, Directions, Step, Goes, Stops}
use Rattle.base.specs.Refusal as refusal
use Rattle.grammar.specs.Units.{TextUnit, char, space, control, ext, good}
use Rattle.grammar.specs.Records.{unit_read}
use Rattle.shortest.specs.Records.{own, fault, Finding, fine, faulty, on_step, check_records}
use Rattle.shortest.specs.Offence.{step_to, directions_after, no_record, fault_at, FirstFrom, FirstOffends, NoneFrom, NoneOffends, Number}

module _ (o : List ℕ) (r : UnitRecord) (rs : List UnitRecord) (d : Directions) where
  -- a record after one whose step goes on
  fault_next : {next : Directions} → fault (unit_read o r) d ≡ Goes next → (i : ℕ) → fault_at o (r ∷ rs) d (suc i) ≡ fault_at o rs next i
  unfolding fault_at directions_after
  fault_next e i = ap (λ (x : Step). fault (unit_read o (get_or rs i no_record)) (directions_after o (take i rs) (step_to x d))) e

  first_here : {n : ℕ} → fault (unit_read o r) d ≡ Stops n → FirstFrom o (r ∷ rs) d n 0
  unfolding fault_at directions_after
  first_here e = record { inside = omega arith; offends = e; before = λ j h. absurd (omega arith) }

  first_later : {next : Directions} {n i : ℕ} → fault (unit_read o r) d ≡ Goes next → FirstFrom o rs next n i → FirstFrom o (r ∷ rs) d n (suc i)
  unfolding fault_at directions_after
  first_later {next} {n} {i} e f =
      record { inside = omega (arith, f.inside); offends = fault_next e i ∙ f.offends; before = go }
    where
      go : (j : ℕ) → j < suc i → (m : ℕ) → fault_at o (r ∷ rs) d j ≡ Stops m → ⊥
      go zero h m q = clash (cc)
      go (suc j) h m q = f.before j (omega arith) m (sym (fault_next e j) ∙ q)

-- the check of records that are counted from k: none offends, or the first that does is record i of them
data Verdict (o : List ℕ) (rs : List UnitRecord) (d : Directions) (k : ℕ) : Finding → Type 0 where
  no_one : NoneFrom o rs d → Verdict o rs d k fine
  the_first : {n m : ℕ} (i : ℕ) → m ≡ k + i → FirstFrom o rs d n i → Verdict o rs d k (faulty n m)

verdict : (o : List ℕ) (rs : List UnitRecord) (d : Directions) (k : ℕ) → Verdict o rs d k (check_records o rs k d)
unfolding check_records fault_at directions_after
verdict o [] d k = no_one (λ i h. absurd (omega arith))
verdict o (r ∷ rs) d k = go (fault (unit_read o r) d) refl (λ next. verdict o rs next (suc k))
  where
    later : {next : Directions} {c : Finding} → fault (unit_read o r) d ≡ Goes next → Verdict o rs next (suc k) c → Verdict o (r ∷ rs) d k c
    later {next} q (no_one f) = no_one none
      where
        none : NoneFrom o (r ∷ rs) d
        none zero h n w = clash (cc)
        none (suc i) h n w = f i (omega arith) n (sym (fault_next o r rs d q i) ∙ w)
    later q (the_first {n} {m} i e f) = the_first {n = n} {m = m} (suc i) (omega (arith, e)) (first_later o r rs d q f)

    go : (x : Step) → fault (unit_read o r) d ≡ x → ((next : Directions) → Verdict o rs next (suc k) (check_records o rs (suc k) next))
        → Verdict o (r ∷ rs) d k (on_step x k (λ next. check_records o rs (suc k) next))
    go (Stops n) q f = the_first {n = n} {m = k} 0 (omega arith) (first_here o r rs d q)
    go (Goes next) q f = later q (f next)

-- the first that offends is one
one_first : {o : List ℕ} {rs : List UnitRecord} {d : Directions} {n m i j : ℕ} → FirstFrom o rs d n i → FirstFrom o rs d m j → (n ≡ m) × (i ≡ j)
one_first {o} {rs} {d} {n} {m} {i} {j} f g = (cc (f.offends, g.offends, same), same)
  where
    same : i ≡ j
    same =
        test (ltb i j) (λ e. absurd (g.before i (ltb-true _ _ e) n f.offends))
        (λ e. test (ltb j i) (λ l. absurd (f.before j (ltb-true _ _ l) m g.offends)) (λ l. omega tested))

-- the place of an offending unit
pub offence : (o : List ℕ) (rs : List UnitRecord) (n i : ℕ) → (check_records o rs 0 undirected ≡ faulty n i) ↔ FirstOffends o rs n i
offence o rs n i = (λ e. told (rw e at (verdict o rs undirected 0)), λ f. tells f (verdict o rs undirected 0))
  where
    told : {i : ℕ} → Verdict o rs undirected 0 (faulty n i) → FirstOffends o rs n i
    told (the_first j e f) = subst (FirstFrom o rs _ n) (omega (arith, e)) f

    tells : {c : Finding} → FirstOffends o rs n i → Verdict o rs undirected 0 c → c ≡ faulty n i
    tells f (no_one h) = absurd (h i f.inside n f.offends)
    tells f (the_first {m = k} j e g) =
        let s = one_first g f in
        ap₂ faulty s.0 (omega (arith, e, s.1))

-- no record offends
pub no_offence : (o : List ℕ) (rs : List UnitRecord) → (check_records o rs 0 undirected ≡ fine) ↔ NoneOffends o rs
no_offence o rs = (λ e. told (rw e at (verdict o rs undirected 0)), λ h. tells h (verdict o rs undirected 0))
  where
    told : Verdict o rs undirected 0 fine → NoneOffends o rs
    told (no_one h) = h

    tells : {c : Finding} → NoneOffends o rs → Verdict o rs undirected 0 c → c ≡ fine
    tells h (no_one _) = refl
    tells h (the_first {n} i e f) = absurd (h i f.inside n f.offends)

-- ---- the numbers of an offence

-- 8 or 9 by the direction rule
data Ruled : Step → Type 0 where
  goes : {d : Directions} → Ruled (Goes d)
  stops : {n : ℕ} → (n ≡ refusal.direction) ⊎ (n ≡ refusal.too_deep) → Ruled (Stops n)

ruled_pick : (b : Bool) {x y : Step} → Ruled x → Ruled y → Ruled (pick b x y)
ruled_pick b h k = pick_by Ruled b (λ _. h) (λ _. k)

ruled : (x : Bool) (kind : ℕ) (d : Directions) → Ruled (step_of x kind d)
unfolding step_of written_of begun_of deeper_of reverted_of
ruled x kind d = search (ruled_pick, goes, stops, inl, inr) depth 9

own_number : (u : TextUnit) → Number (own u)
own_number (char c k) = inl refl
own_number space = inl refl
own_number (control x) = inl refl
own_number (ext e xs) = cond_by Number (leb 0x30 e && leb e 0x34) (λ _. inr (inl refl)) (λ _. inl refl)

pub numbers : (x : Option TextUnit) (d : Directions) (n : ℕ) → fault x d ≡ Stops n → Number n
numbers none d n e = inl (cc)
numbers (some u) d n e =
    test (good u) (λ g. step (ruled _ _ d) (rw g at e)) (λ g. subst Number (let q : own u ≡ n = cc (rw g at e) in q) (own_number u))
  where
    step : {x : Step} → Ruled x → x ≡ Stops n → Number n
    step goes e = clash (cc)
    step (stops {n = m} r) e = subst Number (let q : m ≡ n = cc in q) (inr (inr r))
