-- The record that the X11R5 writer refuses (rule X6). Its number and place are those of the first record that is refused (`offence`), and there is none
-- exactly where the list has a reading of good units that X11R5 has (`fine_units`, `units_fine`): by induction on the list, where each record is not refused,
-- or is refused by 11 or 15 (`record_verdict`).
use Rattle.element.proofs.Names.{ℕ, zero, suc, ◌+◌, ◌<◌, arith, ◌≡◌, refl, sym, ap, ap₂, ◌∙◌, subst, true, false, List, [], ◌∷◌, Option, none}
use Rattle.element.proofs.Names.{some, Option·some-injective, ◌⊎◌, inl, inr, ◌↔◌, eqb, ne_eqb, ltb, ltb-true, length, UnitRecord, clash, test, tested}
use Rattle.element.proofs.Names.{cond_by}
use Rattle.base.specs.Refusal as refusal
use Rattle.grammar.specs.Records.{unit_read, prepend, list_reading}
use Rattle.grammar.specs.Units.{TextUnit, good}
use Rattle.shortest.specs.Records.{own, Finding, fine, faulty}
use Rattle.shortest.specs.Writing.{Good}
use Rattle.x11r5.specs.Outcome.{refusal_at, FirstRefused}
use Rattle.x11r5.specs.Records.{record_refusal, on_refusal, first_refused}
use Rattle.x11r5.specs.Theorems.{Supported}
use Rattle.x11r5.specs.Writing.{unsupported_unit}

-- ---- one record

data Verdict : Option TextUnit → ℕ → Type 0 where
  serves : {u : TextUnit} → good u ≡ true → unsupported_unit u ≡ false → Verdict (some u) refusal.accepted
  refuses : {x : Option TextUnit} {n : ℕ} → (n ≡ refusal.bad_unit) ⊎ (n ≡ refusal.unsupported) → Verdict x n

record_verdict : (x : Option TextUnit) → Verdict x (record_refusal x)
unfolding record_refusal
record_verdict none = refuses (inl refl)
record_verdict (some u) =
    cond_by (Verdict (some u)) (good u)
    (λ g. cond_by (Verdict (some u)) (unsupported_unit u) (λ _. refuses (inr refl)) (λ n. serves g n))
    (λ _. cond_by (Verdict (some u)) (eqb (own u) refusal.bad_segment) (λ _. refuses (inr refl)) (λ _. refuses (inl refl)))

-- a number that refuses is not 0
pub not_zero : {n : ℕ} → (n ≡ refusal.bad_unit) ⊎ (n ≡ refusal.unsupported) → n ≡ refusal.accepted → ⊥
not_zero (inl e) z = omega arith
not_zero (inr e) z = omega arith

-- ---- the first that is refused

-- the check of records that are counted from k: none is refused, and they have a reading; or the first that is refused is record i of them
data Checked (o : List ℕ) (rs : List UnitRecord) (k : ℕ) : Finding → Type 0 where
  no_one : (us : List TextUnit) → list_reading o rs ≡ some us → Good us → Supported us
      → ((i : ℕ) → i < length rs → refusal_at o rs i ≡ refusal.accepted) → Checked o rs k fine
  the_first : {n m : ℕ} (i : ℕ) → m ≡ k + i → FirstRefused o rs n i → Checked o rs k (faulty n m)

checked : (o : List ℕ) (rs : List UnitRecord) (k : ℕ) → Checked o rs k (first_refused o rs k)
unfolding first_refused list_reading
checked o [] k = no_one [] refl tt tt (λ i h. absurd (omega arith))
checked o (r ∷ rs) k = go refl refl (record_verdict (unit_read o r)) (checked o rs (suc k))
  where
    later : (u : TextUnit) → unit_read o r ≡ some u → good u ≡ true → unsupported_unit u ≡ false
        → record_refusal (unit_read o r) ≡ refusal.accepted → {c : Finding} → Checked o rs (suc k) c → Checked o (r ∷ rs) k c
    later u e g s z (no_one us q h w f) = no_one (u ∷ us) (ap₂ prepend e q) (g, h) (s, w) each
      where
        each : (i : ℕ) → i < suc (length rs) → refusal_at o (r ∷ rs) i ≡ refusal.accepted
        each zero h = z
        each (suc i) h = f i (omega arith)
    later u e g s z (the_first {n} {m} i q f) =
        the_first {n = n} {m = m} (suc i) (omega (arith, q))
        (record { inside = omega (arith, f.inside); number = f.number; refused = f.refused; before = earlier })
      where
        earlier : (j : ℕ) → j < suc i → refusal_at o (r ∷ rs) j ≡ refusal.accepted
        earlier zero h = z
        earlier (suc j) h = f.before j (omega arith)

    go : {x : Option TextUnit} {n : ℕ} {c : Finding} → unit_read o r ≡ x → record_refusal (unit_read o r) ≡ n → Verdict x n → Checked o rs (suc k) c
        → Checked o (r ∷ rs) k (on_refusal n k c)
    go e z (serves {u} g s) c = later u e g s z c
    go {n = n} e z (refuses h) c =
        rw (ne_eqb n refusal.accepted (not_zero h))
        (the_first {n = n} {m = k} 0 (omega arith) (record { inside = omega arith; number = h; refused = z; before = λ j l. absurd (omega arith) }))

-- the first that is refused is one
one_first : {o : List ℕ} {rs : List UnitRecord} {n m i j : ℕ} → FirstRefused o rs n i → FirstRefused o rs m j → (n ≡ m) × (i ≡ j)
one_first {o} {rs} {n} {m} {i} {j} f g = (sym f.refused ∙ ap (refusal_at o rs) same ∙ g.refused, same)
  where
    same : i ≡ j
    same =
        test (ltb i j) (λ e. absurd (not_zero f.number (sym f.refused ∙ g.before i (ltb-true _ _ e))))
        (λ e. test (ltb j i) (λ l. absurd (not_zero g.number (sym g.refused ∙ f.before j (ltb-true _ _ l)))) (λ l. omega tested))

-- number and place
pub offence : (o : List ℕ) (rs : List UnitRecord) (n i : ℕ) → (first_refused o rs 0 ≡ faulty n i) ↔ FirstRefused o rs n i
offence o rs n i = (λ e. told (rw e at (checked o rs 0)), λ f. tells f (checked o rs 0))
  where
    told : {i : ℕ} → Checked o rs 0 (faulty n i) → FirstRefused o rs n i
    told (the_first j e f) = subst (FirstRefused o rs n) (omega (arith, e)) f

    tells : {c : Finding} → FirstRefused o rs n i → Checked o rs 0 c → c ≡ faulty n i
    tells f (no_one us q g s h) = absurd (not_zero f.number (sym f.refused ∙ h i f.inside))
    tells f (the_first {m = k} j e g) =
        let s = one_first g f in
        ap₂ faulty s.0 (omega (arith, e, s.1))

-- ---- none that is refused

-- the units of a list with no such record
pub record Fine (o : List ℕ) (rs : List UnitRecord) : Type 0 where
  pub units : List TextUnit
  pub reading : list_reading o rs ≡ some units
  pub good_ones : Good units
  pub supported : Supported units

pub fine_units : (o : List ℕ) (rs : List UnitRecord) → first_refused o rs 0 ≡ fine → Fine o rs
fine_units o rs e = told (rw e at (checked o rs 0))
  where
    told : Checked o rs 0 fine → Fine o rs
    told (no_one us q g s h) = record { units = us; reading = q; good_ones = g; supported = s }

pub units_fine : (o : List ℕ) (rs : List UnitRecord) (us : List TextUnit) (k : ℕ) → list_reading o rs ≡ some us → Good us → Supported us
    → first_refused o rs k ≡ fine
unfolding first_refused list_reading record_refusal
units_fine o [] us k e g s = refl
units_fine o (r ∷ rs) us k e g s = go (unit_read o r) (list_reading o rs) refl refl e g s (λ vs. units_fine o rs vs (suc k))
  where
    go : (x : Option TextUnit) (y : Option (List TextUnit)) → unit_read o r ≡ x → list_reading o rs ≡ y → prepend x y ≡ some us
        → Good us → Supported us
        → ((vs : List TextUnit) → list_reading o rs ≡ some vs → Good vs → Supported vs → first_refused o rs (suc k) ≡ fine)
        → on_refusal (record_refusal (unit_read o r)) k (first_refused o rs (suc k)) ≡ fine
    go none y p q e g s f = clash (cc)
    go (some u) none p q e g s f = clash (cc)
    go (some u) (some vs) p q e g s f =
        let w : u ∷ vs ≡ us = Option·some-injective _ _ e in
        let g' : Good (u ∷ vs) = subst Good (sym w) g in
        let s' : Supported (u ∷ vs) = subst Supported (sym w) s in
        rw (p, g'.0, s'.0) (f vs q g'.1 s'.1)
