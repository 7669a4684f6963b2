-- The laws of a unit's need. What comes first keeps the cost steady (`least_steady`): one more designation saves no more than its price,
-- by four cases of whether the need is met before and after it. The choice costs the least (`least_chosen`) and meets the need
-- (`chosen_met`), and a need that is met costs nothing (`least_met`).
use Rattle.element.proofs.Names.{ℕ, ◌+◌, ◌≤◌, ◌<◌, min, arith, ◌≡◌, refl, sym, ap, ◌∙◌, Bool, true, false, cond, or-true, ⊎_elim, Option, none}
use Rattle.element.proofs.Names.{some, eqb, leb, eqb-true, eq-eqb, leb-true, leb-false, off, cond_by, Side, GL, GR, Standing, on, get, put, Sets}
use Rattle.base.proofs.Bools.{or_cases, or_none}
use Rattle.state.specs.State.{put'}
use Rattle.shortest.specs.Writing.{stands, price, Need, free, either, met, least, choose, after, via}

-- ---- sets put on a side

-- once p is put, it stands
pub put_stands : (p : Standing) (s : Sets) → stands p (put p s) ≡ true
unfolding put stands
put_stands p s = go p.side
  where
    go : (d : Side) → eqb (get d (put' d p.set s)) p.set ≡ true
    go GL = eq-eqb _ p.set refl
    go GR = eq-eqb _ p.set refl

-- a place that stands only once p is put is p
pub stands_new : (a p : Standing) (s : Sets) → stands a s ≡ false → stands a (put p s) ≡ true → a ≡ p
unfolding put stands
stands_new a p s = go a.side p.side a.set p.set
  where
    go : (d e : Side) (m n : ℕ) → eqb (get d s) m ≡ false → eqb (get d (put' e n s)) m ≡ true → on d m ≡ on e n
    go GL GL m n h k = ap (on GL) (sym (eqb-true n m k))
    go GL GR m n h k = off (sym h ∙ k)
    go GR GL m n h k = off (sym h ∙ k)
    go GR GR m n h k = ap (on GR) (sym (eqb-true n m k))

-- f rises by no more than a designation's price
abbrev pub Steady : (Sets → ℕ) → Type 0
Steady f = (p : Standing) (s : Sets) → f s ≤ via p f s

-- a put before one to the same side is lost, and puts to two sides change places
put_over : (f : Sets → ℕ) → Steady f → (a p : Standing) (s : Sets) → f (put a s) ≤ price p + f (put a (put p s))
unfolding put
put_over f st a p s = go a.side p.side a.set p.set
  where
    go : (d e : Side) (m n : ℕ) → f (put' d m s) ≤ price (on e n) + f (put' d m (put' e n s))
    go GL GL m n = omega arith
    go GR GR m n = omega arith
    go GL GR m n = st (on GR n) (put' GL m s)
    go GR GL m n = st (on GL n) (put' GR m s)

-- a need before what f says keeps that
pub least_steady : (n : Need) (f : Sets → ℕ) → Steady f → Steady (least n f)
unfolding least met
least_steady free f st p s = st p s
least_steady (either a b) f st p s = go (met (either a b) s) (met (either a b) (put p s)) refl refl
  where
    go : (t t' : Bool) → met (either a b) s ≡ t → met (either a b) (put p s) ≡ t'
        → cond t (f s) (min (via a f s) (via b f s)) ≤ price p + cond t' (f (put p s)) (min (via a f (put p s)) (via b f (put p s)))
    go true true x y = st p s
    go true false x y = omega (arith, st p s, st a (put p s), st b (put p s))
    go false false x y = omega (arith, put_over f st a p s, put_over f st b p s)
    go false true x y =
        let n = or_none _ _ x in
        ⊎_elim
        (λ e. omega (arith, ap (λ (c : Standing). via c f s) (stands_new a p s n.0 e)))
        (λ e. omega (arith, ap (λ (c : Standing). via c f s) (stands_new b p s n.1 e)))
        (or_cases _ _ y)

abbrev pub spent : Option Standing → ℕ
spent none = 0
spent (some p) = price p

-- what is chosen for a need: nothing where it is met, else the first place, or the second where that costs less
pub data Chose (a b : Standing) (f : Sets → ℕ) (s : Sets) : Option Standing → Type 0 where
  nothing : met (either a b) s ≡ true → Chose a b f s none
  the_first : met (either a b) s ≡ false → via a f s ≤ via b f s → Chose a b f s (some a)
  the_second : met (either a b) s ≡ false → via b f s < via a f s → Chose a b f s (some b)

pub chose : (a b : Standing) (f : Sets → ℕ) (s : Sets) → Chose a b f s (choose (either a b) f s)
unfolding choose
chose a b f s =
    cond_by (Chose a b f s) (met (either a b) s) nothing
    (λ e. cond_by (Chose a b f s) (leb (via a f s) (via b f s)) (λ l. the_first e (leb-true _ _ l)) (λ l. the_second e (leb-false _ _ l)))

-- the choice costs the least
pub least_chosen : (n : Need) (f : Sets → ℕ) (s : Sets) → least n f s ≡ spent (choose n f s) + f (after (choose n f s) s)
unfolding least choose
least_chosen free f s = omega arith
least_chosen (either a b) f s = go (chose a b f s)
  where
    go : {o : Option Standing} → Chose a b f s o → least (either a b) f s ≡ spent o + f (after o s)
    go (nothing e) = rw e (omega arith)
    go (the_first e l) = rw e (omega (arith, l))
    go (the_second e l) = rw e (omega (arith, l))

-- once what was chosen is designated, the need is met
pub chosen_met : (n : Need) (f : Sets → ℕ) (s : Sets) → met n (after (choose n f s) s) ≡ true
unfolding met choose
chosen_met free f s = refl
chosen_met (either a b) f s = go (chose a b f s)
  where
    go : {o : Option Standing} → Chose a b f s o → met (either a b) (after o s) ≡ true
    go (nothing e) = e
    go (the_first e l) = rw (put_stands a s)
    go (the_second e l) = rw (put_stands b s) (or-true (stands a (put b s)))

-- where the need is met the least cost is the rest's
pub least_met : (n : Need) (f : Sets → ℕ) (s : Sets) → met n s ≡ true → least n f s ≡ f s
unfolding least met
least_met free f s e = refl
least_met (either a b) f s e = rw e
