-- No string of a reading is shorter than its cost (`lower`): by induction on how it reads, since a designation saves no more than its
-- price and a unit that is shown has its need met (`shows_met`). Once a need is met its unit may be shown on the side that is used
-- (`met_shows`).
use Rattle.element.proofs.Names.{◌≡◌, refl, sym, ◌∙◌, Bool, true, false, cond, ◌||◌, or-true, List, ⊎_elim, ℕ, ◌≤◌, arith, length, length-append}
use Rattle.element.proofs.Names.{off, from-tests, form_of, allowed, eqb, eqb-true, eq-eqb, Side, GL, GR, Sets, get}
use Rattle.base.proofs.Bools.{or_cases}
use Rattle.grammar.specs.Grammar.{Shows, Reads, done, designate, show, Legal}
use Rattle.grammar.proofs.Agrees.{put_legal}
use Rattle.grammar.specs.Units.{wide, TextUnit, char, space, control, ext, octets, designation, good}
use Rattle.shortest.proofs.Sets.{space_sets, some_side}
use Rattle.shortest.specs.Writing.{stands, met, need, places_of, cost, used}
use Rattle.shortest.proofs.Needs.{least_met}
use Rattle.shortest.proofs.Costs.{designation_length, size_side, cost_steady}

-- a unit that may be shown has its need met
pub shows_met : (u : TextUnit) (d : Side) (s : Sets) → Legal s → Shows u d s → met (need u) s ≡ true
unfolding need met stands
shows_met (char c k) d s l h = go d h _ _ refl refl
  where
    go : (d : Side) → get d s ≡ c → (x y : Bool) → allowed GL c ≡ x → allowed GR c ≡ y → met (places_of x y c) s ≡ true
    go GL e true true p q = rw (eq-eqb s.gl c e)
    go GL e true false p q = rw (eq-eqb s.gl c e)
    go GL e false y p q = off (sym p ∙ (rw e at l.left))
    go GR e x false p q = off (sym q ∙ (rw e at l.right))
    go GR e true true p q = rw (eq-eqb s.gr c e) (or-true (eqb s.gl c))
    go GR e false true p q = rw (eq-eqb s.gr c e)
shows_met space d s l h = space_sets s.gl l.left h
shows_met (control x) d s l h = refl
shows_met (ext e xs) d s l h = refl

-- no string of a reading is shorter than its cost
pub lower : {s : Sets} {t : List ℕ} {us : List TextUnit} → Legal s → Reads s t us → cost us s ≤ length t
unfolding cost
lower l done = omega arith
lower {s} l (designate {t = t} {us = us} p a r) =
    omega (arith, lower (put_legal p s a l) r, cost_steady us p s, length-append (designation p) t, designation_length p)
lower {s} l (show {t = t} {us = us} u d g h r) =
    omega (arith, lower l r, least_met _ (cost us) s (shows_met u d s l h), length-append (octets d u) t, size_side d u)

-- the set of a good character may stand on some side
pub good_side : (c k : ℕ) → good (char c k) ≡ true → (allowed GL c || allowed GR c) ≡ true
unfolding good
good_side c k g = some_side c (search from-tests)

-- a unit whose need is met may be shown on the side it is used on
pub met_shows : (u : TextUnit) (s : Sets) → met (need u) s ≡ true → Shows u (used (need u) s) s
unfolding need met stands used wide form_of
met_shows (char c k) s e = go (allowed GL c) _ e
  where
    pick : (d d' : Side) (x : Bool) → eqb (get d s) c ≡ x → (x || eqb (get d' s) c) ≡ true → get (cond x d d') s ≡ c
    pick d d' true p q = eqb-true _ c p
    pick d d' false p q = eqb-true _ c q

    go : (x y : Bool) → met (places_of x y c) s ≡ true → get (used (places_of x y c) s) s ≡ c
    go true true q = pick GL GR _ refl q
    go true false q = pick GL GL _ refl q
    go false y q = pick GR GR _ refl q
met_shows space s e = ⊎_elim (λ q. rw (eqb-true s.gl 0 q)) (λ q. rw (eqb-true s.gl 2 q)) (or_cases _ _ e)
met_shows (control x) s e = tt
met_shows (ext d xs) s e = tt
