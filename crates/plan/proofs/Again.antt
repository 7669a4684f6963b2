-- Where a need changes no cost: a unit whose need is that of the unit after it, a unit that needs no set, and a space before a character of
-- set 0 add only their own octets.
use Rattle.element.proofs.Names.{◌≡◌, refl, ap, ◌∙◌, Bool, true, false, cond, ◌||◌, or-true, ℕ, ◌+◌, min, arith, eqb, GL, form_of, Standing, on, put}
use Rattle.element.proofs.Names.{Sets}
use Rattle.grammar.specs.Units.{designation}
use Rattle.shortest.specs.Writing.{Need, free, either, stands, met, price, least}
use Rattle.shortest.proofs.Needs.{put_stands}

-- a need twice is that need once
pub least_again : (f : Sets → ℕ) (c : ℕ) (n : Need) (s : Sets) → least n (λ t. c + least n f t) s ≡ c + least n f s
unfolding least met
least_again f c free s = refl
least_again f c (either a b) s = go (met (either a b) s)
  where
    again : (p : Standing) → met (either a b) (put p s) ≡ true → least (either a b) f (put p s) ≡ f (put p s)
    again p e = ap (λ (t : Bool). cond t (f (put p s)) (min (price a + f (put a (put p s))) (price b + f (put b (put p s))))) e

    at_a : least (either a b) f (put a s) ≡ f (put a s)
    at_a = again a (ap (λ (x : Bool). x || stands b (put a s)) (put_stands a s))

    at_b : least (either a b) f (put b s) ≡ f (put b s)
    at_b = again b (ap (λ (x : Bool). stands a (put b s) || x) (put_stands b s) ∙ or-true (stands a (put b s)))

    go : (t : Bool)
        → cond t (c + cond t (f s) (min (price a + f (put a s)) (price b + f (put b s))))
        (min (price a + (c + least (either a b) f (put a s))) (price b + (c + least (either a b) f (put b s))))
        ≡ c + cond t (f s) (min (price a + f (put a s)) (price b + f (put b s)))
    go true = refl
    go false = rw (at_a, at_b) (omega arith)

-- a constant goes through
pub least_plus : (f : Sets → ℕ) (c : ℕ) (n : Need) (s : Sets) → least n (λ t. c + f t) s ≡ c + least n f s
unfolding least
least_plus f c free s = refl
least_plus f c (either a b) s = go (met (either a b) s)
  where
    go : (t : Bool) → cond t (c + f s) (min (price a + (c + f (put a s))) (price b + (c + f (put b s))))
        ≡ c + cond t (f s) (min (price a + f (put a s)) (price b + f (put b s)))
    go true = refl
    go false = omega arith

-- where the need of set 0 changes nothing, a space's changes nothing
pub least_space : (f : Sets → ℕ) → ((s : Sets) → least (either (on GL 0) (on GL 0)) f s ≡ f s) → (s : Sets)
    → least (either (on GL 0) (on GL 2)) f s ≡ f s
unfolding least met stands put price designation form_of
least_space f e s = go (eqb s.gl 0) refl (eqb s.gl 2)
  where
    at-2 : 3 + f (put (on GL 0) s) ≡ f (put (on GL 2) s)
    at-2 = omega (arith, e (put (on GL 2) s))

    go : (t : Bool) → eqb s.gl 0 ≡ t → (u : Bool)
        → cond (t || u) (f s) (min (3 + f (put (on GL 0) s)) (3 + f (put (on GL 2) s))) ≡ f s
    go true q u = refl
    go false q true = refl
    go false q false = omega (arith, at-2, rw q at (e s))
