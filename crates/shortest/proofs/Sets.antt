-- Rules of all fifteen sets, each by one computed test that is carried to each set (`up_to_lem`).
use Rattle.element.proofs.Names.{ℕ, ◌<◌, ◌≡◌, refl, true, false, ◌||◌, ◌&&◌, not, eqb, up_to_lem, GL, GR, no_set, may_use, allowed, form_of}
use Rattle.base.proofs.Bools.{up_to_where}
use Rattle.charset.proofs.Laws.{allowed_below}
use Rattle.grammar.specs.Units.{wide}

-- a one-octet set in GL is 0 or 2
pub space_sets : (c : ℕ) → allowed GL c ≡ true → wide c ≡ false → (eqb c 0 || eqb c 2) ≡ true
unfolding allowed may_use wide form_of
space_sets c a w =
    up_to_where no_set (λ m. allowed GL m && not (wide m)) (λ m. eqb m 0 || eqb m 2) refl c (allowed_below GL c a) (rw (a, w))

-- each of the fifteen may stand somewhere
pub some_side : (c : ℕ) → c < no_set → (allowed GL c || allowed GR c) ≡ true
unfolding allowed may_use
some_side c h = up_to_lem no_set (λ m. allowed GL m || allowed GR m) refl c h
