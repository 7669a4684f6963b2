-- The laws of the cost and the writing, by induction on the units: the cost rises by no more than a designation's price (`cost_steady`),
-- and the writing has as many octets as the cost says (`writing_length`). A unit has as many octets on either side (`size_side`).
use Rattle.element.proofs.Names.{arith, ◌≡◌, refl, List, [], ◌∷◌, Option, none, some, length, length-append, test, Side, GL, GR, Standing, Sets}
use Rattle.grammar.specs.Units.{TextUnit, char, space, control, ext, wide, octets, designation}
use Rattle.shortest.specs.Writing.{price, need, unit_size, cost, choose, after, designated, writing}
use Rattle.shortest.proofs.Needs.{Steady, least_steady, spent, least_chosen}

pub designation_length : (p : Standing) → length (designation p) ≡ price p
unfolding price
designation_length p = refl

pub size_side : (d : Side) (u : TextUnit) → length (octets d u) ≡ unit_size u
unfolding unit_size octets
size_side GL u = refl
size_side GR (char c k) = test (wide c) (λ e. rw e) (λ e. rw e)
size_side GR space = refl
size_side GR (control x) = refl
size_side GR (ext e xs) = refl

pub cost_steady : (us : List TextUnit) → Steady (cost us)
unfolding cost
cost_steady [] p s = omega arith
cost_steady (u ∷ us) p s = omega (arith, least_steady (need u) _ (cost_steady us) p s)

pub spent_length : (o : Option Standing) → length (designated o) ≡ spent o
spent_length none = refl
spent_length (some p) = designation_length p

pub writing_length : (us : List TextUnit) (s : Sets) → length (writing us s) ≡ cost us s
unfolding writing cost
writing_length [] s = refl
writing_length (u ∷ us) s =
    simp (length-append, spent_length, size_side)
    (omega (arith, least_chosen (need u) (cost us) s, writing_length us (after (choose (need u) (cost us) s) s)))
