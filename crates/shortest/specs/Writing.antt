-- The writer's choice: what a unit needs, what the shortest writing costs, and that writing.
use Rattle.std.specs.Prelude.{ℕ, ◌+◌, min, ◌≡◌, Bool, true, false, cond, ◌||◌, List, [], ◌∷◌, ◌++◌, eqb, leb, length}
use Rattle.std.proofs.Math.Option.{Option, none, some}
use Rattle.charset.specs.declared.Side.{Side, TheVariants.GL, TheVariants.GR}
use Rattle.charset.specs.Charsets.{allowed}
use Rattle.state.specs.State.{Standing, on, get, put, fresh}
use Rattle.state.specs.declared.Sets.{Sets}
use Rattle.grammar.specs.Reading.{Octets}
use Rattle.grammar.specs.Units.{TextUnit, char, space, control, ext, octets, designation, good}

-- a set stands on a side already
unfoldable pub stands : Standing → Sets → Bool
stands p s = eqb (get p.side s) p.set

-- the octets of its designation
unfoldable pub price : Standing → ℕ
price p = length (designation p)

-- what has to stand for a unit: nothing, or one of two, the preferred one first
pub data Need : Type 0 where
  free : Need
  either : Standing → Standing → Need

-- a need that is met asks for no designation (rule W2)
unfoldable pub met : Need → Sets → Bool
met free s = true
met (either a b) s = stands a s || stands b s

-- where a set may stand, GL first (rule W4)
abbrev pub places_of : Bool → Bool → ℕ → Need
places_of true true c = either (on GL c) (on GR c)
places_of true false c = either (on GL c) (on GL c)
places_of false r c = either (on GR c) (on GR c)

-- what a unit needs (rule W2); a space is served by either set of one octet that may stand in GL, set 0 first (rule W4)
unfoldable pub need : TextUnit → Need
need (char c k) = places_of (allowed GL c) (allowed GR c) c
need space = either (on GL 0) (on GL 2)
need (control x) = free
need (ext e xs) = free

-- what a designation costs, and what follows it, where f is the least cost of what follows
abbrev pub via : Standing → (Sets → ℕ) → Sets → ℕ
via p f s = price p + f (put p s)

-- the least cost of a need and what follows it: no designation where the need is met
unfoldable pub least : Need → (Sets → ℕ) → Sets → ℕ
least free f s = f s
least (either a b) f s = cond (met (either a b) s) (f s) (min (via a f s) (via b f s))

-- the octets of a unit, the same on either side
unfoldable pub unit_size : TextUnit → ℕ
unit_size u = length (octets GL u)

-- the octets of the shortest writing from sets in force
unfoldable pub cost : List TextUnit → Sets → ℕ
cost [] s = 0
cost (u ∷ us) s = unit_size u + least (need u) (cost us) s

-- what to designate for a need: nothing where it is met, and the preferred one where it costs no more
unfoldable pub choose : Need → (Sets → ℕ) → Sets → Option Standing
choose free f s = none
choose (either a b) f s = cond (met (either a b) s) none (cond (leb (via a f s) (via b f s)) (some a) (some b))

-- the sets in force after it
abbrev pub after : Option Standing → Sets → Sets
after none s = s
after (some p) s = put p s

-- its octets
abbrev pub designated : Option Standing → List ℕ
designated none = []
designated (some p) = designation p

-- the side on which a unit is written: the first of the two that stands, so GL where the set stands on both (rule W3)
unfoldable pub used : Need → Sets → Side
used free s = GL
used (either a b) s = cond (stands a s) a.side b.side

-- the writer's string
unfoldable pub writing : List TextUnit → Sets → List ℕ
writing [] s = []
writing (u ∷ us) s =
    let o = choose (need u) (cost us) s in
    designated o ++ (octets (used (need u) (after o s)) u ++ writing us (after o s))

-- from the fresh state: the shortest writing of units, and its octets
abbrev pub shortest_of : List TextUnit → List ℕ
shortest_of us = writing us fresh.sets

abbrev pub shortest_count : List TextUnit → ℕ
shortest_count us = cost us fresh.sets

-- units that all have a property, and units that all may stand in a writing
abbrev pub Every : (TextUnit → Type 0) → List TextUnit → Type 0
Every P [] = Unit {0}
Every P (u ∷ us) = P u × Every P us

abbrev pub Good : List TextUnit → Type 0
Good us = Every (λ u. good u ≡ true) us

-- what a segment holds is octets
abbrev pub Contents : TextUnit → Type 0
Contents (char c k) = Unit {0}
Contents space = Unit {0}
Contents (control x) = Unit {0}
Contents (ext e xs) = Octets xs
