-- The reading of a whole string: its elements one after the other, and what they answer. What is asked of a string (its answer, its units,
-- its records, its pieces) is a fold over them.
use Rattle.std.specs.Prelude.{ℕ, zero, suc, ◌+◌, ◌-◌, ◌<◌, ◌≡◌, Bool, true, false, List, [], ◌∷◌, length, get_or, take, drop, ltb}
use Rattle.base.specs.Answers.{answer, refused_at}
use Rattle.base.specs.Choice.{pick}
use Rattle.base.specs.Limit as limit
use Rattle.base.specs.Refusal as refusal
use Rattle.base.specs.declared.Answer.{Answer}
use Rattle.element.specs.Element.{element_of}
use Rattle.state.specs.Directions.{step_of}
use Rattle.state.specs.State.{fresh}
use Rattle.state.specs.declared.State.{State}
use Rattle.state.specs.declared.directions.Directions.{Directions}
use Rattle.state.specs.Directions.{Step}
use Rattle.state.specs.declared.elements.Part.{Part}
use Rattle.state.specs.Elements.{Element, End, Refused, Silent, Found}
use Rattle.grammar.specs.Units.{TextUnit, kind_of, counts, unit_of}

-- the octets of a unit's element: those before the unit's own, and its own
abbrev pub size : Part → ℕ
size p = p.skip + p.octets

-- the elements of a string one after the other, each with the place where it starts; the last is the end or a refusal
pub data Elements : Type 0 where
  end_at : ℕ → Elements
  stopped_at : ℕ → ℕ → ℕ → Elements
  silent_at : ℕ → ℕ → State → Elements → Elements
  found_at : ℕ → Part → State → Elements → Elements

-- the element at a place, and what follows: f gives the elements after so many further octets
unfoldable pub onward : ℕ → Element → (ℕ → State → Elements) → Elements
onward at End f = end_at at
onward at (Refused n o) f = stopped_at at n o
onward at (Silent k st) f = silent_at at k st (f (k - 1) st)
onward at (Found p st) f = found_at at p st (f (size p - 1) st)

-- the elements of octets that start at a place, of which k belong to the element before and are passed
unfoldable pub elements : List ℕ → ℕ → ℕ → State → Elements
unfolding onward
elements [] k at st = end_at at
elements (b ∷ t) zero at st = onward at (element_of (b ∷ t) st) (λ k next. elements t k (at + 1) next)
elements (b ∷ t) (suc k) at st = elements t k (at + 1) st

-- those of a string, from the fresh state (rule S2)
abbrev pub elements_of : List ℕ → Elements
elements_of s = elements s 0 0 fresh

-- what elements answer after so many units: of the end 0, the length and the units, of a refusal its number and place (rules N1, N2)
unfoldable pub answer_of : ℕ → Elements → Answer
answer_of count (end_at at) = answer refusal.accepted at count
answer_of count (stopped_at at n o) = refused_at n (at + o)
answer_of count (silent_at at k st es) = answer_of count es
answer_of count (found_at at p st es) = answer_of (count + 1) es

-- the answer of a string: the limit is asked first, and then its elements (rules J1, N5)
unfoldable pub check_of : List ℕ → Answer
check_of s = pick (ltb limit.octets (length s)) (refused_at refusal.too_long 0) (answer_of 0 (elements_of s))

-- where a reading stops, and the state there
pub record Stop : Type 0 where
  pub place : ℕ
  pub state : State

abbrev pub stop : ℕ → State → Stop
stop at st = record { place = at; state = st }

-- elements under a state stop at their end, or at the start of the refused one
unfoldable pub stop_of : State → Elements → Stop
stop_of st (end_at at) = stop at st
stop_of st (stopped_at at n o) = stop at st
stop_of st (silent_at at k next es) = stop_of next es
stop_of st (found_at at p next es) = stop_of next es

-- no element is refused
unfoldable pub none_refused : Elements → Bool
none_refused (end_at at) = true
none_refused (stopped_at at n o) = false
none_refused (silent_at at k st es) = none_refused es
none_refused (found_at at p st es) = none_refused es

-- the unit of an element that starts the octets t
unfoldable pub unit_at : Part → List ℕ → TextUnit
unit_at p t = unit_of p.kind p.set p.code (take p.octets (drop p.skip t))

-- the units of elements that start the octets t
unfoldable pub units_of : List ℕ → Elements → List TextUnit
units_of t (end_at at) = []
units_of t (stopped_at at n o) = []
units_of t (silent_at at k st es) = units_of (drop k t) es
units_of t (found_at at p st es) = unit_at p t ∷ units_of (drop (size p) t) es

-- the reading of a string, in which there are no designations (rule U3)
unfoldable pub reading_of : List ℕ → List TextUnit
reading_of s = units_of s (elements_of s)

-- the step of a unit by the direction rule
abbrev pub direct : Directions → TextUnit → Step
direct d u = step_of (counts u) (kind_of u) d

abbrev pub Octets : List ℕ → Type 0
Octets s = (i : ℕ) → get_or s i 0 < 256

-- a string of octets is accepted by the reader, and reads as the units
pub record ReadAs (s : List ℕ) (us : List TextUnit) : Type 0 where
  pub octets : Octets s
  pub accepted : (check_of s).number ≡ refusal.accepted
  pub reading : reading_of s ≡ us
