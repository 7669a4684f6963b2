-- The parts of a shape's definition that text, segments and control sequences share.
use Rattle.std.specs.Prelude.{ℕ, Bool, List, [], ◌∷◌, Result, Ok, Err}
use Rattle.base.specs.Refusal as refusal
use Rattle.base.specs.declared.refusal.Refusal.{Refusal, TheVariants.Cut}
use Rattle.charset.specs.declared.Side.{Side}
use Rattle.state.specs.Directions.{counts_as_text}
use Rattle.state.specs.declared.elements.Part.{Part}
use Rattle.state.specs.declared.State.{State}
use Rattle.state.specs.declared.elements.Refused.{Refused as CodeRefused}
use Rattle.state.specs.declared.elements.Shape.{Shape as CodeShape}
use Rattle.state.specs.declared.elements.Shape.TheVariants.{Ends as CodeEnds, Designates as CodeDesignates, Gives as CodeGives}
use Rattle.state.specs.declared.elements.Element.{Element as CodeElement}
use Rattle.state.specs.declared.elements.Element.TheVariants.{End as CodeEnd, Silent as CodeSilent, Found as CodeFound}

-- What stands at a place before the direction rule is asked: nothing; a refusal, by its number and by how far its octet is from the start of the element
-- (rule N2); a designation, by its octets, and the set that it puts on a side; or a unit.
pub data Shape : Type 0 where
  Ends : Shape
  Refuses : ℕ → ℕ → Shape
  Designates : ℕ → Side → ℕ → Shape
  Gives : Part → Shape

-- An element: none; a refusal likewise; one that gives no unit, by its octets and the state after it; or a unit and the state after it.
pub data Element : Type 0 where
  End : Element
  Refused : ℕ → ℕ → Element
  Silent : ℕ → State → Element
  Found : Part → State → Element

-- these as the code answers them, where each reason has a number
abbrev pub shape_by : {R : Type 0} → (R → ℕ) → Result CodeShape (CodeRefused R) → Shape
shape_by number (Ok CodeEnds) = Ends
shape_by number (Ok (CodeDesignates k d c)) = Designates k d c
shape_by number (Ok (CodeGives p)) = Gives p
shape_by number (Err e) = Refuses (number e.0) e.1

abbrev pub element_by : {R : Type 0} → (R → ℕ) → Result CodeElement (CodeRefused R) → Element
element_by number (Ok CodeEnd) = End
element_by number (Ok (CodeSilent k st)) = Silent k st
element_by number (Ok (CodeFound p st)) = Found p st
element_by number (Err e) = Refused (number e.0) e.1

-- and where the reason is a refusal
abbrev pub shape_seen : Result CodeShape (CodeRefused Refusal) → Shape
shape_seen = shape_by refusal.number_of

abbrev pub element_seen : Result CodeElement (CodeRefused Refusal) → Element
element_seen = element_by refusal.number_of

-- a cut after so many octets
abbrev pub cut_after : ℕ → CodeRefused Refusal
cut_after k = record { 0 = Cut; 1 = k }

-- kind, set, code, octets before the unit's own, the unit's octets, whether it is text for the direction rule
abbrev pub part : ℕ → ℕ → ℕ → ℕ → ℕ → Bool → Part
part kind set code skip octets text =
    record { kind = kind; set = set; code = code; skip = skip; octets = octets; text = text }

-- a unit whose octets are the whole element
abbrev pub unit : ℕ → ℕ → ℕ → ℕ → Shape
unit kind set code octets = Gives (part kind set code 0 octets (counts_as_text kind 0))

-- the octet of an element that stands after k others, and those after it; where there is none the element is cut, and the place is that of the
-- missing octet, which is the string's length (rules E1j, N2)
unfoldable pub next : ℕ → List ℕ → (ℕ → List ℕ → Shape) → Shape
next k [] f = Refuses refusal.cut k
next k (b ∷ t) f = f b t
