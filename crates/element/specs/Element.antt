-- One element (rule E1): its shape is a function of the octets that are left and of the sets in force, and the element of its shape and of
-- the state.
use Rattle.std.specs.Prelude.{ℕ, List, [], ◌∷◌}
use Rattle.state.specs.Directions.{step_of}
use Rattle.state.specs.State.{designated_of, directed_to}
use Rattle.state.specs.declared.Sets.{Sets}
use Rattle.state.specs.declared.State.{State}
use Rattle.state.specs.Directions.{Step, Goes, Stops}
use Rattle.state.specs.declared.elements.Part.{Part}
use Rattle.state.specs.Elements.{Shape, Ends, Refuses, Designates, Gives}
use Rattle.state.specs.Elements.{Element, End, Refused, Silent, Found}
use Rattle.element.specs.Start.{start_in, begun_by}

-- its shape, by what its first octet starts
unfoldable pub shape_of : List ℕ → Sets → Shape
shape_of [] s = Ends
shape_of (b ∷ t) s = begun_by (start_in s b) b t s

-- a unit whose step by the direction rule is known; what the rule refuses is refused at the start of the element (rule N2)
unfoldable pub stepped_of : Part → State → Step → Element
stepped_of p st (Goes d) = Found p (directed_to d st)
stepped_of p st (Stops n) = Refused n 0

-- a shape under a state: a designation changes the sets alone, and a unit the directions alone, by the direction rule, which is asked after
-- the shape (rules E11, N5)
unfoldable pub directed_of : Shape → State → Element
directed_of Ends st = End
directed_of (Refuses n o) st = Refused n o
directed_of (Designates k d c) st = Silent k (designated_of d c st)
directed_of (Gives p) st = stepped_of p st (step_of p.text p.kind st.directions)

abbrev pub element_of : List ℕ → State → Element
element_of t st = directed_of (shape_of t st.sets) st
