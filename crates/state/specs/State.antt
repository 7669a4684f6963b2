-- The state of a reading: the sets in force and the open directions.
use Rattle.std.specs.Prelude.{ℕ}
use Rattle.charset.specs.declared.Side.{Side, TheVariants.GL, TheVariants.GR}
use Rattle.state.specs.Directions.{undirected}
use Rattle.state.specs.declared.directions.Directions.{Directions}
use Rattle.state.specs.declared.Sets.{Sets}
use Rattle.state.specs.declared.State.{State}

-- the sets in GL and GR
abbrev pub sets : ℕ → ℕ → Sets
sets gl gr = record { gl = gl; gr = gr }

abbrev pub state : Sets → Directions → State
state s d = record { sets = s; directions = d }

-- the fresh state: ASCII in GL, the right half of ISO 8859-1 in GR, no direction open (rule S2)
abbrev pub fresh : State
fresh = state (sets 0 3) undirected

-- a set on a side
pub record Standing : Type 0 where
  pub side : Side
  pub set : ℕ

abbrev pub on : Side → ℕ → Standing
on d c = record { side = d; set = c }

abbrev pub get : Side → Sets → ℕ
get GL s = s.gl
get GR s = s.gr

abbrev pub put' : Side → ℕ → Sets → Sets
put' GL c s = sets c s.gr
put' GR c s = sets s.gl c

-- the sets in force once a set stands on a side
unfoldable pub put : Standing → Sets → Sets
put p s = put' p.side p.set s

-- after a designation, which leaves the directions as they were (rule E11)
abbrev pub designated_of : Side → ℕ → State → State
designated_of d c st = state (put (on d c) st.sets) st.directions

-- after a step of the direction rule
abbrev pub directed_to : Directions → State → State
directed_to d st = state st.sets d
