-- The runs of a string one after the other, for C: a position of `runs`, with the state's fields laid out for C.
use Rattle.std.specs.Prelude.{ℕ, not, List, eqb}
use Rattle.runs.specs.Steps.{position, first_position, next_run_of}
use Rattle.run_lists.specs.declared.RunsStep.{RunsStep}
use Rattle.runs.specs.declared.stepping.RunPosition.{RunPosition}
use Rattle.state.specs.Directions.{directions}
use Rattle.state.specs.State.{sets, state}
use Rattle.positions.specs.Stepping.{flag_of}
use Rattle.positions.specs.declared.running.RunReader.{RunReader}
use Rattle.positions.specs.declared.running.RunHanded.{RunHanded}
use Rattle.positions.specs.declared.running.RunsHanded.{RunsHanded}

-- a flag is read as yes wherever it is not 0
unfoldable pub position_in : RunReader → RunPosition
position_in p =
    position p.place
    (state (sets p.gl p.gr) (directions p.depth p.levels (not (eqb p.marked 0)) (not (eqb p.texted 0))))
    (not (eqb p.checked 0))

unfoldable pub packed_runs : RunPosition → RunReader
packed_runs p =
    record {
      levels = p.state.directions.levels;
      place = p.place;
      gl = p.state.sets.gl;
      gr = p.state.sets.gr;
      depth = p.state.directions.depth;
      marked = flag_of p.state.directions.marked;
      texted = flag_of p.state.directions.texted;
      checked = flag_of p.checked;
    }

-- a reader of runs at the start of a string
abbrev pub opened_runs : RunReader
opened_runs = packed_runs first_position

-- the step of a reader of runs
unfoldable pub next_run_handed : List ℕ → RunReader → RunHanded
next_run_handed s p =
    let t = next_run_of s (position_in p) in
    record { reader = packed_runs t.position; run = t.run }

-- what a step of several runs gives
unfoldable pub handed_of : RunsStep → RunsHanded
handed_of t = record { reader = packed_runs t.position; answer = t.answer }
