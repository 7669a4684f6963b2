-- The runs of a string, and what is answered of each (rules R1, R3 to R5).
use Rattle.std.specs.Prelude.{ℕ, zero, suc, ◌-◌, List, [], ◌∷◌, eqb, length}
use Rattle.base.specs.Answers.{answer, refused_at}
use Rattle.base.specs.Choice.{pick}
use Rattle.base.specs.Direction as direction
use Rattle.base.specs.Refusal as refusal
use Rattle.base.specs.declared.Answer.{Answer}
use Rattle.charset.specs.Charsets.{form_94x94, form_of}
use Rattle.grammar.specs.Reading.{check_of}
use Rattle.state.specs.Directions.{in_force_of}
use Rattle.pieces.specs.Pieces.{is_run, pieces_of, set_in}
use Rattle.runs.specs.declared.Bounds.{Bounds}
use Rattle.pieces.specs.Pieces.{Piece}

-- the runs among pieces
unfoldable pub runs_in : List Piece → List Piece
runs_in [] = []
runs_in (p ∷ ps) = pick (is_run p.kind) (p ∷ runs_in ps) (runs_in ps)

-- the runs of a string
unfoldable pub runs_of : List ℕ → List Piece
runs_of s = runs_in (pieces_of s)

-- how many octets a character of a set has
unfoldable pub width_of : ℕ → ℕ
width_of c = pick (eqb (form_of c) form_94x94) 2 1

abbrev pub bounds : ℕ → ℕ → ℕ → ℕ → ℕ → Answer → Bounds
bounds start end set width direction a =
    record { start = start; end = end; set = set; width = width; direction = direction; answer = a }

-- a run of a string of n octets, with what is in force for it (rule R3) and its answer (rule R5). Text changes neither the sets nor the open
-- directions, so the state after the run's first element has what is in
-- force for all of it.
unfoldable pub shown_of : ℕ → Piece → Bounds
shown_of n p =
    bounds p.start p.end (set_in p) (width_of (set_in p)) (in_force_of p.state.directions)
    (answer refusal.accepted n (p.end - p.start))

-- no run: an empty part at place 0, set and width 0, no direction, and a refusal (rule R5)
abbrev pub no_run : Answer → Bounds
no_run a = bounds 0 0 0 0 direction.none a

-- the k-th of runs, counted from 0; past the last 11 (rule R4)
unfoldable pub nth_run_of : ℕ → ℕ → List Piece → Bounds
nth_run_of n k [] = no_run (refused_at refusal.bad_unit 0)
nth_run_of n zero (p ∷ ps) = shown_of n p
nth_run_of n (suc k) (p ∷ ps) = nth_run_of n k ps

-- the k-th run of a string, where it is accepted, and else its refusal (rule R4)
unfoldable pub run_at : List ℕ → ℕ → Bounds
run_at s k = pick (eqb (check_of s).number refusal.accepted) (nth_run_of (length s) k (runs_of s)) (no_run (check_of s))
