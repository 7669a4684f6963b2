-- The runs of a string one after the other (rule R7): from a position the next run is shown, and where it ends the next position stands. A position is
-- a place of the string, the state there, and whether the whole string is known to be accepted.
use Rattle.std.specs.Prelude.{ℕ, zero, suc, ◌+◌, Bool, true, false, List, [], ◌∷◌, eqb, ltb, length}
use Rattle.base.specs.Answers.{answer, refused_at}
use Rattle.base.specs.Choice.{pick, from}
use Rattle.base.specs.Limit as limit
use Rattle.base.specs.Refusal as refusal
use Rattle.base.specs.declared.Answer.{Answer}
use Rattle.grammar.specs.Reading.{Elements, end_at, stopped_at, silent_at, found_at, elements, check_of}
use Rattle.state.specs.State.{fresh}
use Rattle.state.specs.declared.State.{State}
use Rattle.state.specs.Elements.{Element}
use Rattle.state.specs.Elements.{End, Refused, Silent, Found}
use Rattle.pieces.specs.Pieces.{is_run, pieces_from, state_at}
use Rattle.pieces.specs.Pieces.{Piece}
use Rattle.reader.specs.Step.{may_stand}
use Rattle.runs.specs.Runs.{shown_of, no_run}
use Rattle.runs.specs.declared.Bounds.{Bounds}
use Rattle.runs.specs.declared.stepping.RunPosition.{RunPosition}
use Rattle.runs.specs.declared.stepping.RunStep.{RunStep}

abbrev pub position : ℕ → State → Bool → RunPosition
position place st checked = record { place = place; state = st; checked = checked }

-- the first position: the fresh state (rule S2), and it is not yet known whether it is accepted
abbrev pub first_position : RunPosition
first_position = position 0 fresh false

abbrev pub run_step : RunPosition → Bounds → RunStep
run_step p run = record { position = p; run = run }

-- a refusal, and the position stays
abbrev pub stays : RunPosition → Answer → RunStep
stays p a = run_step p (no_run a)

-- a place of a string that is taken for accepted
abbrev pub run_step_to : ℕ → State → Bounds → RunStep
run_step_to place st run = run_step (position place st true) run

-- no run is left where an element is reached: 11 (rule R4); a refused element, which only a position made
-- by hand can reach, is answered by its refusal
unfoldable pub stop_at : ℕ → State → Element → RunStep
stop_at at st End = run_step_to at st (no_run (refused_at refusal.bad_unit 0))
stop_at at st (Refused n o) = run_step_to at st (no_run (refused_at n (at + o)))
stop_at at st (Silent k next) = run_step_to at st (no_run (refused_at refusal.bad_unit 0))
stop_at at st (Found p next) = run_step_to at st (no_run (refused_at refusal.bad_unit 0))

-- no run is left among elements under a state: the position is then at their end, or before the refused element
unfoldable pub last_of : State → Elements → RunStep
last_of st (end_at at) = stop_at at st End
last_of st (stopped_at at n o) = stop_at at st (Refused n o)
last_of st (silent_at at k next es) = last_of next es
last_of st (found_at at p next es) = last_of next es

-- the first run among pieces of a string of n octets; the position is then at the run's end, in the state there. Where there is none: the
-- step given
unfoldable pub first_of : ℕ → (ℕ → State) → RunStep → List Piece → RunStep
first_of n there none [] = none
first_of n there none (p ∷ ps) =
    pick (is_run p.kind) (run_step_to p.end (there p.end) (shown_of n p)) (first_of n there none ps)

-- the first run from a place and a state on
abbrev pub run_from : List ℕ → ℕ → State → RunStep
run_from s at st =
    let es = elements (from at s) 0 at st in
    first_of (length s) (λ i. state_at st es i) (last_of st es) (pieces_from s es)

-- the answer of the check, which is not asked for where a position says that it is known and accepts
unfoldable pub known_of : List ℕ → Bool → Answer
known_of s checked = pick checked (answer refusal.accepted 0 0) (check_of s)

-- runs are shown of accepted strings alone (rule R4): a position that is not known to be of an accepted string has the string checked first
unfoldable pub checked_from : List ℕ → RunPosition → RunStep
checked_from s p =
    pick (eqb (known_of s p.checked).number refusal.accepted) (run_from s p.place p.state) (stays p (known_of s p.checked))

-- the step from any position, also one made by hand: as for a reader, 1 for a string that is too long comes first, then 11 for a position that
-- cannot be
unfoldable pub next_run_of : List ℕ → RunPosition → RunStep
next_run_of s p =
    pick (ltb limit.octets (length s)) (stays p (refused_at refusal.too_long 0))
    (pick (may_stand (length s) p.place p.state) (checked_from s p) (stays p (refused_at refusal.bad_unit 0)))

-- the position after k steps
unfoldable pub position_after : List ℕ → ℕ → RunPosition
position_after s zero = first_position
position_after s (suc k) = (next_run_of s (position_after s k)).position
