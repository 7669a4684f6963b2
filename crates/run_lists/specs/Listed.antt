-- Several runs a call, into a list that the caller lends (rule R7): the runs that steps one after the other show, as many as the list has room
-- for, each stored as one word.
use Rattle.std.specs.Prelude.{ℕ, zero, suc, ◌+◌, ◌-◌, ◌*◌, ◌≤◌, ◌<◌, true, ◌≡◌, List, [], ◌∷◌, ◌++◌, map, eqb, ltb, length, drop}
use Rattle.std.proofs.lemmas.List.Edits.{sets}
use Rattle.base.specs.Answers.{answer, refused_at}
use Rattle.base.specs.Choice.{pick}
use Rattle.base.specs.Limit as limit
use Rattle.base.specs.Refusal as refusal
use Rattle.base.specs.declared.Answer.{Answer}
use Rattle.state.specs.declared.State.{State}
use Rattle.reader.specs.Step.{may_stand}
use Rattle.runs.specs.Runs.{width_of, no_run, run_at}
use Rattle.runs.specs.Steps.{position, run_from, known_of}
use Rattle.runs.specs.declared.Bounds.{Bounds}
use Rattle.run_lists.specs.declared.Stand.{Stand}
use Rattle.run_lists.specs.declared.RunsStep.{RunsStep}
use Rattle.runs.specs.declared.stepping.RunPosition.{RunPosition}

-- ---- a run as a word

-- from its lowest octet on, its start and its end in two octets each, and in one each its set, octet width and direction
abbrev pub word_of : Bounds → ℕ
word_of b = b.start + b.end * 0x10000 + (b.set * 0x100000000 + b.width * 0x10000000000 + b.direction * 0x1000000000000)

-- the part that the runs of a set have in common under a direction
abbrev pub upper_of : ℕ → ℕ → ℕ
upper_of c direction = c * 0x100000000 + width_of c * 0x10000000000 + direction * 0x1000000000000

-- a list after runs are stored: their words stand at its start, and the rest stays
unfoldable pub words_after : List Bounds → List ℕ → List ℕ
words_after bs out = map word_of bs ++ drop (length bs) out

-- ---- the runs that are given

abbrev pub runs_step : RunPosition → Answer → RunsStep
runs_step p a = record { position = p; answer = a }

-- the runs, and the position and the answer after them
pub record GivenRuns : Type 0 where
  pub runs : List Bounds
  pub step : RunsStep

abbrev pub before : Bounds → GivenRuns → GivenRuns
before b g = record { runs = b ∷ g.runs; step = g.step }

-- no run: the position and the answer
abbrev pub gives_none : RunPosition → Answer → GivenRuns
gives_none p a = record { runs = []; step = runs_step p a }

-- the answer where a step from a string of n octets shows none and k runs are given: how many they are, 0 where none is left. A refused element,
-- which only a position made by hand can reach, is answered where no run is given; else the runs before it are, and the next call answers it
unfoldable pub end_of : ℕ → ℕ → Answer → Answer
end_of n k a =
    pick (eqb k 0) (pick (eqb a.number refusal.bad_unit) (answer refusal.accepted n 0) a) (answer refusal.accepted n k)

-- the runs from a place and a state on, m at most, where k are given before them
unfoldable pub given_from : List ℕ → ℕ → ℕ → ℕ → State → GivenRuns
given_from s k zero at st = gives_none (position at st true) (answer refusal.accepted (length s) k)
given_from s k (suc m) at st =
    let r = run_from s at st in
    pick (eqb r.run.answer.number refusal.accepted)
    (before r.run (given_from s (suc k) m r.position.place r.position.state))
    (gives_none r.position (end_of (length s) k r.run.answer))

-- of accepted strings alone, as for a single step
unfoldable pub checked_runs : List ℕ → RunPosition → ℕ → GivenRuns
checked_runs s p room =
    pick (eqb (known_of s p.checked).number refusal.accepted) (given_from s 0 room p.place p.state)
    (gives_none p (known_of s p.checked))

-- from any position, also one made by hand
unfoldable pub next_runs_of : List ℕ → RunPosition → ℕ → GivenRuns
next_runs_of s p room =
    pick (ltb limit.octets (length s)) (gives_none p (refused_at refusal.too_long 0))
    (pick (may_stand (length s) p.place p.state) (checked_runs s p room) (gives_none p (refused_at refusal.bad_unit 0)))

-- ---- call after call

-- the position after calls with lists of these lengths, and how many runs they gave
unfoldable pub after_calls : List ℕ → RunPosition → List ℕ → RunPosition
after_calls s p [] = p
after_calls s p (room ∷ rooms) = after_calls s (next_runs_of s p room).step.position rooms

unfoldable pub given_by : List ℕ → RunPosition → List ℕ → ℕ
given_by s p [] = 0
given_by s p (room ∷ rooms) = length (next_runs_of s p room).runs + given_by s (next_runs_of s p room).step.position rooms

-- n runs of a string, by their numbers from k on
unfoldable pub runs_at : List ℕ → ℕ → ℕ → List Bounds
runs_at s k zero = []
runs_at s k (suc n) = run_at s k ∷ runs_at s (suc k) n

-- what a call gives of an accepted string of which k runs are given: the next ones, as many as there is room for; fewer, where no more are left
pub record Next (s : List ℕ) (k room : ℕ) (g : GivenRuns) : Type 0 where
  pub runs : g.runs ≡ runs_at s k (length g.runs)
  pub counts : g.step.answer ≡ answer refusal.accepted (length s) (length g.runs)
  pub fits : length g.runs ≤ room
  pub all : length g.runs < room → run_at s (k + length g.runs) ≡ no_run (refused_at refusal.bad_unit 0)

-- ---- where a list has come to

abbrev pub stand : ℕ → ℕ → State → Stand
stand place count st = record { place = place; count = count; state = st }

-- what is still given from there on, and the list once that is stored
abbrev pub left_of : List ℕ → Stand → List ℕ → GivenRuns
left_of s l out = given_from s l.count (length out - l.count) l.place l.state

abbrev pub finished : List ℕ → Stand → List ℕ → RunsStep × List ℕ
finished s l out = ((left_of s l out).step, sets out l.count (map word_of (left_of s l out).runs))

-- one has come from l to r, and the list from o to n: the end is the same
pub record Onward (s : List ℕ) (l : Stand) (o : List ℕ) (r : Stand) (n : List ℕ) : Type 0 where
  pub same : finished s r n ≡ finished s l o
  pub further : l.place ≤ r.place
  pub long : length n ≡ length o
