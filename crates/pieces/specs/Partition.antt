-- What is said of all the pieces of a string: that they lie end to end, that runs are longest and of one side, and what is in force in them
-- (rules R1, R3 and R6).
use Rattle.std.specs.Prelude.{ℕ, ◌≤◌, ◌<◌, ◌≡◌, true, false, List, [], ◌∷◌, get_or}
use Rattle.base.specs.Choice.{from}
use Rattle.grammar.specs.Reading.{elements}
use Rattle.state.specs.Directions.{in_force_of}
use Rattle.state.specs.declared.State.{State}
use Rattle.pieces.specs.Pieces.{side_kind_of, is_run, same_run_of, state_at}
use Rattle.pieces.specs.Pieces.{Piece}

-- pieces that lie end to end from a place to another
pub data EndToEnd : ℕ → ℕ → List Piece → Type 0 where
  none : {a : ℕ} → EndToEnd a a []
  more : {a e : ℕ} {p : Piece} {ps : List Piece} → p.start ≡ a → a < p.end → EndToEnd p.end e ps → EndToEnd a e (p ∷ ps)

-- no two neighbours are of one run
pub data Apart : List Piece → Type 0 where
  nothing : Apart []
  alone : {p : Piece} → Apart (p ∷ [])
  before : {p q : Piece} {qs : List Piece} → same_run_of p.kind q.kind ≡ false → Apart (q ∷ qs) → Apart (p ∷ q ∷ qs)

-- the octets of a piece that is a run
abbrev pub OneSided : List ℕ → Piece → Type 0
OneSided s p = is_run p.kind ≡ true → (i : ℕ) → p.start ≤ i → i < p.end → side_kind_of (get_or s i 0) ≡ p.kind

-- two states have the same sets and the same direction in force
pub record Same (a b : State) : Type 0 where
  pub sets : a.sets ≡ b.sets
  pub way : in_force_of a.directions ≡ in_force_of b.directions

-- the state in which the octet at a place i is read, from a place and a state on
abbrev pub state_from : List ℕ → ℕ → State → ℕ → State
state_from s at st i = state_at st (elements (from at s) 0 at st) i

-- at each octet of a run, and after it, its sets and its direction are in force
abbrev pub InForce : List ℕ → ℕ → State → Piece → Type 0
InForce s at st p = is_run p.kind ≡ true → (i : ℕ) → p.start ≤ i → i ≤ p.end → Same (state_from s at st i) p.state

-- each of some pieces
pub data Each (P : Piece → Type 0) : List Piece → Type 0 where
  empty : Each P []
  with_first : {p : Piece} {ps : List Piece} → P p → Each P ps → Each P (p ∷ ps)
