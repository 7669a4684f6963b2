-- The bounds of a run lie in the string: its piece does, since the pieces lie end to end.
use Rattle.element.proofs.Names.{ℕ, zero, suc, ◌≤◌, ◌<◌, zero-le, arith, Bool, true, false, ◌≡◌, List, ◌∷◌, length, pick, from}
use Rattle.pieces.specs.Pieces.{is_run, pieces_of}
use Rattle.pieces.specs.Pieces.{Piece}
use Rattle.pieces.specs.Partition.{EndToEnd, none, more}
use Rattle.pieces.proofs.Partition.{pieces_tiled}
use Rattle.runs.specs.Runs.{runs_in, runs_of, shown_of, nth_run_of, run_at}
use Rattle.runs.specs.declared.Bounds.{Bounds}

abbrev pub Lies : List ℕ → Bounds → Type 0
Lies s g = (g.start ≤ g.end) × (g.end ≤ length s)

ends : {a e : ℕ} {ps : List Piece} → EndToEnd a e ps → a ≤ e
ends none = omega arith
ends (more b l r) = let h = ends r in omega arith

module _ (s : List ℕ) (n : ℕ) where
  first_lies : {e : ℕ} (p : Piece) (ps : List Piece) (k : ℕ) (t : Bool) → p.start < p.end → EndToEnd p.end e ps → e ≤ length s
      → ((j : ℕ) → Lies s (nth_run_of n j (runs_in ps)))
      → Lies s (nth_run_of n k (pick t (p ∷ runs_in ps) (runs_in ps)))
  unfolding nth_run_of shown_of pick
  first_lies p ps zero true l r h f = let m = ends r in (omega arith, omega arith)
  first_lies p ps (suc k) true l r h f = f k
  first_lies p ps k false l r h f = f k

  nth_lies : {a e : ℕ} {ps : List Piece} → EndToEnd a e ps → e ≤ length s → (k : ℕ) → Lies s (nth_run_of n k (runs_in ps))
  unfolding nth_run_of runs_in
  nth_lies none h k = (zero-le, zero-le)
  nth_lies (more {p} {ps} b l r) h k = first_lies p ps k (is_run p.kind) (omega arith) r h (λ j. nth_lies r h j)

lies_by : (s : List ℕ) (t : Bool) (x y : Bounds) → Lies s x → Lies s y → Lies s (pick t x y)
unfolding pick
lies_by s true x y h k = h
lies_by s false x y h k = k

pub run_lies : (s : List ℕ) (k : ℕ) → Lies s (run_at s k)
unfolding run_at runs_of pieces_of from
run_lies s k =
    let t = pieces_tiled s in
    lies_by s _ _ _ (nth_lies s (length s) t.tiles t.within k) (zero-le, zero-le)

pub lies_as : {g : Bounds} (s : List ℕ) (k : ℕ) → g ≡ run_at s k → Lies s g
lies_as s k e = rw e (run_lies s k)
