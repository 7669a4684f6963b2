-- A run as a part of the string (rule R2).
use Rattle.std.specs.Prelude.{ℕ, ◌+◌, ◌-◌, ◌≡◌, List, take, drop}
use Rattle.std.specs.Borrow.{Bor}
use Rattle.runs.specs.Runs.{run_at}
use Rattle.run_parts.specs.declared.view.Run.{Run}

-- the octets of the k-th run, none where there is no such run
abbrev pub run_octets : List ℕ → ℕ → List ℕ
run_octets s k = take ((run_at s k).end - (run_at s k).start) (drop (run_at s k).start s)

-- a reference points into what s refers to, so many octets from its start
abbrev pub StartsAt : Bor (List ℕ) → Bor (List ℕ) → ℕ → Type 0
StartsAt r s start = (r.ref_ptr.0 ≡ s.ref_ptr.0) × (r.ref_ptr.1 ≡ start + s.ref_ptr.1)

-- a value is the k-th run of what s refers to, as that part of it: what it holds, and where it starts (rule R2).
pub record Shown (s : Bor (List ℕ)) (k : ℕ) (r : Run) : Type 0 where
  pub part : r.part.now ≡ run_octets s.now k
  pub place : StartsAt r.part s (run_at s.now k).start
  pub answer : r.answer ≡ (run_at s.now k).answer
  pub set : r.set ≡ (run_at s.now k).set
  pub width : r.width ≡ (run_at s.now k).width
  pub direction : r.direction ≡ (run_at s.now k).direction
