-- What the writer answers for the units of a reading, and demand 3: what is asked of it.
use Rattle.std.specs.Prelude.{ℕ, ◌≤◌, ◌<◌, ◌≡◌, cond, List, ◌++◌, ◌↔◌, length, take, drop, ltb, eqb}
use Rattle.base.specs.Answers.{answer, refused_at}
use Rattle.base.specs.Limit as limit
use Rattle.base.specs.Refusal as refusal
use Rattle.base.specs.declared.Answer.{Answer}
use Rattle.grammar.specs.Units.{TextUnit}
use Rattle.grammar.specs.Reading.{ReadAs}
use Rattle.shortest.specs.Writing.{shortest_of, shortest_count}

-- the writer's answer for an output of m octets: 1 for the writing comes before 10, which has the count needed (rules N1, N3, N6, W6)
unfoldable pub write_answer : List TextUnit → ℕ → Answer
write_answer us m =
    let n = shortest_count us in
    cond (ltb limit.octets n) (refused_at refusal.too_long 0)
    (cond (ltb m n) (answer refusal.no_room 0 n) (answer refusal.accepted (length us) n))

-- what the output holds after: the string at its start, and the rest as it was (rule W5)
unfoldable pub output_after : List TextUnit → List ℕ → List ℕ
output_after us out =
    cond (eqb (write_answer us (length out)).number refusal.accepted)
    (shortest_of us ++ drop (shortest_count us) out)
    out

-- a string that reads as the units, of n octets, and none is shorter
pub record Least (us : List TextUnit) (n : ℕ) (t : List ℕ) : Type 0 where
  pub accepted : ReadAs t us
  pub count : length t ≡ n
  pub least : (t' : List ℕ) → ReadAs t' us → n ≤ length t'

-- demand 3, of an answer and the output after it, for units that some accepted string reads as
pub record Demand3 (us : List TextUnit) (out : List ℕ) (a : Answer) (after : List ℕ) : Type 0 where
  -- it refuses for room exactly when no accepted string of that reading fits
  pub room : (a.number ≡ refusal.no_room) ↔ ((t : List ℕ) → ReadAs t us → length out < length t)
  -- there are these two answers alone
  pub two : (a.number ≡ refusal.no_room → ⊥) → a.number ≡ refusal.accepted
  -- else it gives an accepted string of that reading, and none is shorter
  pub gives : a.number ≡ refusal.accepted → Least us a.count (take a.count after)
  -- where it refuses it answers the least count
  pub needs : a.number ≡ refusal.no_room → (t : List ℕ) × Least us a.count t
