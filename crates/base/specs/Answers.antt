-- An answer: number, place and count (rule N1).
use Rattle.std.specs.Prelude.{ℕ}
use Rattle.base.specs.declared.Answer.{Answer}

abbrev pub answer : ℕ → ℕ → ℕ → Answer
answer number place count = record { number = number; place = place; count = count }

-- a refusal, whose count is 0 (rule N1), at a place (rule N2)
abbrev pub refused_at : ℕ → ℕ → Answer
refused_at number place = answer number place 0
