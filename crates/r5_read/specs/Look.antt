-- What is known of a string before its units are read.
use Rattle.std.specs.Prelude.{ℕ, ◌<◌, ◌≡◌, List, Result, Ok, Err, MatchResult, length, ltb, take}
use Rattle.base.specs.Choice.{pick}
use Rattle.base.specs.Refusal as refusal
use Rattle.base.specs.declared.Answer.{Answer}
use Rattle.grammar.specs.Reading.{elements_of}
use Rattle.x11r5.specs.Reading.{before_null, supported_of, null_ended_check_of}

-- what is left to the base reader: the octets before the 00, whose elements X11R5 has, or whose refusal is the base reader's
pub record Left (s : List ℕ) (end : ℕ) : Type 0 where
  pub within : end < length s
  pub octets : take end s ≡ before_null s
  pub same : supported_of (before_null s) ≡ elements_of (before_null s)

-- the answer of a string that is refused
pub record Refused (s : List ℕ) (a : Answer) : Type 0 where
  pub refuses : a.number ≡ refusal.accepted → ⊥
  pub same : a ≡ null_ended_check_of s

-- a look at a string: the string is left to the base reader up to a place, or it is refused
abbrev pub Looked : List ℕ → Result ℕ Answer → Type 0
Looked s r = MatchResult r (Left s) (Refused s)

-- how many octets of a string of n the base reader is given: those before the place, or none where the string is refused
unfoldable pub given_end : ℕ → Result ℕ Answer → ℕ
given_end n (Ok end) = pick (ltb n end) 0 end
given_end n (Err refused) = 0

-- the answer, by the base reader's
unfoldable pub settled_by : Result ℕ Answer → Answer → Answer
settled_by (Ok end) a = a
settled_by (Err refused) a = refused
