-- What is proved of the strings of X11R5, where a statement needs words of its own.
use Rattle.std.specs.Prelude.{ℕ, ◌<◌, ◌≡◌, true, false, List, [], ◌∷◌, length, get_or, take}
use Rattle.base.specs.Answers.{answer}
use Rattle.base.specs.Choice.{from}
use Rattle.base.specs.Refusal as refusal
use Rattle.grammar.specs.Reading.{units_of, ReadAs}
use Rattle.grammar.specs.Units.{TextUnit}
use Rattle.shortest.specs.Writing.{Every}
use Rattle.state.specs.declared.Sets.{Sets}
use Rattle.x11r5.specs.Reading.{before_null, unsupported_at, supported_of, null_ended_check_of}
use Rattle.x11r5.specs.Writing.{unsupported_unit, home_after}

-- a string with no 00
abbrev pub NoNull : List ℕ → Type 0
NoNull s = (i : ℕ) → i < length s → get_or s i 0 ≡ 0 → ⊥

-- units that X11R5 has: no direction marks, no extended segments
abbrev pub Supported : List TextUnit → Type 0
Supported us = Every (λ u. unsupported_unit u ≡ false) us

-- the sets in force after the writing of units
abbrev pub sets_after : List TextUnit → Sets → Sets
sets_after [] s = s
sets_after (u ∷ us) s = sets_after us (home_after u s)

-- the reading of a string that a 00 ends
abbrev pub null_reading_of : List ℕ → List TextUnit
null_reading_of s = units_of (before_null s) (supported_of (before_null s))

-- the X11R5 reader accepts a string with the place of its first 00 and the count of the units, and reads it as the units
pub record NullReadAs (s : List ℕ) (us : List TextUnit) : Type 0 where
  pub accepted : null_ended_check_of s ≡ answer refusal.accepted (length (before_null s)) (length us)
  pub reading : null_reading_of s ≡ us

-- the first thing in a string that X11R5 does not have starts at p: what stands before p the base reader accepts with a reading of units that X11R5 has
pub record FirstUnsupported (t : List ℕ) (p : ℕ) : Type 0 where
  pub units : List TextUnit
  pub before : ReadAs (take p t) units
  pub supported : Supported units
  pub starts : unsupported_at (from p t) ≡ true
