-- What the check of a string answers.
use Rattle.std.specs.Prelude.{ℕ, List}
use Rattle.grammar.specs.Reading.{check_of}
use Rattle.check_string.specs.declared.Checked.{Checked}

abbrev pub checked_of : List ℕ → Checked
checked_of s = record { answer = check_of s }
