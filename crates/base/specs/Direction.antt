-- The numbers of the direction in force (rule R3).
use Rattle.std.specs.Prelude.{ℕ}

abbrev pub none : ℕ
none = 0

abbrev pub left_to_right : ℕ
left_to_right = 1

abbrev pub right_to_left : ℕ
right_to_left = 2
