-- The numbers of a unit's kind (rule U1). `kind.tab` and the like, where this module is used as `kind`.
use Rattle.std.specs.Prelude.{ℕ}

abbrev pub character : ℕ
character = 0

abbrev pub space : ℕ
space = 1

abbrev pub tab : ℕ
tab = 2

abbrev pub newline : ℕ
newline = 3

abbrev pub left_to_right : ℕ
left_to_right = 4

abbrev pub right_to_left : ℕ
right_to_left = 5

abbrev pub revert : ℕ
revert = 6

abbrev pub segment : ℕ
segment = 7
