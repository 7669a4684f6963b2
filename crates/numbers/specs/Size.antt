-- The sizes of the numbers of sets: a number is 16 × the place of GL + the place of GR.
use Rattle.std.specs.Prelude.{ℕ}

-- the places of GL; it also stands for none of them
abbrev pub gl : ℕ
gl = 5

-- those of GR that a set has
abbrev pub gr : ℕ
gr = 13

-- those of GR with the spare ones; it also stands for none of them
abbrev pub columns : ℕ
columns = 16

abbrev pub numbers : ℕ
numbers = 80
