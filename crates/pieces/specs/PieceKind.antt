-- What a piece of a string is. `piece_kind.tab` and the like, where this module is used as `piece_kind`.
use Rattle.std.specs.Prelude.{ℕ}

-- a run of GL octets
abbrev pub gl_run : ℕ
gl_run = 0

-- a run of GR octets
abbrev pub gr_run : ℕ
gr_run = 1

abbrev pub tab : ℕ
tab = 2

abbrev pub newline : ℕ
newline = 3

-- a control sequence: a designation or a direction mark
abbrev pub control : ℕ
control = 4

-- an extended segment
abbrev pub segment : ℕ
segment = 5

-- no piece: the string ends, or an element of it is refused
abbrev pub none : ℕ
none = 6
