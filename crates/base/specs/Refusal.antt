-- The numbers of refusal (rule N10). `refusal.cut` and the like, where this module is used as `refusal`.
use Rattle.std.specs.Prelude.{ℕ, Option, None, Some}
use Rattle.base.specs.declared.refusal.Refusal.{Refusal}
use Rattle.base.specs.declared.refusal.Refusal.TheVariants.{TooLong, Cut, Unused, Unknown, NotApproved, Version, BadSegment, Direction, TooDeep}
use Rattle.base.specs.declared.refusal.Refusal.TheVariants.{NoRoom, BadUnit, NoWorkRoom, BadForm, NotEnded, Unsupported}

-- no refusal
abbrev pub accepted : ℕ
accepted = 0

-- a string, a list, a shortest writing or a resource form over its limit
abbrev pub too_long : ℕ
too_long = 1

-- the string ends inside an element
abbrev pub cut : ℕ
cut = 2

-- an octet that is not used there
abbrev pub unused : ℕ
unused = 3

-- an unknown sequence
abbrev pub unknown : ℕ
unknown = 4

-- a designation of none of the fifteen sets
abbrev pub not_approved : ℕ
not_approved = 5

-- a version sequence
abbrev pub version : ℕ
version = 6

-- a bad extended segment
abbrev pub bad_segment : ℕ
bad_segment = 7

-- the direction rule
abbrev pub direction : ℕ
direction = 8

-- too many directions open
abbrev pub too_deep : ℕ
too_deep = 9

-- a list or an output that is too short
abbrev pub no_room : ℕ
no_room = 10

-- a bad unit; a run or a reader that is none
abbrev pub bad_unit : ℕ
bad_unit = 11

-- too little work room
abbrev pub no_work_room : ℕ
no_work_room = 12

-- in a resource form: a backslash that begins no escape, a raw newline, a raw 00
abbrev pub bad_form : ℕ
bad_form = 13

-- an X11R5 string that no 00 ends
abbrev pub not_ended : ℕ
not_ended = 14

-- what X11R5 does not have: a direction mark, an extended segment
abbrev pub unsupported : ℕ
unsupported = 15

-- the number of a refusal as the code names it
abbrev pub number_of : Refusal → ℕ
number_of TooLong = too_long
number_of Cut = cut
number_of Unused = unused
number_of Unknown = unknown
number_of NotApproved = not_approved
number_of Version = version
number_of BadSegment = bad_segment
number_of Direction = direction
number_of TooDeep = too_deep
number_of NoRoom = no_room
number_of BadUnit = bad_unit
number_of NoWorkRoom = no_work_room
number_of BadForm = bad_form
number_of NotEnded = not_ended
number_of Unsupported = unsupported

-- the same where there may be none
abbrev pub number_if : Option Refusal → ℕ
number_if None = accepted
number_if (Some r) = number_of r
