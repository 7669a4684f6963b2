-- The writing of a string of X11R5 (rules X4, X5): each unit where its set always stands, after a designation only where that is needed.
use Rattle.std.specs.Prelude.{ℕ, Bool, cond, List, [], ◌∷◌, ◌++◌, leb}
use Rattle.std.proofs.Math.Option.{Option, none, some}
use Rattle.base.specs.Kind as kind
use Rattle.charset.specs.Charsets.{allowed}
use Rattle.charset.specs.declared.Side.{TheVariants.GL, TheVariants.GR}
use Rattle.grammar.specs.Units.{TextUnit, char, space, control, ext, kind_of, octets}
use Rattle.shortest.specs.Writing.{Need, free, either, met, used, after, designated}
use Rattle.state.specs.State.{Standing, on, fresh}
use Rattle.state.specs.declared.Sets.{Sets}

-- the units that X11R5 does not have: direction marks and extended segments, the last four kinds
abbrev pub unsupported_unit : TextUnit → Bool
unsupported_unit u = leb kind.left_to_right (kind_of u)

-- where a set stands: in GL if it may, so sets 12 to 14 too, and else in GR (rule X4)
abbrev pub home_of : ℕ → Standing
home_of c = on (cond (allowed GL c) GL GR) c

-- what a unit needs: a character its set there; a space a set of one octet in GL, which is one of these two, and of which the first is the one to
-- designate (rule X4)
unfoldable pub home_need : TextUnit → Need
home_need (char c k) = either (home_of c) (home_of c)
home_need space = either (on GL 0) (on GL 2)
home_need (control x) = free
home_need (ext e xs) = free

-- what to designate: nothing where the need is met, and else the first of the two (rule X4)
unfoldable pub home_choice : Need → Sets → Option Standing
home_choice free s = none
home_choice (either a b) s = cond (met (either a b) s) none (some a)

-- the sets in force after a unit, and its octets with those of the designation before it
abbrev pub home_after : TextUnit → Sets → Sets
home_after u s = after (home_choice (home_need u) s) s

abbrev pub home_octets : TextUnit → Sets → List ℕ
home_octets u s = designated (home_choice (home_need u) s) ++ octets (used (home_need u) (home_after u s)) u

-- the octets of units, from sets in force
unfoldable pub home_writing : List TextUnit → Sets → List ℕ
home_writing [] s = []
home_writing (u ∷ us) s = home_octets u s ++ home_writing us (home_after u s)

-- the string of units from the fresh state, without the 00 that ends it
abbrev pub unended_of : List TextUnit → List ℕ
unended_of us = home_writing us fresh.sets

-- and with it (rule X5)
abbrev pub null_ended_of : List TextUnit → List ℕ
null_ended_of us = unended_of us ++ (0x00 ∷ [])
