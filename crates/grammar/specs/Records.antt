-- Lists of unit records and their reading.
use Rattle.std.specs.Prelude.{ℕ, ◌+◌, Bool, cond, List, [], ◌∷◌, length, take, drop, eqb, leb, ltb}
use Rattle.std.proofs.Math.Option.{Option, none, some}
use Rattle.base.specs.Kind as kind
use Rattle.base.specs.declared.Unit.{Unit as UnitRecord}
use Rattle.grammar.specs.Units.{TextUnit, unit_of}

-- one of the eight kinds, and of a segment a part that lies wholly in the octets (rule U4)
unfoldable pub readable : List ℕ → UnitRecord → Bool
readable o r = cond (eqb r.kind kind.segment) (leb (r.start + r.length) (length o)) (ltb r.kind kind.segment)

-- the unit that a record stands for, by the fields that its kind uses (rule W1)
unfoldable pub unit_read : List ℕ → UnitRecord → Option TextUnit
unit_read o r =
    cond (readable o r) (some (unit_of r.kind r.set r.code (take r.length (drop r.start o)))) none

abbrev pub prepend : Option TextUnit → Option (List TextUnit) → Option (List TextUnit)
prepend none us = none
prepend (some u) none = none
prepend (some u) (some us) = some (u ∷ us)

-- the reading of a list, with the octets in which its extended segments stand (rule U4)
unfoldable pub list_reading : List ℕ → List UnitRecord → Option (List TextUnit)
list_reading o [] = some []
list_reading o (r ∷ rs) = prepend (unit_read o r) (list_reading o rs)
