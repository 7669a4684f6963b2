-- What a record has to be to go into a row: its kind is one of the eight, and a segment's d and n are in their bounds.
use Rattle.std.specs.Prelude.{◌≤◌, Bool, false, ◌≡◌, eqb, leb, ltb}
use Rattle.base.specs.Choice.{pick}
use Rattle.base.specs.Kind as kind
use Rattle.base.specs.declared.Unit.{Unit as UnitRecord}

pub record Stowable (r : UnitRecord) : Type 0 where
  pub one_of_eight : r.kind ≤ kind.segment
  pub low : r.kind ≡ kind.segment → 0x30 ≤ r.code
  pub high : r.kind ≡ kind.segment → r.code ≤ 0x34
  pub few : r.kind ≡ kind.segment → r.length ≤ 16383

-- the same as a test
unfoldable pub stowable_of : UnitRecord → Bool
stowable_of r =
    pick (eqb r.kind kind.segment)
    (pick (ltb r.code 0x30) false (pick (leb r.code 0x34) (leb r.length 16383) false))
    (leb r.kind kind.segment)
