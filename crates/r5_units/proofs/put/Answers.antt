-- `r5_units::put` meets its contract, for sets of one octet and of two.
use Rattle.unit_octets.proofs.Storing.{stored_as}
use Rattle.r5_units.proofs.Text.{text_double, text_single}
use Rattle.r5_units.proofs.put.Goals as goal

pub returns-then-set-ge-FIRST_DOUBLE : goal.returns-then-set-ge-FIRST_DOUBLE
returns-then-set-ge-FIRST_DOUBLE c = stored_as (search text_double) c.put.ensures

pub returns : goal.returns
returns c = stored_as (search text_single) c.put-2.ensures
