-- `octet_stretches::near` meets its contract, by the entry of the octet at the place.
use Rattle.element.proofs.Names.{arith, refl}
use Rattle.octet_stretches.specs.Stretched.{none, ones}
use Rattle.octet_stretches.proofs.Laws.{by_numbers}
use Rattle.octet_stretches.proofs.near.Goals as goal

pub returns-then-k-le-ONE_GR : goal.returns-then-k-le-ONE_GR
returns-then-k-le-ONE_GR c = let n = c.of_ones.ensures in
    by_numbers (omega (arith, c.singles.ensures.since, n.0)) (omega (arith, n.1)) (ones c.singles.ensures)

pub returns-else-k-eq-TWO_GR : goal.returns-else-k-eq-TWO_GR
returns-else-k-eq-TWO_GR c = by_numbers (omega arith) refl none
