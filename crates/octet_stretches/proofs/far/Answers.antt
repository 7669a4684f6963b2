-- `octet_stretches::far` meets its contract, by the entry of the octet at the place.
use Rattle.element.proofs.Names.{arith}
use Rattle.octet_stretches.proofs.Laws.{by_numbers, fits, ones_more, twos_gl, twos_gr}
use Rattle.octet_stretches.proofs.far.Goals as goal

pub returns-then-k-eq-TWO_GL : goal.returns-then-k-eq-TWO_GL
returns-then-k-eq-TWO_GL c = let w = c.twos.ensures in twos_gl c.requires c.if-k-eq-TWO_GL.true w.0 w.1

pub returns-then-k-eq-TWO_GR : goal.returns-then-k-eq-TWO_GR
returns-then-k-eq-TWO_GR c = let w = c.twos-then-k-eq-TWO_GR.ensures in twos_gr c.requires c.if-k-eq-TWO_GR.true w.0 w.1

pub fours-requires : goal.fours-requires
fours-requires c = (fits c.ones.ensures).1 (omega (arith, c.requires.inside))

pub overflow_sub-fours : goal.overflow_sub-fours
overflow_sub-fours c = omega (arith, (fits c.ones.ensures).0, c.fours.ensures.since)

pub returns-else-k-eq-TWO_GR : goal.returns-else-k-eq-TWO_GR
returns-else-k-eq-TWO_GR c = let n = c.of_ones.ensures in
    by_numbers (omega (arith, n.0)) (omega (arith, n.1)) (ones_more c.ones.ensures c.fours.ensures)
