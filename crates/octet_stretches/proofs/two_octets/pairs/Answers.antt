-- `octet_stretches::two_octets::pairs` meets its contract: before the place only characters of two octets stand, one more in each turn.
use Rattle.element.proofs.Names.{arith, refl}
use Rattle.octet_stretches.specs.Stretched.{none, more}
use Rattle.octet_stretches.proofs.Laws.{fits, by_numbers}
use Rattle.octet_stretches.proofs.two_octets.pairs.Goals as goal

pub loop-i-init : goal.loop-i-init
loop-i-init c = (none, c.requires.0)

pub overflow_add-n : goal.overflow_add-n
overflow_add-n c = let inv = c.loop-i.invariant in omega (arith, (fits inv.0).0, inv.1)

pub loop-i-preserved : goal.loop-i-preserved
loop-i-preserved c = let inv = c.loop-i.invariant in
    (more inv.0 (c.pair.ensures c.if-pair.true), omega (arith, c.loop-i-test.true))

pub overflow_sub-result : goal.overflow_sub-result
overflow_sub-result c = omega (arith, (fits c.loop-i.invariant.0).0)

pub returns : goal.returns
returns c = let inv = c.loop-i.invariant in by_numbers (omega (arith, (fits inv.0).0)) refl inv.0
