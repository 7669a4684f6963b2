-- `octet_stretches::one_octet::ones` meets its contract: by the entry of the octet at the place the octets of a span are units of one octet.
use Rattle.element.proofs.Names.{arith, refl}
use Rattle.octet_stretches.specs.Stretched.{none, ones_left, ones_94, ones_96}
use Rattle.octet_stretches.proofs.Laws.{entry_is, by_numbers}
use Rattle.octet_stretches.proofs.one_octet.ones.Goals as goal

pub returns-then-k-le-SPACE : goal.returns-then-k-le-SPACE
returns-then-k-le-SPACE c = let pre = c.requires in
    ones_left c.if-k-le-SPACE.true pre (c.blocks_end.ensures.0 (omega (arith, pre.inside)))

pub returns-then-full_right : goal.returns-then-full_right
returns-then-full_right c = let pre = c.requires in
    ones_96 (entry_is c.if-k-ne-ONE_GR.false pre) (c.full_right.ensures c.if-full_right.true)
    (c.blocks_end-then-full_right.ensures.0 (omega (arith, pre.inside)))

pub returns-else-full_right : goal.returns-else-full_right
returns-else-full_right c = let pre = c.requires in
    ones_94 (entry_is c.if-k-ne-ONE_GR.false pre) (c.blocks_end-else-full_right.ensures.0 (omega (arith, pre.inside)))

pub returns-then-k-ne-ONE_GR : goal.returns-then-k-ne-ONE_GR
returns-then-k-ne-ONE_GR c = by_numbers refl (omega arith) none
