-- `octet_stretches::two_octets::twos` meets its contract: of the octets that blocks have passed, as many as are pairs.
use Rattle.element.proofs.Names.{arith}
use Rattle.octet_blocks.proofs.Counted.{within_less}
use Rattle.octet_stretches.proofs.two_octets.twos.Goals as goal

pub pairs_to-requires : goal.pairs_to-requires
pairs_to-requires c = (c.blocks_end.ensures.0 c.requires).since

pub returns : goal.returns
returns c = let w = c.blocks_end.ensures.0 c.requires in
    let p = c.pairs_to.ensures in (within_less _ _ _ _ _ _ (omega arith) (omega (arith, p.0, p.1, w.since)) w, p.0)
