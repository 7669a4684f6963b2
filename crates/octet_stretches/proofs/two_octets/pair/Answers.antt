-- `octet_stretches::two_octets::pair` meets its contract: two octets of an entry of two are a character.
use Rattle.element.proofs.Names.{eqb-true}
use Rattle.octet_stretches.specs.Stretched.{two}
use Rattle.octet_stretches.proofs.Laws.{entry_is}
use Rattle.octet_stretches.proofs.two_octets.pair.Goals as goal

pub returns-then-entry_at-k : goal.returns-then-entry_at-k
returns-then-entry_at-k c = λ h. let pre = c.requires in
    two pre.1 pre.2 (entry_is c.if-entry_at-k.true c.entry_at.ensures) (entry_is (eqb-true _ _ h) c.entry_at-then-entry_at-k.ensures)
