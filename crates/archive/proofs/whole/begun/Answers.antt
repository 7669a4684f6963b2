-- `archive::whole::begun` meets its contract: text that is next is the same element where text was read.
use borrow.Author.Tests.{not-true}
use Rattle.element.proofs.Names.{arith}
use Rattle.archive_laws.proofs.Passes.{leads_none}
use Rattle.archive_laws.proofs.Turn.{begun_leads}
use Rattle.archive.proofs.whole.begun.Goals as goal

pub returns-then-text_at : goal.returns-then-text_at
returns-then-text_at c = λ is. rw c.directed.ensures (begun_leads _ (not-true _ c.if-not-directions.true) _ _ (c.text_at.ensures is c.if-text_at.true))

pub returns : goal.returns
returns c = λ _. leads_none _ _ _ (omega (arith, c.requires))
