-- `spans::lesser` meets its contract, test by test. Assumes nothing.
use Rattle.element.proofs.Names.{ladder}
use Rattle.spans.specs.Spans.{lesser_of}
use Rattle.spans.proofs.lesser.Statement.{statement}
use Rattle.spans.proofs.lesser.Tie as tie

pub lesser_spec : {M : Type 1} → statement M
unfolding lesser_of
lesser_spec = tie.close (tie.spec (λ c. search ladder depth 9) (λ c. search ladder depth 9))
