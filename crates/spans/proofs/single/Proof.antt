-- `spans::single` meets its contract, test by test. Assumes nothing.
use Rattle.element.proofs.Names.{ladder}
use Rattle.spans.specs.Spans.{single_under}
use Rattle.spans.proofs.single.Statement.{statement}
use Rattle.spans.proofs.single.Tie as tie

pub single_spec : {M : Type 1} → statement M
unfolding single_under
single_spec =
    tie.close (tie.spec (λ c. search ladder depth 9) (λ c. search ladder depth 9) (λ c. search ladder depth 9) (λ c. search ladder depth 9)
    (λ c. search ladder depth 9))
