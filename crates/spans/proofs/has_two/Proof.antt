-- `spans::has_two` meets its contract, test by test. Assumes nothing.
use Rattle.element.proofs.Names.{ladder}
use Rattle.spans.specs.Spans.{has_two}
use Rattle.spans.proofs.has_two.Statement.{statement}
use Rattle.spans.proofs.has_two.Tie as tie

pub has_two_spec : {M : Type 1} → statement M
unfolding has_two
has_two_spec = tie.close (tie.spec (λ c. search ladder depth 9) (λ c. search ladder depth 9))
