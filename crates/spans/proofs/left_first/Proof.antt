-- `spans::left_first` meets its contract, test by test. Assumes nothing.
use Rattle.element.proofs.Names.{ladder}
use Rattle.spans.specs.Spans.{left_first}
use Rattle.spans.proofs.left_first.Statement.{statement}
use Rattle.spans.proofs.left_first.Tie as tie

pub left_first_spec : {M : Type 1} → statement M
unfolding left_first
left_first_spec = tie.close (tie.spec (λ c. search ladder depth 9) (λ c. search ladder depth 9))
