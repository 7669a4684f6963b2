-- `spans::form_at` meets its contract, test by test. Assumes nothing.
use Rattle.element.proofs.Names.{ladder, arith}
use Rattle.spans.specs.Spans.{form_at}
use Rattle.spans.proofs.form_at.Statement.{statement}
use Rattle.spans.proofs.form_at.Tie as tie

pub form_at_spec : {M : Type 1} → statement M
unfolding form_at
form_at_spec =
    tie.close
    (tie.spec
    (search arith)
    (λ c. search ladder depth 9)
    (search arith)
    (search arith)
    (λ c. search ladder depth 9)
    (λ c. search ladder depth 9)
    (λ c. search ladder depth 9)
    (search arith)
    (λ c. search ladder depth 9)
    (λ c. search ladder depth 9))
