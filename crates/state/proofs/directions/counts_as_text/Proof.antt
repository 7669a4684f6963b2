-- `directions::counts_as_text` meets its contract: its tests are those of the definition, in the same order.
use native.Mathlib.Omega.{arith}
use borrow.Author.Tests.{lt-ltb, le-ltb, eq-eqb, ne_eqb}
use Rattle.base.specs.Kind as kind
use Rattle.state.proofs.directions.counts_as_text.Statement.{statement}
use Rattle.state.proofs.directions.counts_as_text.Tie as tie

pub counts_as_text_spec : {M : Type 1} → statement M
counts_as_text_spec =
    tie.close
    (tie.spec (λ c. rw (lt-ltb c.before.args.kind kind.tab (search arith)))
    (λ c. rw (le-ltb c.before.before.args.kind kind.tab (search arith), eq-eqb c.before.before.args.kind kind.segment (search arith)))
    (λ c. rw (le-ltb c.before.before.args.kind kind.tab (search arith), ne_eqb c.before.before.args.kind kind.segment (search arith))))
