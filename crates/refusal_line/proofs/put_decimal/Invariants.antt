-- `refusal_line::put_decimal` meets its contract. The invariant is `Counted`, and each turn is `counted_next`.
use Rattle.refusal_line.proofs.Texts.{Counted}
use Rattle.refusal_line.proofs.put_decimal.Given as goal

abbrev pub invariant-loop-rest : goal.invariant-loop-rest
invariant-loop-rest l = Counted l.n l.initial.buffer l.end l.at l.rest l.buffer

abbrev pub decreases-loop-rest : goal.decreases-loop-rest
decreases-loop-rest l = l.rest
