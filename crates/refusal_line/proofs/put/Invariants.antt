-- `refusal_line::put` meets its contract. The invariant is `Put`, and each turn is `put_next`.
use Rattle.refusal_line.proofs.Texts.{Put}
use Rattle.refusal_line.proofs.put.Given as goal

abbrev pub invariant-loop-i : goal.invariant-loop-i
invariant-loop-i l = Put l.text l.initial.buffer l.end l.i l.at l.buffer

abbrev pub decreases-loop-i : goal.decreases-loop-i
decreases-loop-i l = l.i
