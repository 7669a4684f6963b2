-- `emit::emit` meets its contract. The invariant: what is written and the writing of the rest are the whole.
use Rattle.emit.proofs.Forward.{Going}
use Rattle.emit.proofs.emit.Given as goal

abbrev pub invariant-loop-i : goal.invariant-loop-i
invariant-loop-i l = Going l.segments l.work l.initial.out l.n l.i l.k l.at l.out
