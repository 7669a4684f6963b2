-- `run_ends::ones` meets its contract. The invariant: the octets from `i` on end where those from `at` on do.
use Rattle.element.proofs.Names.{refl}
use Rattle.base.proofs.Ladder.{after}
use Rattle.run_ends.proofs.Loops.{spanned}
use Rattle.run_ends.proofs.ones.Goals as goal

pub loop-i-init : goal.loop-i-init
loop-i-init c = refl

pub returns-then-b-first : goal.returns-then-b-first
returns-then-b-first c = after c.loop-i.invariant (search spanned depth 12)

pub returns-then-last-b : goal.returns-then-last-b
returns-then-last-b c = after c.loop-i.invariant (search spanned depth 12)

pub loop-i-preserved : goal.loop-i-preserved
loop-i-preserved c = after c.loop-i.invariant (search spanned depth 12)

pub returns : goal.returns
returns c = after c.loop-i.invariant (search spanned depth 12)
