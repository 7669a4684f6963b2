-- `run_ends::twos` meets its contract. The invariant: the octets from `i` on, two by two, end where those from `at` on do.
use Rattle.element.proofs.Names.{arith, refl}
use Rattle.base.proofs.Ladder.{after}
use Rattle.run_ends.proofs.Loops.{spanned, on_short}
use Rattle.run_ends.proofs.twos.Goals as goal

pub returns-then-s-at : goal.returns-then-s-at
returns-then-s-at c = on_short _ _ _ _ _ (omega arith) refl

pub loop-i-init : goal.loop-i-init
loop-i-init c = (omega arith, refl)

pub returns-then-b-first : goal.returns-then-b-first
returns-then-b-first c = after c.loop-i.invariant.1 (search spanned depth 12)

pub returns-then-last-b : goal.returns-then-last-b
returns-then-last-b c = after c.loop-i.invariant.1 (search spanned depth 12)

pub returns-then-d-first : goal.returns-then-d-first
returns-then-d-first c = after c.loop-i.invariant.1 (search spanned depth 12)

pub returns-then-last-d : goal.returns-then-last-d
returns-then-last-d c = after c.loop-i.invariant.1 (search spanned depth 12)

pub loop-i-preserved : goal.loop-i-preserved
loop-i-preserved c = (omega arith, after c.loop-i.invariant.1 (search spanned depth 12))

pub returns : goal.returns
returns c = after c.loop-i.invariant.1 (search spanned depth 12)
