-- `resource::write::needed` meets its contract. The invariant is `Counted`, and each turn is `count_next`.
use native.Mathlib.Omega.{arith}
use Rattle.resource.proofs.Writing.{count_first, count_next, count_last, count_few}
use Rattle.resource.proofs.write.needed.Goals as goal

pub loop-octet-init : goal.loop-octet-init
loop-octet-init c = count_first _

pub overflow_add-n : goal.overflow_add-n
overflow_add-n c = let next = count_next _ _ _ _ c.loop-octet-test.true c.loop-octet.invariant c.size.ensures in
    omega (arith, count_few _ _ _ c.requires next)

pub loop-octet-preserved : goal.loop-octet-preserved
loop-octet-preserved c = search count_next

pub returns : goal.returns
returns c = search count_last
