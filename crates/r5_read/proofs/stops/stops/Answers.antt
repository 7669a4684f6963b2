-- `r5_read::stops::stops` meets its contract: in each turn as many places stop as were counted (`Counted`).
use Rattle.element.proofs.Names.{ℕ, ◌+◌, arith, ◌≡◌, subst}
use Rattle.octet_blocks.proofs.Counted.{Zero, counted_first, counted_next, counted_fits}
use Rattle.r5_read.specs.Stops.{stop_at}
use Rattle.r5_read.proofs.Places.{stop_most, free_zero}
use Rattle.r5_read.proofs.stops.stops.Goals as goal

pub loop-j-init : goal.loop-j-init
loop-j-init c = counted_first _ _

pub overflow_add-n : goal.overflow_add-n
overflow_add-n c =
    let s = c.args.s.now in
    let h = c.loop-j-test.true in
    omega (arith, counted_fits _ _ (stop_most s) _ _ _ c.loop-j.invariant (omega (arith, h)) c.stop-n.ensures)

pub loop-j-preserved : goal.loop-j-preserved
loop-j-preserved c = counted_next _ _ (stop_most c.args.s.now) _ _ _ c.loop-j.invariant c.stop-n.ensures

pub returns : goal.returns
returns c = λ e.
    let a = c.args in
    let z : c.loop-j.j ≡ 32 = omega (arith, c.loop-j-test.false) in
    free_zero _ _ _ (omega (arith, c.requires))
    (subst (λ (j : ℕ). Zero (stop_at a.s.now) a.at (a.at + j)) z (c.loop-j.invariant.none e))
