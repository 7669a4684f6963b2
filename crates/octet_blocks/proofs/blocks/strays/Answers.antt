-- `octet_blocks::blocks::strays` meets its contract: in each turn as many octets are outside of the span as were counted (`Counted`).
use Rattle.std.proofs.Common.{◌≡◌, ℕ, ◌+◌, subst, arith}
use Rattle.octet_blocks.proofs.Counted.{Zero, counted_next, counted_fits, outside_at, outside_most, within_zero}
use Rattle.octet_blocks.proofs.blocks.strays.Goals as goal

pub overflow_add-n : goal.overflow_add-n
overflow_add-n c = let inv = c.loop-j.invariant in
    let a = c.args in
    let most = outside_most a.first a.last a.s.now in
    omega (arith, counted_fits _ _ most _ _ _ inv.0 c.loop-j-test.true c.outside-n.ensures)

pub loop-j-preserved : goal.loop-j-preserved
loop-j-preserved c = let inv = c.loop-j.invariant in
    let a = c.args in
    (counted_next _ _ (outside_most a.first a.last a.s.now) _ _ _ inv.0 c.outside-n.ensures, omega arith)

pub returns : goal.returns
returns c = λ e. let inv = c.loop-j.invariant in
    let z : c.loop-j.j ≡ 64 = omega (arith, inv.1, c.loop-j-test.false) in
    let a = c.args in
    within_zero _ _ _ _ _ c.requires
    (subst (λ (j : ℕ). Zero (outside_at a.first a.last a.s.now) a.at (a.at + j)) z (inv.0.none e))
