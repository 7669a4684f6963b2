-- `r5_read::stops::null_from` meets its contract: no 00 stands from the place on, octet by octet.
use Rattle.element.proofs.Names.{ℕ, arith, ◌≡◌, subst, length}
use Rattle.r5_read.specs.Stops.{FirstNull}
use Rattle.r5_read.proofs.Places.{null_first, null_next, null_found, null_end}
use Rattle.r5_read.proofs.stops.null_from.Goals as goal

pub loop-i-init : goal.loop-i-init
loop-i-init c = null_first _ _ c.requires

pub returns-then-s-i-eq0 : goal.returns-then-s-i-eq0
returns-then-s-i-eq0 c = null_found _ _ _ c.loop-i.invariant c.if-s-i-eq0.true

pub loop-i-preserved : goal.loop-i-preserved
loop-i-preserved c = null_next _ _ _ c.loop-i.invariant c.loop-i-test.true c.if-s-i-eq0.false

pub returns : goal.returns
returns c =
    let end : c.loop-i.i ≡ length c.args.s.now = omega (arith, c.loop-i.invariant.within, c.loop-i-test.false) in
    subst (λ (i : ℕ). FirstNull c.args.s.now c.args.at i) end (null_end _ _ _ c.loop-i.invariant c.loop-i-test.false)
