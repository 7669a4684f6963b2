-- `r5_read::stops::first_stop` meets its contract: after the blocks, octet by octet, none before the place stops.
use Rattle.element.proofs.Names.{ℕ, arith, ◌≡◌, ◌∙◌, ap, subst, length}
use Rattle.r5_read.specs.Stops.{stop_by, FirstStop}
use Rattle.r5_read.proofs.Places.{free_next, first_stop, stop_end}
use Rattle.r5_read.proofs.stops.first_stop.Goals as goal

pub returns-then-stop-eq1 : goal.returns-then-stop-eq1
returns-then-stop-eq1 c = first_stop _ _ _ c.loop-i.invariant
    (c.stop.ensures ∙ ap (stop_by _) c.octet.ensures) c.if-stop-eq1.true

pub loop-i-preserved : goal.loop-i-preserved
loop-i-preserved c = free_next _ _ _ c.loop-i.invariant c.loop-i-test.true
    (c.stop.ensures ∙ ap (stop_by _) c.octet.ensures) c.if-stop-eq1.false

pub returns : goal.returns
returns c =
    let end : c.loop-i.i ≡ length c.args.s.now = omega (arith, c.loop-i.invariant.within, c.loop-i-test.false) in
    subst (λ (i : ℕ). FirstStop c.args.s.now i) end (stop_end _ _ c.loop-i.invariant c.loop-i-test.false)
