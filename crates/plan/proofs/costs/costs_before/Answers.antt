-- `costs::costs_before` meets its contract, by where the class has a place.
use Rattle.element.proofs.Names.{arith, ℕ, ◌≤◌, subst, get_or}
use Rattle.numbers.specs.Numbers.{places_in_gl}
use Rattle.plan.proofs.Least.{last_surcharge, in_right}
use Rattle.plan.proofs.costs.costs_before.Goals as goal

pub gl_costs-requires : goal.gl_costs-requires
gl_costs-requires c = let pre = c.requires in
    ((pre.0, subst (λ (r : ℕ). 13 ≤ r) c.from-r.ensures c.if-r-ge-GR.true), pre.1, last_surcharge _ 3 c.args.prices.now.by_three)

pub both_costs-requires : goal.both_costs-requires
both_costs-requires c = let pre = c.requires in
    let x = c.args.x in (
      pre.1 x (omega (arith, pre.0)),
      (in_right x _ pre.0 c.from-r.ensures c.if-r-ge-GR.false, c.from-l.ensures, c.from-r.ensures, c.if-l-lt-GL.true, c.if-r-ge-GR.false),
    )

pub gr_costs-requires : goal.gr_costs-requires
gr_costs-requires c = let pre = c.requires in
    let x = c.args.x in
    let none : 5 ≤ get_or places_in_gl x 0 = omega (arith, c.from-l.ensures, c.if-l-lt-GL.false) in
    (pre.1 x (omega (arith, pre.0)), (in_right x _ pre.0 c.from-r.ensures c.if-r-ge-GR.false, c.from-r.ensures, c.if-r-ge-GR.false, none))
