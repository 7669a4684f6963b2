-- `costs::gl_costs` meets its contract. The invariant: the first r columns hold the least costs, and the others what they held.
use Rattle.element.proofs.Names.{◌≡◌, cond, eqb}
use Rattle.table.specs.Table.{Swept}
use Rattle.table.proofs.Filled.{costs_gl}
use Rattle.plan.proofs.costs.gl_costs.Given as goal

abbrev pub invariant-loop-r : goal.invariant-loop-r
invariant-loop-r l =
    Swept (costs_gl l.p l.q l.three l.initial.cur) l.r l.initial.cur l.cur × (l.p ≡ cond (eqb l.x 2) 6 0) × (l.q ≡ cond (eqb l.x 0) 6 0)
