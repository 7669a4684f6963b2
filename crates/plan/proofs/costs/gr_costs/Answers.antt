-- `costs::gr_costs` meets its contract: the lesser costs are the least.
use Rattle.element.proofs.Names.{arith, refl}
use Rattle.table.proofs.Filled.{columns_as, column_at}
use Rattle.plan.proofs.Least.{fit-column, lesser_gr}
use Rattle.plan.proofs.costs.gr_costs.Goals as goal

pub lesser_costs-requires : goal.lesser_costs-requires
lesser_costs-requires c = let pre = c.requires in
    let s = fit-column 3 _ _ _ _ refl c.args.prices.now.by_three pre.0 pre.1.2 refl (column_at (omega (arith, pre.1.2)) c.column-v.ensures) in
    (s, s)

pub returns : goal.returns
returns c = columns_as _
    (λ g q hg hq. lesser_gr c.args.x c.args.next.now g q hg hq c.requires.0 _ _ _ c.requires.1 c.args.prices.now.by_three
    (column_at (omega (arith, c.requires.1.2)) c.column-v.ensures))
    c.lesser_costs.ensures
