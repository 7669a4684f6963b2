-- `costs::gl_costs` meets its contract. The invariant: the first r columns hold the least costs, and the others what they held.
use Rattle.element.proofs.Names.{arith, ◌+◌}
use Rattle.table.proofs.Filled.{swept_none, swept_next, swept_gl, swept_end, columns_as}
use Rattle.plan.proofs.Least.{gl_least, unserved_most}
use Rattle.plan.proofs.costs.gl_costs.Goals as goal

pub loop-r-init : goal.loop-r-init
loop-r-init c = (swept_none _ _, c.unserved-p.ensures, c.unserved-q.ensures)

pub gl_column-requires : goal.gl_column-requires
gl_column-requires c = let pre = c.requires in
    let turn = c.loop-r in
    let held = swept_next _ _ _ turn.invariant.0 (search arith) in
    let small = (pre.1 0 (omega arith)).small in (
      search arith,
      omega (arith, held.0, small turn.r, turn.invariant.1, unserved_most c.args.x 2, pre.2),
      omega (arith, held.1, small (16 + turn.r), turn.invariant.2, unserved_most c.args.x 0, pre.2),
    )

pub loop-r-preserved : goal.loop-r-preserved
loop-r-preserved c = let inv = c.loop-r.invariant in
    (swept_gl _ _ _ (search arith) inv.0 c.gl_column.ensures, inv.1, inv.2)

pub returns : goal.returns
returns c = let pre = c.requires in
    let inv = c.loop-r.invariant in
    columns_as _
    (λ g q hg hq. gl_least c.args.cur.now g q hg hq pre.1 c.args.x _ _ _ pre.0 inv.1 inv.2 pre.2)
    (swept_end inv.0 (search arith) (search arith) c.told-cur)
