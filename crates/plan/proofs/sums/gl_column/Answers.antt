-- `sums::gl_column` meets its contract.
use Rattle.table.proofs.Filled.{gl_column_of}
use Rattle.plan.proofs.sums.gl_column.Goals as goal

pub returns : goal.returns
returns c = let pre = c.requires in
    gl_column_of _ _ _ _ _ _ _ _ _ _ pre.0 c.told-cur c.min-2.ensures c.min-3.ensures c.min.ensures
