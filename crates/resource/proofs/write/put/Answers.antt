-- `resource::write::put` meets its contract.
use native.Mathlib.Omega.{arith}
use Rattle.resource.proofs.Writing.{part_sets}
use Rattle.resource.proofs.write.put.Goals as goal

pub returns : goal.returns
returns g c = (omega arith, part_sets c.args.octets c.args.out.now _ c.args.at g.row.N (omega arith) c.requires c.copy_from_slice.ensures.after)
