-- `emit::put` meets its contract.
use Rattle.element.proofs.Names.{arith}
use Rattle.unit_octets.proofs.Storing.{written_part}
use Rattle.emit.proofs.put.Goals as goal

pub returns : goal.returns
returns g c = written_part c.copy_from_slice.ensures.after (omega arith) (omega arith) (omega arith)
