-- `stores::put` meets its contract.
use Rattle.element.proofs.Names.{arith}
use Rattle.unit_octets.proofs.Storing.{stored_yes, stored_no, written_part}
use Rattle.unit_octets.proofs.stores.put.Goals as goal
use Rattle.unit_octets.proofs.stores.put.Goals.{then-out-via-then-out, then-out-via-else-out+then-out-at}

pub returns-then-out : goal.returns-then-out
returns-then-out g c = stored_no (elim c.then-out.branch [ then-out-via-then-out w ↦ omega arith | then-out-via-else-out+then-out-at w ↦ omega arith ])

pub returns : goal.returns
returns g c = stored_yes (omega arith) (written_part c.copy_from_slice.ensures.after (omega arith) (omega arith) (omega arith))
