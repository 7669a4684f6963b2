-- `numbered::two` meets its contract, by what it calls.
use Rattle.element.proofs.Names.{arith}
use Rattle.read.proofs.numbered.two.Statement.{statement}
use Rattle.read.proofs.numbered.two.Tie as tie

returns : tie.Need-returns
returns c = rw (c.two_octets.ensures, c.before.before.direction.ensures)

pub two_spec : {M : Type 1} → statement M
two_spec = tie.close (tie.spec (search arith) (search arith) (search arith) (search arith) (search arith) (search arith) returns)
