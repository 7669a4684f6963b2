-- `numbered::one` meets its contract, by what it calls.
use Rattle.element.proofs.Names.{arith}
use Rattle.read.proofs.numbered.one.Statement.{statement}
use Rattle.read.proofs.numbered.one.Tie as tie

returns : tie.Need-returns
returns c = rw (c.one_octet.ensures, c.before.before.direction.ensures, c.before.before.before.set_at.ensures)

pub one_spec : {M : Type 1} → statement M
one_spec = tie.close (tie.spec (search arith) (search arith) (search arith) (search arith) (search arith) returns)
