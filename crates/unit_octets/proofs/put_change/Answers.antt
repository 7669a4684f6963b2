-- `unit_octets::put_change` meets its contract, by where the two numbers differ.
use Rattle.unit_octets.proofs.Storing.{stored_none, stored_as, change_none, change_gr, change_gl}
use Rattle.unit_octets.proofs.put_change.Goals as goal

pub returns-then-j-k : goal.returns-then-j-k
returns-then-j-k c = stored_as (change_none _ _ c.if-j-k.true) (stored_none _ _)

pub returns-then-j-k-2 : goal.returns-then-j-k-2
returns-then-j-k-2 c = stored_as (change_gr _ _ _ c.if-j-k.false c.if-j-k-2.true c.set_in_gr.ensures.0)
    c.put_designation.ensures

pub returns : goal.returns
returns c = stored_as (change_gl _ _ _ c.if-j-k.false c.if-j-k-2.false c.set_in_gl.ensures.0)
    c.put_designation-2.ensures
