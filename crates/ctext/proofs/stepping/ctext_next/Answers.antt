-- `stepping::ctext_next` meets its contract, by what it calls.
use Rattle.positions.specs.Stepping.{next_handed}
use Rattle.ctext.proofs.stepping.ctext_next.Goals as goal

pub returns : goal.returns
unfolding next_handed
returns c = rw (← c.state_in.ensures, ← c.step-t.ensures, ← c.position_of.ensures) c.hand.ensures
