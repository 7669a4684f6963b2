-- `running::ctext_next_run` meets its contract, by what it calls.
use Rattle.positions.specs.Running.{next_run_handed}
use Rattle.ctext.proofs.running.ctext_next_run.Goals as goal

pub returns : goal.returns
unfolding next_run_handed
returns c = rw (← c.position_in.ensures, ← c.next_run-t.ensures, ← c.reader_of.ensures)
