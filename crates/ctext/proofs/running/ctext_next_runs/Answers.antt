-- `running::ctext_next_runs` meets its contract, by what it calls.
use Rattle.positions.specs.Running.{handed_of}
use Rattle.ctext.proofs.running.ctext_next_runs.Goals as goal

pub returns : goal.returns
unfolding handed_of
returns c =
    let step = c.next_runs-t.ensures in
    rw (← c.position_in.ensures) (rw (← step.0, ← c.reader_of.ensures), step.1)
