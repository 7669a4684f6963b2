-- `Directions::written` meets its contract, test by test.
use Rattle.base.proofs.Ladder.{ladder}
use Rattle.state.specs.Directions.{written_of}
use Rattle.state.proofs.directions.Directions.written.Goals as goal
use Rattle.state.proofs.directions.Directions.written.Goals.{else-self-via-then-self+else-self-eq0, else-self-via-else-self}

pub returns-then-self-eq0 : goal.returns-then-self-eq0
unfolding written_of
returns-then-self-eq0 c = search ladder depth 9

pub returns : goal.returns
unfolding written_of
returns c =
    elim c.else-self.branch [ else-self-via-then-self+else-self-eq0 w ↦ search ladder depth 9 | else-self-via-else-self w ↦ search ladder depth 9 ]
