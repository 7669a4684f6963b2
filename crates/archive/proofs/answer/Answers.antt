-- `archive::answer` meets its contract. Assumes nothing.
use Rattle.element.proofs.Names.{ladder}
use Rattle.read.specs.Listing.{read_answer}
use Rattle.archive.proofs.answer.Goals as goal
use Rattle.archive.proofs.answer.Goals.{else-a-eq-ACCEPTED-via-then-a-eq-ACCEPTED+else-room-a, else-a-eq-ACCEPTED-via-else-a-eq-ACCEPTED}

pub returns-then-room-a : goal.returns-then-room-a
unfolding read_answer
returns-then-room-a c = rw (← c.check_by-a.ensures) (search ladder)

pub returns : goal.returns
unfolding read_answer
returns c =
    rw (← c.check_by-a.ensures)
    (elim c.else-a-eq-ACCEPTED.branch [
      | else-a-eq-ACCEPTED-via-then-a-eq-ACCEPTED+else-room-a w ↦ search ladder
      | else-a-eq-ACCEPTED-via-else-a-eq-ACCEPTED w ↦ search ladder
    ])
