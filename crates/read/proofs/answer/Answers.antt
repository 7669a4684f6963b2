-- `read::answer` meets its contract. Assumes nothing.
use Rattle.element.proofs.Names.{ladder}
use Rattle.read.specs.Listing.{read_answer}
use Rattle.read.proofs.answer.Goals as goal

pub returns-then-room-a : goal.returns-then-room-a
unfolding read_answer
returns-then-room-a c = rw (← c.answer-a.ensures) (search ladder)

pub returns-then-a-eq-ACCEPTED : goal.returns-then-a-eq-ACCEPTED
unfolding read_answer
returns-then-a-eq-ACCEPTED c = rw (← c.answer-a.ensures) (search ladder)

pub returns : goal.returns
unfolding read_answer
returns c = rw (← c.answer-a.ensures) (search ladder)
