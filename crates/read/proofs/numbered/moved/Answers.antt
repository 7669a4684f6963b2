-- `numbered::moved` meets its contract, test by test. Assumes nothing.
use Rattle.element.proofs.Names.{ladder, arith}
use Rattle.spans.specs.Spans.{moved_of}
use Rattle.read.proofs.numbered.moved.Goals as goal

pub overflow_add-place : goal.overflow_add-place
overflow_add-place c = let h = c.requires.0 c.if-r-eq-ONES.true in omega (arith, h)

pub returns-then-r-eq-ONES : goal.returns-then-r-eq-ONES
unfolding moved_of
returns-then-r-eq-ONES c = search ladder depth 9

pub overflow_mul-place : goal.overflow_mul-place
overflow_mul-place c = let h = c.requires.1 c.if-r-gt-ONES.true in record { fits = omega (arith, h) }

pub overflow_add-place-then-r-gt-ONES : goal.overflow_add-place-then-r-gt-ONES
overflow_add-place-then-r-gt-ONES c = let h = c.requires.1 c.if-r-gt-ONES.true in omega (arith, h)

pub returns-then-r-gt-ONES : goal.returns-then-r-gt-ONES
unfolding moved_of
returns-then-r-gt-ONES c = search ladder depth 9

pub returns : goal.returns
unfolding moved_of
returns c = search ladder depth 9
