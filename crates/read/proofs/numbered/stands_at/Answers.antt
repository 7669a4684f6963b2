-- `numbered::stands_at` meets its contract: the unit is in the string (`Within`), and the tests are those of its definition. Assumes nothing.
use Rattle.element.proofs.Names.{ladder, arith}
use Rattle.read.proofs.Within.{one_within, two_within}
use Rattle.spans.specs.Spans.{stands_after}
use Rattle.read.proofs.numbered.stands_at.Goals as goal

pub overflow_add-c : goal.overflow_add-c
unfolding stands_after
overflow_add-c c = omega (arith, one_within c.requires c.if-r-eq-ONES.true)

pub single_at-requires : goal.single_at-requires
unfolding stands_after
single_at-requires c = omega (arith, one_within c.requires c.if-r-eq-ONES.true)

pub returns-then-r-eq-ONES : goal.returns-then-r-eq-ONES
unfolding stands_after
returns-then-r-eq-ONES c = search ladder depth 9

pub overflow_mul-j : goal.overflow_mul-j
unfolding stands_after
overflow_mul-j c = record { fits = omega (arith, two_within c.requires (omega (arith, c.if-r-eq-LEFT_TWOS.true))) }

pub overflow_add-c-then-r-eq-LEFT_TWOS : goal.overflow_add-c-then-r-eq-LEFT_TWOS
unfolding stands_after
overflow_add-c-then-r-eq-LEFT_TWOS c = omega (arith, two_within c.requires (omega (arith, c.if-r-eq-LEFT_TWOS.true)))

pub left_at-requires : goal.left_at-requires
unfolding stands_after
left_at-requires c = omega (arith, two_within c.requires (omega (arith, c.if-r-eq-LEFT_TWOS.true)))

pub returns-then-r-eq-LEFT_TWOS : goal.returns-then-r-eq-LEFT_TWOS
unfolding stands_after
returns-then-r-eq-LEFT_TWOS c = search ladder depth 9

pub overflow_mul-j-then-r-eq-RIGHT_TWOS : goal.overflow_mul-j-then-r-eq-RIGHT_TWOS
overflow_mul-j-then-r-eq-RIGHT_TWOS c = let h = two_within c.requires (omega (arith, c.if-r-eq-RIGHT_TWOS.true)) in
    record { fits = omega (arith, h) }

pub overflow_add-c-then-r-eq-RIGHT_TWOS : goal.overflow_add-c-then-r-eq-RIGHT_TWOS
overflow_add-c-then-r-eq-RIGHT_TWOS c = let h = two_within c.requires (omega (arith, c.if-r-eq-RIGHT_TWOS.true)) in
    omega (arith, h)

pub right_at-requires : goal.right_at-requires
right_at-requires c = let h = two_within c.requires (omega (arith, c.if-r-eq-RIGHT_TWOS.true)) in
    omega (arith, h)

pub returns-then-r-eq-RIGHT_TWOS : goal.returns-then-r-eq-RIGHT_TWOS
unfolding stands_after
returns-then-r-eq-RIGHT_TWOS c = search ladder depth 9

pub returns : goal.returns
unfolding stands_after
returns c = search ladder depth 9
