-- `rows::record::tag_of` meets its contract, by the kind.
use Rattle.element.proofs.Names.{arith, ladder}
use Rattle.rows.specs.Rows.{tag_of}
use Rattle.check_list.proofs.record.tag_of.Goals as goal

pub returns-then-kind-eq-CHARACTER : goal.returns-then-kind-eq-CHARACTER
unfolding tag_of
returns-then-kind-eq-CHARACTER c = search ladder depth 9

pub overflow_sub-result : goal.overflow_sub-result
unfolding tag_of
overflow_sub-result c = omega (arith, c.requires.low c.if-kind-eq-SEGMENT.true)

pub overflow_cast-result : goal.overflow_cast-result
unfolding tag_of
overflow_cast-result c = omega (arith, c.requires.high c.if-kind-eq-SEGMENT.true)

pub returns-then-kind-eq-SEGMENT : goal.returns-then-kind-eq-SEGMENT
unfolding tag_of
returns-then-kind-eq-SEGMENT c = search ladder depth 9

pub returns : goal.returns
unfolding tag_of
returns c = search ladder depth 9
