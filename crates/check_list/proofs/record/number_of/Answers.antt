-- `rows::record::number_of` meets its contract, by the kind.
use Rattle.element.proofs.Names.{arith, ladder}
use Rattle.rows.specs.Rows.{number_of}
use Rattle.check_list.proofs.record.number_of.Goals as goal

pub overflow_cast-result : goal.overflow_cast-result
unfolding number_of
overflow_cast-result c = omega (arith, c.requires.few c.if-kind-eq-SEGMENT.true)

pub returns-then-kind-eq-SEGMENT : goal.returns-then-kind-eq-SEGMENT
unfolding number_of
returns-then-kind-eq-SEGMENT c = search ladder

pub returns : goal.returns
unfolding number_of
returns c = search ladder
