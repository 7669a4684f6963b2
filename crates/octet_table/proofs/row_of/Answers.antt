-- `octet_table::row_of` meets its contract, by what `form_of`, `left_of` and `right_of` ensure.
use Rattle.element.proofs.Names.{arith, refl}
use Rattle.octet_table.proofs.Rule.{left_most, right_most}
use Rattle.octet_table.proofs.row_of.Goals as goal

pub overflow_add-result : goal.overflow_add-result
overflow_add-result c = let l = left_most c.form_of.result in
    let r = right_most c.form_of-2.result in omega (arith, l, r, c.left_of.ensures, c.right_of.ensures)

pub returns : goal.returns
returns c = rw (c.left_of.ensures, c.right_of.ensures, c.form_of.ensures, c.form_of-2.ensures) refl
