-- `approved::row_of` meets its contract: at a number that is known antt computes the row, and a number that is none of the fifteen has none.
use Rattle.base.specs.Choice.{pick}
use Rattle.charset.specs.Charsets.{width_of_form, charset_of}
use Rattle.charset.proofs.Laws.{known_row, no_row}
use Rattle.charset.proofs.approved.row_of.Goals as goal

pub returns-in-0 : goal.returns-in-0
unfolding charset_of width_of_form pick
returns-in-0 c = search known_row

pub returns-in-1 : goal.returns-in-1
unfolding charset_of width_of_form pick
returns-in-1 c = search known_row

pub returns-in-2 : goal.returns-in-2
unfolding charset_of width_of_form pick
returns-in-2 c = search known_row

pub returns-in-3 : goal.returns-in-3
unfolding charset_of width_of_form pick
returns-in-3 c = search known_row

pub returns-in-4 : goal.returns-in-4
unfolding charset_of width_of_form pick
returns-in-4 c = search known_row

pub returns-in-5 : goal.returns-in-5
unfolding charset_of width_of_form pick
returns-in-5 c = search known_row

pub returns-in-6 : goal.returns-in-6
unfolding charset_of width_of_form pick
returns-in-6 c = search known_row

pub returns-in-7 : goal.returns-in-7
unfolding charset_of width_of_form pick
returns-in-7 c = search known_row

pub returns-in-8 : goal.returns-in-8
unfolding charset_of width_of_form pick
returns-in-8 c = search known_row

pub returns-in-9 : goal.returns-in-9
unfolding charset_of width_of_form pick
returns-in-9 c = search known_row

pub returns-in-10 : goal.returns-in-10
unfolding charset_of width_of_form pick
returns-in-10 c = search known_row

pub returns-in-11 : goal.returns-in-11
unfolding charset_of width_of_form pick
returns-in-11 c = search known_row

pub returns-in-12 : goal.returns-in-12
unfolding charset_of width_of_form pick
returns-in-12 c = search known_row

pub returns-in-13 : goal.returns-in-13
unfolding charset_of width_of_form pick
returns-in-13 c = search known_row

pub returns-in-14 : goal.returns-in-14
unfolding charset_of width_of_form pick
returns-in-14 c = search known_row

pub returns-in_default : goal.returns-in_default
unfolding charset_of width_of_form pick
returns-in_default c = no_row _ c.in_default.in_default-own.rest
