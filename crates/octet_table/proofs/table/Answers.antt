-- `octet_table::table` meets its contract: the one test that antt computes, of all 1,536 numbers against the rule.
use Rattle.element.proofs.Names.{refl, pick}
use Rattle.text.specs.Text.{graphic_of}
use Rattle.element.specs.Start.{used_in, character_start, left_start, start_of}
use Rattle.octet_table.specs.Table.{number_of, rule_of, entries, table}
use Rattle.octet_table.proofs.table.Goals as goal

pub returns : goal.returns
unfolding table entries rule_of number_of start_of left_start character_start used_in graphic_of pick
returns c = refl
