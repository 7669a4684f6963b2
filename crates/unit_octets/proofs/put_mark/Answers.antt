-- `unit_octets::put_mark` meets its contract, tag by tag.
use Rattle.element.proofs.Names.{ladder}
use Rattle.grammar.specs.Units.{tab, newline, ltr, rtl, revert, octets}
use Rattle.rows.specs.Rows.{mark_tagged}
use Rattle.unit_octets.proofs.Storing.{mark_stored}
use Rattle.unit_octets.proofs.put_mark.Goals as goal

pub returns-in-16 : goal.returns-in-16
unfolding octets mark_tagged
returns-in-16 c = mark_stored tab c.args.tag (search ladder depth 9) c.put.ensures

pub returns-in-17 : goal.returns-in-17
unfolding octets mark_tagged
returns-in-17 c = mark_stored newline c.args.tag (search ladder depth 9) c.put-in-17.ensures

pub returns-in-18 : goal.returns-in-18
unfolding octets mark_tagged
returns-in-18 c = mark_stored ltr c.args.tag (search ladder depth 9) c.put-in-18.ensures

pub returns-in-19 : goal.returns-in-19
unfolding octets mark_tagged
returns-in-19 c = mark_stored rtl c.args.tag (search ladder depth 9) c.put-in-19.ensures

pub returns-in_default : goal.returns-in_default
unfolding octets mark_tagged
returns-in_default c = mark_stored revert c.args.tag (search ladder depth 9) c.put-in_default.ensures
