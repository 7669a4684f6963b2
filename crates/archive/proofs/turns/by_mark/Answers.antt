-- `archive::turns::by_mark` meets its contract: a unit is next, so a mark that is read by its second octet is that of the elements.
use Rattle.element.proofs.Names.{◌∙◌}
use Rattle.archive.proofs.Ready.{mark_turn_lem}
use Rattle.archive.proofs.turns.by_mark.Goals as goal

pub returns : goal.returns
returns c = c.with_row.ensures ∙ mark_turn_lem _ _ c.requires _ c.marked.ensures
