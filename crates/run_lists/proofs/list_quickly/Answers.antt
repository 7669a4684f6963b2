-- `run_lists::list_quickly` meets its contract, by what `list_text` ensures; and nothing is done where text would change the state.
use Rattle.element.proofs.Names.{sym, ◌∙◌}
use Rattle.run_lists.proofs.Lists.{on_first_lem}
use Rattle.run_lists.proofs.list_quickly.Goals as goal

pub list_text-requires : goal.list_text-requires
list_text-requires c = let pre = c.requires in
    (pre, sym c.settled.ensures ∙ c.if-settled.true, c.in_force.ensures)

pub returns-then-settled : goal.returns-then-settled
returns-then-settled c = c.list_text.ensures

pub returns-else-settled : goal.returns-else-settled
returns-else-settled c = on_first_lem _ _ _
