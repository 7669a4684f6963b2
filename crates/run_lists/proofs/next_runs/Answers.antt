-- `run_lists::next_runs` meets its contract, test by test.
use Rattle.element.proofs.Names.{ap, sym, ◌∙◌}
use Rattle.run_lists.specs.Listed.{runs_step}
use Rattle.run_lists.proofs.Lists.{gave_none, gave_same, on_long, on_may, on_none}
use Rattle.run_lists.proofs.next_runs.Goals as goal

pub returns-then-s-gt-OCTETS : goal.returns-then-s-gt-OCTETS
returns-then-s-gt-OCTETS c = gave_none _ _ (c.stays.ensures ∙ ap (runs_step _) c.at.ensures) (on_long _ _ _ c.if-s-gt-OCTETS.true)

pub list_checked-requires : goal.list_checked-requires
list_checked-requires c = c.if-s-gt-OCTETS.false

pub returns-then-may_stand : goal.returns-then-may_stand
returns-then-may_stand c = let may = sym c.may_stand.ensures ∙ c.if-may_stand.true in
    gave_same _ (on_may _ _ _ c.if-s-gt-OCTETS.false may) c.list_checked.ensures

pub returns : goal.returns
returns c = let may = sym c.may_stand.ensures ∙ c.if-may_stand.false in
    gave_none _ _ (c.stays-2.ensures ∙ ap (runs_step _) c.at-2.ensures) (on_none _ _ _ c.if-s-gt-OCTETS.false may)
