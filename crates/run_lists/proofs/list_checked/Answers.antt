-- `run_lists::list_checked` meets its contract, by what the check answers.
use Rattle.run_lists.proofs.Lists.{gave_none, gave_same, on_good, on_bad}
use Rattle.run_lists.proofs.list_checked.Goals as goal

pub list_from-requires : goal.list_from-requires
list_from-requires c = c.requires

pub returns-then-answer-eq-ACCEPTED : goal.returns-then-answer-eq-ACCEPTED
returns-then-answer-eq-ACCEPTED c = gave_same _ (on_good _ _ _ _ c.known-answer.ensures c.if-answer-eq-ACCEPTED.true)
    c.list_from.ensures

pub returns : goal.returns
returns c = gave_none _ _ c.stays.ensures (on_bad _ _ _ _ c.known-answer.ensures c.if-answer-eq-ACCEPTED.false)
