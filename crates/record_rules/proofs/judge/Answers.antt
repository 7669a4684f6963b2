-- `record_rules::judge` meets its contract, by the kind.
use Rattle.element.proofs.Names.{arith, ap, ◌∙◌, Bool, step_of}
use Rattle.record_rules.proofs.Refusals.{kind_character, kind_plain, kind_segment, kind_none}
use Rattle.record_rules.proofs.judge.Goals as goal

pub returns-in-0 : goal.returns-in-0
returns-in-0 c = c.character.ensures ∙ kind_character _ _ _ c.in-0.is

pub returns-in-7 : goal.returns-in-7
returns-in-7 c = c.segment.ensures ∙ kind_segment _ _ _ c.in-7.is

pub returns-in-1-to-6 : goal.returns-in-1-to-6
returns-in-1-to-6 c = let args = c.args in
    c.step.ensures
    ∙ ap (λ (t : Bool). step_of t args.unit.kind args.directions) c.counts_as_text-text.ensures
    ∙ kind_plain _ _ _ (λ e. omega arith) (omega arith)

pub returns : goal.returns
returns c = kind_none _ _ _ (omega arith)
