-- `record_rules::own::character` meets its contract.
use Rattle.element.proofs.Names.{sym, ap, ◌∙◌, ℕ, Bool, step_of}
use Rattle.record_rules.proofs.Refusals.{set_none, code_unused, code_fits}
use Rattle.base.specs.Kind as kind
use Rattle.grammar.specs.Units.{code_used}
use Rattle.record_rules.proofs.own.character.Goals as goal
use Rattle.record_rules.proofs.own.character.Goals.{else-set-lt-NO_SET-via-then-set-lt-NO_SET+else-code_used, else-set-lt-NO_SET-via-else-set-lt-NO_SET}

pub returns-then-code_used : goal.returns-then-code_used
returns-then-code_used c = let args = c.args in
    let form = ap (λ (f : ℕ). code_used f args.code) (sym c.form_of.ensures) in
    let used = form ∙ sym c.code_used.ensures ∙ c.if-code_used.true in
    let text = ap (λ (t : Bool). step_of t kind.character args.directions) c.counts_as_text-text.ensures in
    c.step.ensures ∙ text ∙ code_fits _ _ _ c.if-set-lt-NO_SET.true used

pub returns : goal.returns
returns c = elim c.else-set-lt-NO_SET.branch [
  | else-set-lt-NO_SET-via-then-set-lt-NO_SET+else-code_used w ↦
      code_unused _ _ _ w.if-set-lt-NO_SET.true
      (ap (λ (f : ℕ). code_used f c.args.code) (sym w.form_of.ensures) ∙ sym w.code_used.ensures ∙ w.if-code_used.false)
  | else-set-lt-NO_SET-via-else-set-lt-NO_SET w ↦ set_none _ _ _ w.if-set-lt-NO_SET.false
]
