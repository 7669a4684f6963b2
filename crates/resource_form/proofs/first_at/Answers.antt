-- `resource_form::first_at` meets its contract, octet by octet.
use Rattle.std.proofs.Common.{◌≡◌}
use native.Mathlib.Omega.{arith}
use mathlib.Core.Logic.{inl, inr}
use Rattle.base.proofs.Ladder.{ladder}
use Rattle.resource_form.proofs.Steps.{on_first_lem, no_first}
use Rattle.resource_form.proofs.first_at.Goals as goal

pub returns-in_err-octet : goal.returns-in_err-octet
returns-in_err-octet c = no_first _ _ _ c.in_err-octet.ensures.lookup.3 c.from_residual.ensures

pub returns-in-92 : goal.returns-in-92
returns-in-92 c = on_first_lem _ _ _ _ c.in_ok-octet.ensures.lookup.3 (search ladder depth 9)

pub returns-in-10 : goal.returns-in-10
returns-in-10 c = on_first_lem _ _ _ _ c.in_ok-octet.ensures.lookup.3
    (elim c.in-10.is [ inl e ↦ search (e, ladder) depth 9 | inr e ↦ search (e, ladder) depth 9 ])

pub returns-in_default : goal.returns-in_default
returns-in_default c =
    let not_newline : (c.in_ok-octet.field-0.now ≡ 10 → ⊥) = grind arith in
    let not_nul : (c.in_ok-octet.field-0.now ≡ 0 → ⊥) = grind arith in
    on_first_lem _ _ _ _ c.in_ok-octet.ensures.lookup.3 (search ladder depth 9)
