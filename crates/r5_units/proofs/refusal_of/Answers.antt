-- `r5_units::refusal_of` meets its contract.
use Rattle.element.proofs.Names.{ap, refl, sym, ◌∙◌}
use Rattle.r5_units.proofs.Refusals.{single_accepted, plain_accepted, goes_by_kind, stops_bad, stops_by_kind, is_bad_unit, no_bad_unit}
use Rattle.state.specs.Directions.{step_seen}
use Rattle.r5_units.proofs.refusal_of.Goals as goal
use Rattle.r5_units.proofs.refusal_of.Goals.{then-single-via-then-single, then-single-via-else-single+then-plain}
use Rattle.r5_units.proofs.refusal_of.Goals.{in_default-via-in-Err+else-eq, in_default-via-in_default}

pub returns-then-single : goal.returns-then-single
returns-then-single c = elim c.then-single.branch [
  | then-single-via-then-single w ↦ single_accepted _ _ (sym c.single.ensures ∙ w.if-single.true)
  | then-single-via-else-single+then-plain w ↦ plain_accepted _ _ (sym w.plain.ensures ∙ w.if-plain.true)
]

pub returns-in-Err : goal.returns-in-Err
returns-in-Err c =
    let b = is_bad_unit c.in-Err.refusal (sym c.eq.ensures ∙ c.if-eq.true) in
    b ∙ stops_bad _ _ c.in-Err.ensures refl b

pub returns-in_default : goal.returns-in_default
returns-in_default c = elim c.in_default.branch [
  | in_default-via-in-Err+else-eq w ↦
      stops_by_kind _ _ w.in-Err.ensures refl (no_bad_unit w.in-Err.refusal (sym w.eq.ensures ∙ w.if-eq.false)) c.by_kind.ensures
  | in_default-via-in_default w ↦ goes_by_kind _ _ c.judge.ensures (ap step_seen w.in_default.is) c.by_kind.ensures
]
