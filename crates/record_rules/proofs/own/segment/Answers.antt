-- `record_rules::own::segment` meets its contract, refusal by refusal.
use Rattle.element.proofs.Names.{arith, refl, sym, ◌∙◌}
use Rattle.segment.proofs.Steps.{ends_within}
use Rattle.record_rules.proofs.Refusals.{part_outside, part_low, part_high, part_many, part_found, part_ragged, part_bad, not_ended}
use Rattle.record_rules.proofs.own.segment.Goals as goal
use Rattle.record_rules.proofs.own.segment.Goals.{then-m-start-via-then-m-start, then-m-start-via-else-m-start+then-m-start-2}
use Rattle.record_rules.proofs.own.segment.Goals.{then-m-start-via-else-m-start+else-m-start-2+then-d-lt48}
use Rattle.record_rules.proofs.own.segment.Goals.{then-m-start-via-else-m-start+else-m-start-2+else-d-lt48+then-d-gt52}

pub returns-then-m-start : goal.returns-then-m-start
returns-then-m-start c = elim c.then-m-start.branch [
  | then-m-start-via-then-m-start w ↦ part_outside c.args.segments.now _ _ _ _ (omega (arith, w.if-m-start.true))
  | then-m-start-via-else-m-start+then-m-start-2 w ↦
      part_outside c.args.segments.now _ _ _ _ (omega (arith, w.if-m-start.false, w.if-m-start-2.true))
  | then-m-start-via-else-m-start+else-m-start-2+then-d-lt48 w ↦ search part_low
  | then-m-start-via-else-m-start+else-m-start-2+else-d-lt48+then-d-gt52 w ↦ search part_high
]

pub returns-then-n-gt16383 : goal.returns-then-n-gt16383
returns-then-n-gt16383 c = search part_many

pub returns-in_default : goal.returns-in_default
returns-in_default c = part_bad c.args.segments.now _ _ _ _ c.if-m-start.false
    c.if-m-start-2.false c.if-d-lt48.false c.if-d-gt52.false c.if-n-gt16383.false
    _ c.name_end.ensures
    (not_ended c.name_end.result c.in_default.not-Ok)

pub overflow_sub-size : goal.overflow_sub-size
overflow_sub-size c = let h = ends_within c.args.segments.now _ _ _ c.if-m-start-2.false
    c.in-Ok.ensures refl in
    omega (arith, h)

pub overflow_sub-size-2 : goal.overflow_sub-size-2
overflow_sub-size-2 c = let h = ends_within c.args.segments.now _ _ _ c.if-m-start-2.false
    c.in-Ok.ensures refl in
    omega (arith, h)

pub returns-then-whole : goal.returns-then-whole
returns-then-whole c = rw c.counts_as_text-text.ensures at c.step.ensures ∙
    part_found c.args.segments.now _ _ _ _ c.if-m-start.false
    c.if-m-start-2.false c.if-d-lt48.false c.if-d-gt52.false c.if-n-gt16383.false _ c.in-Ok.ensures
    refl (sym c.whole.ensures ∙ c.if-whole.true)

pub returns : goal.returns
returns c = part_ragged c.args.segments.now _ _ _ _ c.if-m-start.false
    c.if-m-start-2.false c.if-d-lt48.false c.if-d-gt52.false c.if-n-gt16383.false _ c.in-Ok.ensures
    refl (sym c.whole.ensures ∙ c.if-whole.false)
