-- `designations::told` meets its contract: it answers `told_by`, test by test, which is what the octets tell.
use Rattle.element.proofs.Names.{arith, ladder, ap, ◌∙◌}
use Rattle.base.proofs.Ladder.{after}
use Rattle.designations.specs.Designation.{if_named, told_by, told_on}
use Rattle.designations.proofs.ByWord.{told_by_lem, few}
use Rattle.designations.proofs.Found.{none_found, some_is}
use Rattle.designations.proofs.told.Goals as goal
use Rattle.designations.proofs.told.Goals.{then-f-lt40-via-then-f-lt40, then-f-lt40-via-else-f-lt40+then-f-gt47}

pub returns-then-f-lt40 : goal.returns-then-f-lt40
unfolding told_by told_on
returns-then-f-lt40 c =
    let is = told_by_lem _ c.args.c c.args.d _ _ (omega arith) (omega arith) c.either-f.ensures c.either-last.ensures in
    none_found ∙ ap if_named (elim c.then-f-lt40.branch [
      | then-f-lt40-via-then-f-lt40 w ↦ after is (search ladder depth 9)
      | then-f-lt40-via-else-f-lt40+then-f-gt47 w ↦ after is (search ladder depth 9)
    ])

pub overflow_add-place : goal.overflow_add-place
overflow_add-place c = omega (arith, few _ c.either.ensures)

pub overflow_mul-set : goal.overflow_mul-set
overflow_mul-set c = omega (arith, few _ c.either.ensures)

pub overflow_shr-set : goal.overflow_shr-set
overflow_shr-set c = omega (arith, few _ c.either.ensures)

pub returns-then-set-eq15 : goal.returns-then-set-eq15
unfolding told_by told_on
returns-then-set-eq15 c = none_found ∙ ap if_named (after (told_by_lem _ c.args.c c.args.d _ _ (omega arith) (omega arith)
    c.either-f.ensures c.either-last.ensures)
    (rw (← c.named_by.ensures, ← c.either.ensures) (search ladder depth 9)))

pub returns : goal.returns
unfolding told_by told_on
returns c =
    some_is _ _ (after (told_by_lem _ c.args.c c.args.d _ _ (omega arith) (omega arith) c.either-f.ensures c.either-last.ensures)
    (rw (
      ← c.named_by.ensures,
      ← c.either.ensures,
      ← c.either-2.ensures,
      ← c.side_of.ensures,
    ) (search ladder depth 9))) (omega arith)
