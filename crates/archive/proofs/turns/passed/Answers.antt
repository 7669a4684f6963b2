-- `archive::turns::passed` meets its contract: a designation that was found stands within the string, and its set is put on its side.
use Rattle.element.proofs.Names.{arith, put}
use Rattle.archive.proofs.Ready.{inside, few_left, no_escape, none_found, found_fits, found_is}
use Rattle.archive.proofs.turns.passed.Goals as goal
use Rattle.archive.proofs.turns.passed.Goals.{then-s-at-lt4-via-then-s-at-lt4, then-s-at-lt4-via-else-s-at-lt4+then-s-at-ne27}

pub overflow_sub-s : goal.overflow_sub-s
unfolding put
overflow_sub-s c = let h = inside _ _ c.requires in omega (arith, h)

pub returns-then-s-at-lt4 : goal.returns-then-s-at-lt4
unfolding put
returns-then-s-at-lt4 c =
    elim c.then-s-at-lt4.branch [
      | then-s-at-lt4-via-then-s-at-lt4 w ↦ few_left _ _ c.requires w.if-s-at-lt4.true
      | then-s-at-lt4-via-else-s-at-lt4+then-s-at-ne27 w ↦ no_escape _ _ c.requires w.if-s-at-lt4.false w.if-s-at-ne27.true
    ]

pub bounds-s-at : goal.bounds-s-at
unfolding put
bounds-s-at c = inside _ _ c.requires

pub returns-in_default : goal.returns-in_default
unfolding put
returns-in_default c = none_found _ _ c.requires c.if-s-at-lt4.false c.if-s-at-ne27.false _ c.told.ensures c.in_default.not-Some

pub overflow_add-at-7 : goal.overflow_add-at-7
unfolding put
overflow_add-at-7 c =
    let h = found_fits _ _ c.requires c.if-s-at-lt4.false c.if-s-at-ne27.false _ c.told.ensures _ c.in-Some.is in omega (arith, h)

pub returns-in-GL : goal.returns-in-GL
unfolding put
returns-in-GL c = rw c.placed_at-next.ensures
    (found_is _ _ c.requires c.if-s-at-lt4.false c.if-s-at-ne27.false _ c.told.ensures _ c.in-Some.is _ _ c.in-GL.is c.row_of.ensures)

pub returns-in-GR : goal.returns-in-GR
unfolding put
returns-in-GR c = rw c.placed_at-next.ensures
    (found_is _ _ c.requires c.if-s-at-lt4.false c.if-s-at-ne27.false _ c.told.ensures _ c.in-Some.is _ _ c.in-GR.is c.row_of-in-GR.ensures)
