-- `cursor::passed` meets its contract: a designation that was found stands within the string.
use Rattle.element.proofs.Names.{arith}
use Rattle.cursor.proofs.Fits.{found_fits, passed_some, passed_none}
use Rattle.cursor.proofs.passed.Goals as goal

pub returns-in-Ok : goal.returns-in-Ok
returns-in-Ok c = passed_some _ _ _ c.designation_at.ensures _ _ c.in-Ok.is
    (rw (c.cursor_at.ensures, c.designated.ensures, c.state.ensures))

pub returns-in-Err : goal.returns-in-Err
returns-in-Err c = passed_none _ _ _ c.designation_at.ensures _ c.in-Err.is

pub overflow_add-c : goal.overflow_add-c
overflow_add-c c = omega (arith, found_fits _ c.args.c _ c.designation_at.ensures _ c.in-Ok.is)
