-- `charset::set_of` meets its contract: it answers `found_of`, form by form on each side, which is what the search through the table finds.
use Rattle.base.proofs.Ladder.{ladder, after}
use Rattle.charset.specs.Finals.{found_of}
use Rattle.charset.proofs.Lookup.{found_is}
use Rattle.charset.proofs.set_of.Goals as goal

pub returns-in-1 : goal.returns-in-1
unfolding found_of
returns-in-1 c = after (found_is _ _ _) (rw c.in-GL.is (search ladder))

pub returns-in-3 : goal.returns-in-3
unfolding found_of
returns-in-3 c = after (found_is _ _ _) (rw c.in-GL.is (search ladder))

pub returns-in_default : goal.returns-in_default
unfolding found_of
returns-in_default c = after (found_is _ _ _) (rw c.in-GL.is (search ladder))

pub returns-in-1-form : goal.returns-in-1-form
unfolding found_of
returns-in-1-form c = after (found_is _ _ _) (rw c.in-GR.is (search ladder))

pub returns-in-2 : goal.returns-in-2
unfolding found_of
returns-in-2 c = after (found_is _ _ _) (rw c.in-GR.is (search ladder))

pub returns-in-3-form : goal.returns-in-3-form
unfolding found_of
returns-in-3-form c = after (found_is _ _ _) (rw c.in-GR.is (search ladder))

pub returns-in_default-form : goal.returns-in_default-form
unfolding found_of
returns-in_default-form c = after (found_is _ _ _) (rw c.in-GR.is (search ladder))
