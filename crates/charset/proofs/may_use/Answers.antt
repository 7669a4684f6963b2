-- `charset::may_use` meets its contract: the sides stand in the set's row.
use Rattle.charset.specs.Charsets.{may_use, allowed, charset_of}
use Rattle.charset.proofs.may_use.Goals as goal

pub returns-in-GL : goal.returns-in-GL
unfolding allowed may_use charset_of
returns-in-GL c = rw (c.in-GL.is, c.row_of-row.ensures)

pub returns-in-GR : goal.returns-in-GR
unfolding allowed may_use charset_of
returns-in-GR c = rw (c.in-GR.is, c.row_of-row.ensures)
