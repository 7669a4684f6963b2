-- `charset::octets_of` meets its contract: the octets of a character stand in the set's row.
use Rattle.charset.specs.Charsets.{form_of, charset_of}
use Rattle.charset.proofs.octets_of.Goals as goal

pub returns : goal.returns
unfolding form_of charset_of
returns c = rw c.row_of-row.ensures
