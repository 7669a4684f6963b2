-- `archive::turns::turn` meets its contract, by the class of the octet at the cursor.
use Rattle.archive.proofs.Ready.{inside, row_fits}
use Rattle.archive.proofs.turns.turn.Goals as goal

pub class_at-k-requires : goal.class_at-k-requires
class_at-k-requires c = let pre = c.requires in (pre.0, row_fits _ _ pre.1, inside _ _ pre.1)
