-- `read::stored` meets its contract. Assumes nothing.
use Rattle.element.proofs.Names.{ladder}
use Rattle.read.specs.Listing.{stored_of}
use Rattle.read.proofs.stored.Statement.{statement}
use Rattle.read.proofs.stored.Tie as tie

pub stored_spec : {M : Type 1} → statement M
unfolding stored_of
stored_spec = tie.close (tie.spec (λ c. search ladder) (λ c. search ladder))
