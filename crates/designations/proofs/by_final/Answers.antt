-- `designations::by_final` meets its contract, by what `set_of` ensures.
use Rattle.designations.proofs.by_final.Goals as goal

pub returns : goal.returns
returns c = rw c.set_of-set.ensures
