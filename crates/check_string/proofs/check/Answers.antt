-- `check_string::check` meets its contract, by what `whole` ensures.
use Rattle.check_string.proofs.check.Goals as goal

pub returns : goal.returns
returns c = rw c.whole.ensures
