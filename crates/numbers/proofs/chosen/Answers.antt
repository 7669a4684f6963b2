-- `numbers::chosen` meets its contract: a class below `double` has one designation to choose from.
use Rattle.numbers.proofs.Numbers.{chosen_only}
use Rattle.numbers.proofs.chosen.Goals as goal

pub returns-then-x-lt-DOUBLE : goal.returns-then-x-lt-DOUBLE
returns-then-x-lt-DOUBLE c = chosen_only _ _ _ _ _ c.after_first-a.ensures c.if-a-k.false c.if-x-lt-DOUBLE.true
