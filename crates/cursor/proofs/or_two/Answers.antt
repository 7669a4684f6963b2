-- `cursor::or_two` meets its contract, test by test.
use Rattle.cursor.specs.Cursor.{double_of}
use Rattle.cursor.proofs.Rules.{reading}
use Rattle.cursor.proofs.or_two.Goals as goal
use Rattle.cursor.proofs.or_two.Goals.{else-next-s-via-then-next-s+then-b-ne32+else-set-lt-NO_SET, else-next-s-via-then-next-s+else-b-ne32}
use Rattle.cursor.proofs.or_two.Goals.{else-next-s-via-else-next-s}

pub returns-then-set-lt-NO_SET : goal.returns-then-set-lt-NO_SET
unfolding double_of
returns-then-set-lt-NO_SET c = search reading depth 9

pub returns-else-next-s : goal.returns-else-next-s
unfolding double_of
returns-else-next-s c =
    elim c.else-next-s.branch [
      | else-next-s-via-then-next-s+then-b-ne32+else-set-lt-NO_SET w ↦ search reading depth 9
      | else-next-s-via-then-next-s+else-b-ne32 w ↦ search reading depth 9
      | else-next-s-via-else-next-s w ↦ search reading depth 9
    ]
