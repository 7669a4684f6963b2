-- `marks::marked` meets its contract, test by test.
use Rattle.cursor.specs.Cursor.{after_csi, mark_of, marked_turn}
use Rattle.cursor.proofs.Rules.{marking}
use Rattle.cursor.proofs.marks.marked.Goals as goal
use Rattle.cursor.proofs.marks.marked.Goals.{then-s-gt-OCTETS-via-then-s-gt-OCTETS, then-s-gt-OCTETS-via-else-s-gt-OCTETS+then-s-at}
use Rattle.cursor.proofs.marks.marked.Goals.{then-s-gt-OCTETS-via-else-s-gt-OCTETS+else-s-at+then-s-at-2}
use Rattle.cursor.proofs.marks.marked.Goals.{then-s-gt-OCTETS-via-else-s-gt-OCTETS+else-s-at+else-s-at-2+then-s-at-3}

pub returns-then-s-gt-OCTETS : goal.returns-then-s-gt-OCTETS
unfolding after_csi mark_of marked_turn
returns-then-s-gt-OCTETS c =
    elim c.then-s-gt-OCTETS.branch [
      | then-s-gt-OCTETS-via-then-s-gt-OCTETS w ↦ search marking depth 9
      | then-s-gt-OCTETS-via-else-s-gt-OCTETS+then-s-at w ↦ search marking depth 9
      | then-s-gt-OCTETS-via-else-s-gt-OCTETS+else-s-at+then-s-at-2 w ↦ search marking depth 9
      | then-s-gt-OCTETS-via-else-s-gt-OCTETS+else-s-at+else-s-at-2+then-s-at-3 w ↦ search marking depth 12
    ]

pub returns-in-49 : goal.returns-in-49
unfolding after_csi mark_of marked_turn
returns-in-49 c = search marking depth 12

pub returns-in-50 : goal.returns-in-50
unfolding after_csi mark_of marked_turn
returns-in-50 c = search marking depth 12

pub returns-in_default : goal.returns-in_default
unfolding after_csi mark_of marked_turn
returns-in_default c = search marking depth 12
