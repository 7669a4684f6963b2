-- `unit_octets::put_segment` meets its contract: six octets, and the part.
use Rattle.element.proofs.Names.{arith}
use Rattle.unit_octets.proofs.Storing.{written_as, written_both, written_length, stored_yes, stored_no, stored_written, segment_octets}
use Rattle.unit_octets.proofs.Storing.{segment_length}
use Rattle.unit_octets.proofs.put_segment.Goals as goal
use Rattle.unit_octets.proofs.put_segment.Goals.{then-out-at-via-then-out-at, then-out-at-via-else-out-at+then-out-at-2}

pub returns-then-out-at : goal.returns-then-out-at
returns-then-out-at c = let long = segment_length c.args.d c.args.part.now in
    stored_no
    (elim c.then-out-at.branch [
      | then-out-at-via-then-out-at w ↦ omega (arith, long)
      | then-out-at-via-else-out-at+then-out-at-2 w ↦ omega (arith, long)
    ])

pub copy-requires : goal.copy-requires
copy-requires c = let lead = stored_written (omega arith) c.put-at.ensures in omega (arith, lead.next, written_length lead)

pub returns : goal.returns
returns c = let lead = stored_written (omega arith) c.put-at.ensures in
    stored_yes (omega (arith, segment_length c.args.d c.args.part.now))
    (written_as (segment_octets c.args.d c.args.part.now) (written_both lead c.copy.ensures))
