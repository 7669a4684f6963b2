-- Where a reader opened on a string stands once it has handed out the string's units and its answer: at the end, or at the start of the
-- element that is refused, in the state there, however often it is asked again (`stands_at_stop`). So of a refused string the element's
-- start is not lost: the element at the reader's place, under its state, is refused with the string's number, and the octet that offends
-- there is that of the string's answer (`stands_at_element`). By `opened_hands`, and by what is known of the element where a reading stops.
use Rattle.element.proofs.Names.{ℕ, ◌≤◌, ◌<◌, ◌≡◌, sym, List, length}
use denote.Ref.{Bor}
use Rattle.base.specs.Limit as limit
use Rattle.base.specs.Refusal as refusal
use Rattle.grammar.specs.Reading.{check_of}
use Rattle.grammar.proofs.Pointed.{refused_element, refused_place}
use Rattle.units.specs.Records.{records_of}
use Rattle.reader.specs.Reader.{opened, reader_after, at_stop, AtRefused}
use Rattle.reader.proofs.Whole.{lasts, opened_hands}

-- the whole reader after more steps than there are units (rule U7)
pub stands_at_stop : (s : Bor (List ℕ)) → length s.now ≤ limit.octets → (k : ℕ) → length (records_of s.now) < k
    → reader_after k (opened s) ≡ at_stop s
stands_at_stop s short k h = lasts (opened_hands s short) k h

-- the element at which the reader of a refused string stands (rule U7)
pub stands_at_element : (s : Bor (List ℕ)) → length s.now ≤ limit.octets → ((check_of s.now).number ≡ refusal.accepted → ⊥) → (k : ℕ)
    → length (records_of s.now) < k → AtRefused (reader_after k (opened s)) (check_of s.now)
stands_at_element s short refused k h =
    let r = refused_element s.now short refused in
    rw (stands_at_stop s short k h) (record { offset = r.offset; refuses = r.element; offends = sym (refused_place s.now r) })
