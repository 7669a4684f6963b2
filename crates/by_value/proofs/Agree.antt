-- A reader that is opened on a string and stepped until it repeats gives the list of `read` and the answer of `check` (`same_list`).
use Rattle.element.proofs.Names.{ℕ, ◌≡◌, ap, sym, ◌∙◌, List, length, le-ltb, pick, UnitRecord}
use denote.Ref.{Bor}
use Rattle.base.specs.Limit as limit
use Rattle.base.specs.Refusal as refusal
use Rattle.grammar.specs.Reading.{check_of}
use Rattle.units.specs.Records.{records_of}
use Rattle.read.specs.Listing.{read_answer}
use Rattle.read.proofs.Filled.{short}
use Rattle.read.proofs.Promises.{stored_records, list_stored, checked}
use Rattle.reader.specs.Reader.{opened, item_at, reader_after, units_before, item_of}
use Rattle.reader.proofs.Whole.{opened_items}

-- an accepted string is not too long
units_before_lem : (s : List ℕ) → (check_of s).number ≡ refusal.accepted → units_before s ≡ records_of s
unfolding units_before pick
units_before_lem s z = rw (le-ltb limit.octets (length s) (short s z))

-- for a list in which `read` stores the units: step k hands out record k of the list, and once they are through the answer of `check`
pub same_list : (s : Bor (List ℕ)) (old : List UnitRecord) → (read_answer s.now (length old)).number ≡ refusal.accepted
    → (k : ℕ) → item_at (reader_after k (opened s)) ≡ item_of k (stored_records s.now old) (check_of s.now)
same_list s old z k =
    opened_items s k
    ∙ ap (λ (us : List UnitRecord). item_of k us (check_of s.now)) (units_before_lem s.now (checked s.now old z) ∙ sym (list_stored s.now old z))
