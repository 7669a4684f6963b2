-- No record of an accepted string offends: the string reads as its records do, so that the check of a list goes through all of them (`fine_end`),
-- and so through the first k (`fine_at`).
use Rattle.element.proofs.Names.{ℕ, zero, suc, ◌≤◌, arith, ◌≡◌, refl, sym, ◌∙◌, subst, List, leb, length, get_or, leb-true, UnitRecord, Directions}
use Rattle.element.proofs.Names.{clash, test, tested}
use Rattle.base.specs.Refusal as refusal
use Rattle.grammar.specs.Reading.{Octets, check_of, reading_of}
use Rattle.std.specs.Prelude.{Ok, Err}
use Rattle.check_list.specs.Turn.{Progress, turn_of}
use Rattle.check_list.proofs.Turns.{fine_faulty}
use Rattle.shortest.specs.Offence.{no_record}
use Rattle.shortest.specs.Records.{fine}
use Rattle.shortest.proofs.Offence.{no_offence}
use Rattle.shortest.proofs.Records.{read_list}
use Rattle.units.specs.Records.{records_of}
use Rattle.units.proofs.Records.{records_read}
use Rattle.write.specs.Stowed.{reached}
use Rattle.write.proofs.Lists.{checked_of, reached_checked}

-- the check of the first k records of a list finds nothing
pub record FineAt (o : List ℕ) (rs : List UnitRecord) (k : ℕ) : Type 0 where
  pub directions : Directions
  pub is : reached o rs k ≡ Ok directions

module _ (o : List ℕ) (rs : List UnitRecord) where
  by_finding : (k : ℕ) (p : Progress) → reached o rs k ≡ p → fine ≡ checked_of p → FineAt o rs k
  by_finding k (Ok d) q e = record { directions = d; is = q }
  by_finding k (Err f) q e = clash (cc e)

  -- a fault stays, so that there was none before
  one_before : (k : ℕ) → FineAt o rs (suc k) → FineAt o rs k
  unfolding reached turn_of
  one_before k h = go (reached o rs k) refl h.is
    where
      go : (p : Progress) → reached o rs k ≡ p → turn_of o (get_or rs k no_record) k p ≡ Ok h.directions → FineAt o rs k
      go (Ok d) q e = record { directions = d; is = q }
      go (Err f) q e = absurd (fine_faulty f h.directions e)

  pub before : (n : ℕ) → FineAt o rs n → (k : ℕ) → k ≤ n → FineAt o rs k
  before zero h k l = subst (FineAt o rs) (let z : 0 ≡ k = omega arith in z) h
  before (suc n) h k l =
      test (leb k n) (λ q. before n (one_before n h) k (leb-true k n q)) (λ q. subst (FineAt o rs) (let z : suc n ≡ k = omega tested in z) h)

module _ (s : List ℕ) (octets : Octets s) (accepted : (check_of s).number ≡ refusal.accepted) where
  pub fine_end : FineAt s (records_of s) (length (records_of s))
  fine_end =
      let read = read_list s (records_of s) (reading_of s) s (records_read s) (record { octets = octets; accepted = accepted; reading = refl }) in
      by_finding s (records_of s) _ _ refl (sym ((no_offence s (records_of s)).1 read.none) ∙ reached_checked s (records_of s))

  pub fine_at : (k : ℕ) → k ≤ length (records_of s) → FineAt s (records_of s) k
  fine_at = before s (records_of s) _ fine_end
