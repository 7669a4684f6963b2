-- The three cases of `read`, by its answer and the list after it (`read_cases`).
use Rattle.element.proofs.Names.{ℕ, ◌≤◌, ◌<◌, ◌≡◌, refl, sym, ◌∙◌, Bool, true, false, false≢true, List, ◌++◌, eqb, ltb, length, drop, eqb-true}
use Rattle.element.proofs.Names.{eq-eqb, ltb-true, ltb-false, answer, pick, Answer, UnitRecord}
use Rattle.base.specs.Refusal as refusal
use Rattle.grammar.specs.Reading.{check_of}
use Rattle.units.specs.Records.{records_of}
use Rattle.units.proofs.Records.{records_count}
use Rattle.read.specs.Listing.{read_answer, list_after}

-- the string is refused; it is accepted and the list is too short; or the list takes the records
pub data Case (s : List ℕ) (old : List UnitRecord) : Answer → List UnitRecord → Type 0 where
  refuses : ((check_of s).number ≡ refusal.accepted → ⊥) → Case s old (check_of s) old
  lacks : (check_of s).number ≡ refusal.accepted → length old < length (records_of s) → Case s old (answer refusal.no_room 0 (length (records_of s))) old
  accepts : (check_of s).number ≡ refusal.accepted → (check_of s).count ≡ length (records_of s) → length (records_of s) ≤ length old
      → Case s old (check_of s) (records_of s ++ drop (length (records_of s)) old)

module _ (s : List ℕ) (old : List UnitRecord) where
  abbrev given : Bool → Bool → Answer
  given accepted short = pick accepted (pick short (answer refusal.no_room 0 (check_of s).count) (check_of s)) (check_of s)

  by : (x y : Bool) → eqb (check_of s).number refusal.accepted ≡ x → ltb (length old) (check_of s).count ≡ y
      → Case s old (given x y) (pick (eqb (given x y).number refusal.accepted) (records_of s ++ drop (length (records_of s)) old) old)
  unfolding pick
  by true true e k =
      let z : (check_of s).number ≡ refusal.accepted = eqb-true (check_of s).number refusal.accepted e in
      rw (records_count s z) (lacks z (rw (records_count s z) at (ltb-true (length old) (check_of s).count k)))
  by true false e k =
      let z : (check_of s).number ≡ refusal.accepted = eqb-true (check_of s).number refusal.accepted e in
      rw e (accepts z (records_count s z) (rw (records_count s z) at (ltb-false (length old) (check_of s).count k)))
  by false y e k = rw e (refuses (λ z. false≢true (sym e ∙ eq-eqb (check_of s).number refusal.accepted z)))

  -- the reader's order, and what each answer leaves in the list (rules N5, N7)
  pub read_cases : Case s old (read_answer s (length old)) (list_after s old)
  unfolding read_answer list_after
  read_cases = by (eqb (check_of s).number refusal.accepted) (ltb (length old) (check_of s).count) refl refl
