-- The reader as a whole, on plain values: where a look leaves the string to the base reader, its answer and list are those of X11R5; where it refuses, the
-- base reader is given no octets, which leaves the list, and the answer is the look's.
use Rattle.element.proofs.Names.{ℕ, ◌≤◌, ◌<◌, arith, ◌≡◌, refl, ap, sym, ◌∙◌, List, [], length, length-take, take, ltb, le-ltb, ltb-false}
use Rattle.element.proofs.Names.{ne_eqb, pick, test, Answer, UnitRecord}
use Rattle.std.specs.Prelude.{Result, Ok, Err, unwrap_or}
use Rattle.std.specs.Result.{result_unwrap_or, result_err}
use Rattle.base.specs.Refusal as refusal
use Rattle.grammar.specs.Reading.{check_of, answer_of, elements}
use Rattle.units.specs.Records.{records_from, records_of}
use Rattle.read.specs.Listing.{read_answer, list_after}
use Rattle.x11r5.specs.Reading.{before_null, unended_check_of, null_ended_check_of}
use Rattle.x11r5.proofs.Reading.{by_null}
use Rattle.r5_read.specs.Listing.{r5_read_answer, r5_list_after}
use Rattle.r5_read.specs.Look.{Left, Refused, Looked, given_end, settled_by}

-- the octets that the base reader is given
abbrev pub given : List ℕ → Result ℕ Answer → List ℕ
given s l = take (given_end (length s) l) s

-- they are no more than the string has
pub given_within : (n : ℕ) (l : Result ℕ Answer) → given_end n l ≤ n
unfolding given_end pick
given_within n (Ok end) = test (ltb n end) (λ f. rw f (omega arith)) (λ f. rw f (ltb-false n end f))
given_within n (Err refused) = omega arith

-- no octets leave the list
no_octets : (ys : List UnitRecord) → list_after [] ys ≡ ys
unfolding list_after read_answer check_of answer_of elements records_of records_from pick
no_octets ys = rw (le-ltb (length ys) 0 (omega arith))

module _ (s : List ℕ) (end : ℕ) (left : Left s end) where
  ended : length (before_null s) < length s
  ended = omega (arith, ap length (sym left.octets), length-take end s, left.within)

  same_octets : unended_check_of (before_null s) ≡ check_of (before_null s)
  unfolding check_of unended_check_of
  same_octets = rw left.same

  -- the base reader's answer for the octets that it is given is that of the string
  same_check : check_of (take end s) ≡ null_ended_check_of s
  same_check = ap check_of left.octets ∙ sym same_octets ∙ sym (by_null s ended)

  pub answer_left : (m : ℕ) → read_answer (take end s) m ≡ r5_read_answer s m
  unfolding read_answer r5_read_answer
  answer_left m = rw same_check

  pub list_left : (ys : List UnitRecord) → list_after (take end s) ys ≡ r5_list_after s ys
  unfolding list_after r5_list_after read_answer r5_read_answer records_of
  list_left ys = rw (same_check, left.octets, left.same)

module _ (s : List ℕ) (a : Answer) (refused : Refused s a) where
  pub answer_refused : (m : ℕ) → a ≡ r5_read_answer s m
  unfolding r5_read_answer pick
  answer_refused m = rw (← refused.same, ne_eqb a.number refusal.accepted refused.refuses)

  pub list_refused : (ys : List UnitRecord) → ys ≡ r5_list_after s ys
  unfolding r5_list_after r5_read_answer pick
  list_refused ys = rw (← refused.same, ne_eqb a.number refusal.accepted refused.refuses, ne_eqb a.number refusal.accepted refused.refuses)

-- of a string that is left to it the octets before the place, which is not past the end
given_is : (s : List ℕ) (end : ℕ) → Left s end → given s (Ok end) ≡ take end s
unfolding given_end pick
given_is s end left = rw (le-ltb (length s) end (omega (arith, left.within)))

-- and none of one that is refused
given_none : (s : List ℕ) (refused : Answer) → given s (Err refused) ≡ []
unfolding given_end
given_none s refused = refl

pub read_answer_lem : (s : List ℕ) (l : Result ℕ Answer) → Looked s l → (m : ℕ) → settled_by l (read_answer (given s l) m) ≡ r5_read_answer s m
unfolding settled_by
read_answer_lem s (Ok end) h m = ap (λ (t : List ℕ). read_answer t m) (given_is s end h) ∙ answer_left s end h m
read_answer_lem s (Err refused) h m = answer_refused s refused h m

pub read_list : (s : List ℕ) (l : Result ℕ Answer) → Looked s l → (ys : List UnitRecord) → list_after (given s l) ys ≡ r5_list_after s ys
read_list s (Ok end) h ys = ap (λ (t : List ℕ). list_after t ys) (given_is s end h) ∙ list_left s end h ys
read_list s (Err refused) h ys = ap (λ (t : List ℕ). list_after t ys) (given_none s refused) ∙ no_octets ys ∙ list_refused s refused h ys

-- how many octets these are, and the answer, as the code takes them out of the look
pub given_or : (s : List ℕ) (l : Result ℕ Answer) → Looked s l → result_unwrap_or l 0 ≡ given_end (length s) l
unfolding given_end pick
given_or s (Ok end) h = rw (le-ltb (length s) end (omega (arith, h.within)))
given_or s (Err refused) h = refl

pub settled_or : (l : Result ℕ Answer) (a : Answer) → unwrap_or (result_err l) a ≡ settled_by l a
unfolding settled_by
settled_or (Ok end) a = refl
settled_or (Err refused) a = refl
