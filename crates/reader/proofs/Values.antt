-- What a reader opened on a string hands out, by the values of each item (`unit_in`, `answer_in`): as many units as stand before the end or the
-- refusal, the k-th at step k and no answer beside it (`opened_unit`), and from then on the string's answer and no unit (`opened_answer`).
-- By `opened_items`, and induction on the units.
use Rattle.element.proofs.Names.{ℕ, zero, suc, ◌≤◌, ◌<◌, arith, ◌≡◌, refl, ap, ◌∙◌, List, [], ◌∷◌, none, some, length, get_or, Answer}
use Rattle.element.proofs.Names.{UnitRecord}
use denote.Ref.{Bor}
use Rattle.grammar.specs.Reading.{check_of}
use Rattle.units.specs.Records.{blank}
use Rattle.std.specs.Prelude.{Result, Ok, Err}
use Rattle.reader.specs.Step.{unit_in, answer_in}
use Rattle.reader.specs.Reader.{opened, item_at, reader_after, units_before, item_of}
use Rattle.reader.proofs.Whole.{opened_items}

item_given : (k : ℕ) (us : List UnitRecord) (a : Answer) → k < length us → item_of k us a ≡ Ok (get_or us k blank)
unfolding item_of
item_given k [] a h = absurd (omega (arith, h))
item_given zero (u ∷ us) a h = refl
item_given (suc k) (u ∷ us) a h = item_given k us a (omega (arith, h))

item_ended : (k : ℕ) (us : List UnitRecord) (a : Answer) → length us ≤ k → item_of k us a ≡ Err a
unfolding item_of
item_ended k [] a h = refl
item_ended zero (u ∷ us) a h = absurd (omega (arith, h))
item_ended (suc k) (u ∷ us) a h = item_ended k us a (omega (arith, h))

module _ (s : Bor (List ℕ)) (k : ℕ) where
  abbrev item : Result UnitRecord Answer
  item = item_at (reader_after k (opened s))

  -- step k, while there are units (rule U7)
  pub opened_unit : k < length (units_before s.now) → (unit_in item ≡ some (get_or (units_before s.now) k blank)) × (answer_in item ≡ none)
  opened_unit h =
      let e : item ≡ Ok (get_or (units_before s.now) k blank) = opened_items s k ∙ item_given k (units_before s.now) (check_of s.now) h in
      (ap unit_in e, ap answer_in e)

  -- and every step after them (rules U7, N1)
  pub opened_answer : length (units_before s.now) ≤ k → (unit_in item ≡ none) × (answer_in item ≡ some (check_of s.now))
  opened_answer h =
      let e : item ≡ Err (check_of s.now) = opened_items s k ∙ item_ended k (units_before s.now) (check_of s.now) h in
      (ap unit_in e, ap answer_in e)
