-- A turn of the loop of `next_unit`, on plain values: the element at a place gives what all elements from there give, or those after it do.
use Rattle.element.proofs.Names.{ℕ, ◌+◌, ◌≡◌, sym, ap, List, from, UnitRecord, State, Part, Element, End, Refused, Silent, Found}
use Rattle.base.specs.Refusal as refusal
use Rattle.element.specs.Element.{element_of}
use Rattle.element.proofs.Sizes.{silent, found}
use Rattle.grammar.specs.Reading.{size}
use Rattle.grammar.proofs.Places.{ahead, at_end, at_refused, at_passed}
use Rattle.units.specs.Records.{record_of}
use Rattle.units.specs.Next.{outcome_of}
use Rattle.units.specs.Next.{Outcome, Gives, Stops}

-- what the elements from a place on give
abbrev pub outcome : List ℕ → ℕ → State → Outcome
outcome s at st = outcome_of st (ahead s at st)

module _ (s : List ℕ) (at : ℕ) (st : State) (e : Element) (is : e ≡ element_of (from at s) st) where
  pub gives_end : e ≡ End → Stops refusal.accepted at at st ≡ outcome s at st
  unfolding outcome_of
  gives_end i = sym (ap (outcome_of st) (at_end s at st e is i))

  pub gives_refused : {n o : ℕ} → e ≡ Refused n o → Stops n (at + o) at st ≡ outcome s at st
  unfolding outcome_of
  gives_refused i = sym (ap (outcome_of st) (at_refused s at st e is i))

  pub gives_silent : {k : ℕ} {next : State} → e ≡ Silent k next → outcome s (at + k) next ≡ outcome s at st
  unfolding outcome_of
  gives_silent i = sym (ap (outcome_of st) (at_passed s at st e is silent i))

  pub gives_found : {p : Part} {next : State} {r : UnitRecord} → e ≡ Found p next → r ≡ record_of p at next.directions
      → Gives r (at + size p) next ≡ outcome s at st
  unfolding outcome_of
  gives_found i q = rw q (sym (ap (outcome_of st) (at_passed s at st e is found i)))
