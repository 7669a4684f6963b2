-- The units of an accepted string, one after the other from a place and a state on: where the units to come are those of a list, the next
-- unit is its first, and after it those to come are the rest (`next`).
use Rattle.element.proofs.Names.{ℕ, ◌+◌, ◌≤◌, arith, ◌≡◌, refl, List, ◌∷◌, length, UnitRecord, fresh, State}
use Rattle.base.specs.Limit as limit
use Rattle.grammar.specs.Reading.{Elements, size, elements_of}
use Rattle.grammar.proofs.Places.{Ahead, ends, stops, passes, reads, from_start}
use Rattle.units.specs.Next.{outcome_of, next_of}
use Rattle.units.specs.Records.{record_of, records_from, records_of}
use Rattle.units.specs.Next.{Outcome}
use Rattle.units.specs.Next.{Gives}
use Rattle.units.proofs.Records.{next_ahead}

-- the units that come from a place and a state on are those of a list
pub record Comes (s : List ℕ) (at : ℕ) (st : State) (l : List UnitRecord) : Type 0 where
  pub es : Elements
  pub ahead : Ahead s at st es
  pub are : records_from es ≡ l

pub comes_first : (s : List ℕ) → Comes s 0 fresh (records_of s)
unfolding records_of
comes_first s = record { es = elements_of s; ahead = from_start s; are = refl }

-- an outcome that gives a unit, and those that come after it
pub record Next (s : List ℕ) (o : Outcome) (l : List UnitRecord) : Type 0 where
  pub unit : UnitRecord
  pub place : ℕ
  pub to : State
  pub rest : List UnitRecord
  pub gives : o ≡ Gives unit place to
  pub is : l ≡ unit ∷ rest
  pub comes : Comes s place to rest

next_of_lem : (s : List ℕ) {at : ℕ} {st : State} {es : Elements} → Ahead s at st es → 1 ≤ length (records_from es)
    → Next s (outcome_of st es) (records_from es)
unfolding records_from outcome_of
next_of_lem s (ends e) k = absurd (omega arith)
next_of_lem s (stops f e) k = absurd (omega arith)
next_of_lem s (passes t e a) k = next_of_lem s a k
next_of_lem s {at} (reads {p = p} {next = next} {es = es} t m e a) k =
    record {
      unit = record_of p at next.directions;
      place = at + size p;
      to = next;
      rest = records_from es;
      gives = refl;
      is = refl;
      comes = record { es = es; ahead = a; are = refl };
    }

pub next : (s : List ℕ) → length s ≤ limit.octets → (at : ℕ) (st : State) (l : List UnitRecord) → Comes s at st l → 1 ≤ length l
    → Next s (next_of s at st) l
next s short at st l h k = rw (next_ahead s short h.ahead) (rw h.are at (next_of_lem s h.ahead (rw h.are k)))
