-- A turn of the loop that puts the units of an accepted string into their rows: the units to come are those from the i-th on, each before
-- it stands in its row.
use Rattle.element.proofs.Names.{ℕ, suc, ◌+◌, ◌≤◌, ◌<◌, arith, add-one, ◌≡◌, sym, ◌∙◌, List, ◌∷◌, length, get_or, drop, UnitRecord, fresh, State}
use Rattle.element.proofs.Names.{pick}
use lib.Seq.{drop-cons}
use Rattle.base.specs.Limit as limit
use Rattle.check_list.proofs.Turns.{put_turn}
use Rattle.rows.specs.Rows.{with_record}
use Rattle.rows.specs.Stowable.{stowable_of}
use Rattle.units.specs.Next.{next_of}
use Rattle.units.specs.Records.{records_of}
use Rattle.units.specs.Next.{Outcome, Gives, outcome_seen}
use Rattle.units.specs.declared.Given.{Given}
use Rattle.units.specs.declared.Stopped.{Stopped}
use Rattle.std.proofs.Common.{Result, Ok, Err}
use Rattle.element.proofs.Names.{refl, clash}
use Rattle.write.specs.Stowed.{reached, Stowed}
use Rattle.shortest.specs.Offence.{no_record}
use Rattle.write.proofs.Lists.{stowed_none, stowed_next}
use Rattle.rewrite.proofs.Coming.{Comes, Next, comes_first, next}
use Rattle.rewrite.proofs.Unoffending.{FineAt}

pub record Head (s before : List ℕ) (i at : ℕ) (st : State) (w : List ℕ) : Type 0 where
  pub few : i ≤ length (records_of s)
  pub comes : Comes s at st (drop i (records_of s))
  pub stowed : Stowed s (records_of s) i before w

pub head_first : (s before : List ℕ) → Head s before 0 0 fresh before
head_first s before = record { few = omega arith; comes = comes_first s; stowed = stowed_none s (records_of s) before }

module _ (s : List ℕ) (short : length s ≤ limit.octets) (before : List ℕ) (i at : ℕ) (st : State) (w : List ℕ)
    (h : Head s before i at st w) (more : i < length (records_of s)) where
  comes_next : Next s (next_of s at st) (drop i (records_of s))
  comes_next = next s short at st (drop i (records_of s)) h.comes (rw (drop-cons (records_of s) i no_record more) (omega arith))

  -- there is a next unit
  pub head_more : (o : Outcome) → o ≡ next_of s at st → ((u : UnitRecord) (place : ℕ) (to : State) → o ≡ Gives u place to → ⊥) → ⊥
  head_more o e never = never _ _ _ (e ∙ comes_next.gives)

  -- the list from a place on is its record and the rest
  cut : get_or (records_of s) i no_record ∷ drop (suc i) (records_of s) ≡ comes_next.unit ∷ comes_next.rest
  cut = sym (drop-cons (records_of s) i no_record more) ∙ comes_next.is

  first_is : get_or (records_of s) i no_record ≡ comes_next.unit
  first_is = cc cut

  rest_is : drop (suc i) (records_of s) ≡ comes_next.rest
  rest_is = cc cut

  pub head_next : (o : Outcome) (u : UnitRecord) (place : ℕ) (to : State) (v : List ℕ) → o ≡ next_of s at st → o ≡ Gives u place to
      → FineAt s (records_of s) (suc i) → v ≡ pick (stowable_of u) (with_record w i u) w → Head s before (i + 1) place to v
  unfolding reached
  head_next o u place to v d e f g =
      let a : Gives comes_next.unit comes_next.place comes_next.to ≡ Gives u place to = sym comes_next.gives ∙ (sym d ∙ e) in
      let b : u ≡ get_or (records_of s) i no_record = (let z : comes_next.unit ≡ u = cc in sym z ∙ sym first_is) in
      let there : comes_next.place ≡ place = cc in
      let state : comes_next.to ≡ to = cc in
      let k : i + 1 ≡ suc i = add-one i in
      let put = put_turn s (get_or (records_of s) i no_record) i w _ (reached s (records_of s) i) f.is in
      record {
        few = omega arith;
        comes = rw (k, rest_is, ← there, ← state) comes_next.comes;
        stowed = rw (k, g, b, put) (stowed_next s (records_of s) i before w h.stowed);
      }

-- an answer that is no unit
pub never_given : (r : Result Given Stopped) → ((g : Given) → r ≡ Ok g → ⊥) → (u : UnitRecord) (place : ℕ) (to : State)
    → outcome_seen r ≡ Gives u place to → ⊥
never_given (Ok g) n u place to e = n g refl
never_given (Err x) n u place to e = clash (cc e)
