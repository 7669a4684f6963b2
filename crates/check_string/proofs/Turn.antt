-- A turn of the loop of `whole`, on plain values: what is left answers what the whole string does, before the turn and after it.
use Rattle.element.proofs.Names.{ℕ, ◌+◌, ◌≤◌, ◌<◌, arith, ◌≡◌, refl, ap, sym, ◌∙◌, List, length, answer, refused_at, from, Answer, from_end, no_set}
use Rattle.element.proofs.Names.{Side, step_of, fresh, designated_of, State, Part, Directions, Step, Goes, Stops, Shape, Refuses, Designates, Gives, Element}
use Rattle.element.proofs.Names.{End, Refused, Silent, Found}
use native.Mathlib.Numerals.{unary_clauses}
use Rattle.element.specs.Element.{shape_of, stepped_of, directed_of, element_of}
use Rattle.element.proofs.Sizes.{silent, found}
use Rattle.grammar.specs.Reading.{size, elements_of, answer_of}
use Rattle.grammar.proofs.Elements.{at_nothing}
use Rattle.grammar.proofs.Places.{ahead, at_end, at_refused, at_passed, refused_within, step_passed}
use Rattle.state.specs.State.{directed_to}
use Rattle.state.specs.Elements.{Ends}
use Rattle.stretch.specs.Characters.{stretch_at}
use Rattle.std.proofs.Common.{Ok}
use Rattle.std.specs.Prelude.{Result}
use Rattle.designations.specs.Designation.{named_or, designation_at}
use Rattle.stretch.specs.declared.characters.Stretch.{Stretch}
use Rattle.designations.specs.declared.Designation.{Designation}
use Rattle.designations.specs.declared.Unnamed.{Unnamed}
use Rattle.designations.proofs.Designations.{designation_silent}
use Rattle.designations.proofs.Found.{ok_named}
use Rattle.stretch.proofs.Law.{units_answer}
use Rattle.stretch.proofs.Stretches.{stretch_ahead}

abbrev pub whole : List ℕ → Answer
whole s = answer_of 0 (elements_of s)

-- the loop's invariant: what is left answers what the whole does
pub record Head (s : List ℕ) (at count : ℕ) (st : State) : Type 0 where
  pub within : at ≤ length s
  pub few : count ≤ at
  pub same : answer_of count (ahead s at st) ≡ whole s

pub head_first : (s : List ℕ) → Head s 0 0 fresh
unfolding from
head_first s = record { within = omega arith; few = omega arith; same = refl }

-- elements of k octets, after which the count is m
pub record Next (s : List ℕ) (at k m : ℕ) (next : State) : Type 0 where
  pub some : 1 ≤ k
  pub fits : at + k ≤ length s
  pub head : Head s (at + k) m next

module _ (s : List ℕ) (at count : ℕ) (st : State) (e : Element) (is : e ≡ element_of (from at s) st) (h : Head s at count st) where
  turn_end : e ≡ End → answer 0 at count ≡ whole s
  unfolding answer_of
  turn_end k = sym (ap (answer_of count) (at_end s at st e is k)) ∙ h.same

  turn_refused : {n o : ℕ} → e ≡ Refused n o → refused_at n (at + o) ≡ whole s
  unfolding answer_of
  turn_refused k = sym (ap (answer_of count) (at_refused s at st e is k)) ∙ h.same

  -- the place after an element, where the count is at most one more
  on : {k m : ℕ} {next : State} → 1 ≤ k → at + k ≤ length s → m ≤ count + 1
      → answer_of m (ahead s (at + k) next) ≡ answer_of count (ahead s at st)
      → Next s at k m next
  on some fits few same =
      record { some = some; fits = fits; head = record { within = fits; few = omega (arith, h.few, some, few); same = same ∙ h.same } }

  turn_silent : {k : ℕ} {next : State} → e ≡ Silent k next → Next s at k count next
  unfolding answer_of
  turn_silent i =
      let t = step_passed s at st e is silent i in
      on t.some t.fits (omega arith) (sym (ap (answer_of count) (at_passed s at st e is silent i)))

  turn_found : {p : Part} {next : State} → e ≡ Found p next → Next s at (size p) (count + 1) next
  unfolding answer_of
  turn_found i =
      let t = step_passed s at st e is found i in
      on t.some t.fits (omega arith) (sym (ap (answer_of count) (at_passed s at st e is found i)))

-- the same by the element's shape, as the loop asks for it: the shape first, and the direction rule for a unit alone
module _ (s : List ℕ) (at count : ℕ) (st : State) (h : Head s at count st) (sh : Shape) (is : sh ≡ shape_of (from at s) st.sets) where
  abbrev formed : directed_of sh st ≡ element_of (from at s) st
  formed = ap (λ x. directed_of x st) is

  abbrev under : {other : Shape} → sh ≡ other → directed_of sh st ≡ directed_of other st
  under k = ap (λ x. directed_of x st) k

  abbrev ruled : {p : Part} {step other : Step} → sh ≡ Gives p → step ≡ step_of p.text p.kind st.directions → step ≡ other
      → directed_of sh st ≡ stepped_of p st other
  unfolding directed_of
  ruled k rule goes = under k ∙ ap (stepped_of _ st) (sym rule ∙ goes)

  pub turn_ends : sh ≡ Ends → answer 0 at count ≡ whole s
  unfolding directed_of
  turn_ends k = turn_end s at count st _ formed h (under k)

  pub turn_short : {n o : ℕ} → sh ≡ Refuses n o → at + o ≤ length s
  unfolding directed_of
  turn_short k = refused_within s at st _ formed (under k)

  pub turn_refuses : {n o : ℕ} → sh ≡ Refuses n o → refused_at n (at + o) ≡ whole s
  unfolding directed_of
  turn_refuses k = turn_refused s at count st _ formed h (under k)

  pub turn_designates : {k c : ℕ} {d : Side} → sh ≡ Designates k d c → Next s at k count (designated_of d c st)
  unfolding directed_of
  turn_designates k = turn_silent s at count st _ formed h (under k)

  pub turn_stops : {p : Part} {step : Step} {n : ℕ} → sh ≡ Gives p → step ≡ step_of p.text p.kind st.directions → step ≡ Stops n
      → refused_at n at ≡ whole s
  unfolding stepped_of
  turn_stops k rule stops = simp unary_clauses at (turn_refused s at count st _ formed h (ruled k rule stops))

  pub turn_goes : {p : Part} {step : Step} {d : Directions} → sh ≡ Gives p → step ≡ step_of p.text p.kind st.directions → step ≡ Goes d
      → Next s at (size p) (count + 1) (directed_to d st)
  unfolding stepped_of
  turn_goes k rule goes = turn_found s at count st _ formed h (ruled k rule goes)

module _ (s : List ℕ) (at count : ℕ) (st : State) (h : Head s at count st) where
  pub turn_done : length s ≤ at → answer 0 at count ≡ whole s
  turn_done k = turn_end s at count st End (rw (from_end s at k) (sym (at_nothing st))) h refl

  -- a designation that is found by its octets
  pub turn_designation : (d : Designation) → d ≡ designation_at (from at s) → d.set < no_set
      → Next s at d.octets count (designated_of d.side d.set st)
  turn_designation d e k = turn_silent s at count st _ (designation_silent (from at s) st d e k) h refl

  pub turn_designated : (o : Result Designation Unnamed) (d : Designation) → o ≡ named_or (designation_at (from at s)) → o ≡ Ok d
      → Next s at d.octets count (designated_of d.side d.set st)
  turn_designated o d e i = let h = ok_named o _ e d i in turn_designation d h.0 h.1

  -- a stretch
  pub turn_stretch : (r : Stretch) → r ≡ stretch_at (from at s) st → 0 < r.octets → Next s at r.octets (count + r.units) st
  turn_stretch r e k =
      let a = stretch_ahead s at st r e h.within k in
      record {
        some = omega arith;
        fits = a.fits;
        head = record { within = a.fits; few = omega (arith, h.few, a.few); same = sym (units_answer a.units count) ∙ h.same };
      }
