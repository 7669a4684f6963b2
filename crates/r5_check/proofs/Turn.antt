-- A turn of the loop of `check`, on plain values: what is left answers what the whole string does, before the turn and after it, with what X11R5
-- does not have refused where it stands.
use Rattle.element.proofs.Names.{ℕ, ◌+◌, ◌≤◌, arith, ◌≡◌, refl, ap, sym, ◌∙◌, true, false, List, length, answer, refused_at, from, Answer, from_end}
use Rattle.element.proofs.Names.{pick, test, fresh, State, Part, Element, End, Refused, Silent, Found}
use Rattle.base.specs.Refusal as refusal
use Rattle.element.specs.Element.{element_of}
use Rattle.element.proofs.Sizes.{silent, found}
use Rattle.grammar.specs.Reading.{Elements, size, answer_of}
use Rattle.grammar.proofs.Elements.{at_nothing}
use Rattle.grammar.proofs.Places.{ahead, at_end, at_refused, at_passed, refused_within, step_passed}
use Rattle.x11r5.specs.Reading.{unsupported_at, supported, supported_of}

abbrev pub whole : List ℕ → Answer
whole s = answer_of 0 (supported_of s)

-- the loop's invariant: what is left answers what the whole does
pub record Head (s : List ℕ) (at count : ℕ) (st : State) : Type 0 where
  pub within : at ≤ length s
  pub few : count ≤ at
  pub same : answer_of count (supported s (ahead s at st)) ≡ whole s

pub head_first : (s : List ℕ) → Head s 0 0 fresh
unfolding from
head_first s = record { within = omega arith; few = omega arith; same = refl }

-- an element of k octets, after which the count is m
pub record Next (s : List ℕ) (at k m : ℕ) (next : State) : Type 0 where
  pub some : 1 ≤ k
  pub fits : at + k ≤ length s
  pub head : Head s (at + k) m next

module _ (s : List ℕ) (at count : ℕ) (st : State) (h : Head s at count st) (e : Element) (is : e ≡ element_of (from at s) st) where
  abbrev answers : Elements → Answer
  answers es = answer_of count (supported s es)

  pub turn_end : e ≡ End → answer refusal.accepted at count ≡ whole s
  unfolding answer_of supported
  turn_end k = sym (ap answers (at_end s at st e is k)) ∙ h.same

  pub turn_short : {n o : ℕ} → e ≡ Refused n o → at + o ≤ length s
  turn_short k = refused_within s at st e is k

  abbrev at_once : at + 0 ≡ at
  at_once = omega arith

  -- what X11R5 does not have, and the base reader does not refuse
  pub turn_unsupported : {p : Part} {next : State} → e ≡ Found p next → unsupported_at (from at s) ≡ true
      → refused_at refusal.unsupported at ≡ whole s
  unfolding answer_of supported pick
  turn_unsupported k u =
      sym (ap (refused_at refusal.unsupported) at_once) ∙ sym (ap answers (at_passed s at st e is found k) ∙ rw u) ∙ h.same

  -- what the base reader refuses
  pub turn_refused : {n o : ℕ} → e ≡ Refused n o
      → pick (unsupported_at (from at s)) (refused_at refusal.unsupported at) (refused_at n (at + o)) ≡ whole s
  unfolding answer_of supported pick
  turn_refused k =
      test (unsupported_at (from at s))
      (λ u. rw u (sym (ap (refused_at refusal.unsupported) at_once) ∙ sym (ap answers (at_refused s at st e is k) ∙ rw u) ∙ h.same))
      (λ u. rw u (sym (ap answers (at_refused s at st e is k) ∙ rw u) ∙ h.same))

  on : {k m : ℕ} {next : State} → 1 ≤ k → at + k ≤ length s → m ≤ count + 1
      → answer_of m (supported s (ahead s (at + k) next)) ≡ answers (ahead s at st)
      → Next s at k m next
  on some fits few same =
      record { some = some; fits = fits; head = record { within = fits; few = omega (arith, h.few, some, few); same = same ∙ h.same } }

  pub turn_silent : {k : ℕ} {next : State} → e ≡ Silent k next → Next s at k count next
  unfolding answer_of supported
  turn_silent i =
      let t = step_passed s at st e is silent i in
      on t.some t.fits (omega arith) (sym (ap answers (at_passed s at st e is silent i)))

  pub turn_found : {p : Part} {next : State} → e ≡ Found p next → unsupported_at (from at s) ≡ false → Next s at (size p) (count + 1) next
  unfolding answer_of supported pick
  turn_found i u =
      let t = step_passed s at st e is found i in
      on t.some t.fits (omega arith) (sym (ap answers (at_passed s at st e is found i) ∙ rw u))

pub turn_done : (s : List ℕ) (at count : ℕ) (st : State) → Head s at count st → length s ≤ at → answer refusal.accepted at count ≡ whole s
turn_done s at count st h k = turn_end s at count st h End (rw (from_end s at k) (sym (at_nothing st))) refl
