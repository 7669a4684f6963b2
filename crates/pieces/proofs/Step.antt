-- The pieces of a string, one at a time: the element at a place is no piece, and none follow, or it is the first piece and those from
-- its end on follow, joined to it where they are of one run.
use Rattle.element.proofs.Names.{ℕ, ◌+◌, ◌≤◌, ◌<◌, arith, ◌≡◌, refl, ap, sym, ◌∙◌, Bool, true, List, [], length, get_or, from, off, from_length, State}
use Rattle.element.proofs.Names.{Element, End, Refused, Silent, Found}
use Rattle.base.proofs.Ladder.{ended}
use Rattle.element.specs.Element.{shape_of, directed_of, element_of}
use Rattle.element.proofs.Sizes.{Passed, silent, found, element_size, of_end}
use Rattle.grammar.specs.Reading.{none_refused}
use Rattle.grammar.proofs.Elements.{next_at}
use Rattle.grammar.proofs.Places.{ahead, at_end, at_refused, at_passed, step_passed}
use Rattle.pieces.specs.PieceKind as piece_kind
use Rattle.pieces.specs.Pieces.{piece, no_piece, piece_kind_of, piece_of, joined, pieces_from}
use Rattle.pieces.specs.Pieces.{Piece}

-- the element at a place, the piece that it is, and the pieces from there on
abbrev pub element_at : List ℕ → ℕ → State → Element
element_at s at st = element_of (from at s) st

abbrev pub piece_at : List ℕ → ℕ → State → Piece
piece_at s at st = piece_of s at (element_at s at st)

abbrev pub rest : List ℕ → ℕ → State → List Piece
rest s at st = pieces_from s (ahead s at st)

-- no element is refused from there on
abbrev pub no_refusal : List ℕ → ℕ → State → Bool
no_refusal s at st = none_refused (ahead s at st)

pub data Step (s : List ℕ) (at : ℕ) (st : State) : Piece → Type 0 where
  stops : rest s at st ≡ [] → (no_refusal s at st ≡ true → length s ≤ at) → Step s at st (no_piece at)
  goes : {q : Piece} → q.start ≡ at → at < q.end → q.end ≤ length s → rest s at st ≡ joined q (rest s q.end q.state)
      → no_refusal s at st ≡ no_refusal s q.end q.state → Step s at st q

module _ (s : List ℕ) (at : ℕ) (st : State) where
  -- an element's octets lie in the string
  pub fits : {e : Element} {k : ℕ} {next : State} → Passed e k next → element_at s at st ≡ e → (1 ≤ k) × (at + k ≤ length s)
  fits v is = let t = step_passed s at st _ refl v is in (t.some, t.fits)

  -- the piece of an element that is passed, of some kind
  on : {e : Element} {k : ℕ} {next : State} (kind : ℕ) → Passed e k next → element_at s at st ≡ e
      → pieces_from s (next_at at e (ahead s (at + k) next)) ≡ joined (piece at (at + k) kind next) (rest s (at + k) next)
      → none_refused (next_at at e (ahead s (at + k) next)) ≡ no_refusal s (at + k) next → Step s at st (piece at (at + k) kind next)
  on {k = k} {next} kind v is pieces refusal =
      let z = fits v is in
      let a = at_passed s at st _ refl v is in
      goes {q = piece at (at + k) kind next} refl (omega (arith, z.0)) z.1 (ap (pieces_from s) a ∙ pieces) (ap none_refused a ∙ refusal)

  step_by : (e : Element) → element_at s at st ≡ e → Step s at st (piece_of s at e)
  unfolding piece_of pieces_from none_refused
  step_by End is =
      let z = of_end (rw is at (element_size (from at s) st)) in
      stops (ap (pieces_from s) (at_end s at st _ refl is)) (λ h. omega (arith, z, from_length s at))
  step_by (Refused n o) is =
      stops (ap (pieces_from s) (at_refused s at st _ refl is))
      (λ h. off (sym (ap none_refused (at_refused s at st _ refl is)) ∙ h))
  step_by (Silent k next) is = on piece_kind.control silent is refl refl
  step_by (Found p next) is = on (piece_kind_of p.kind (get_or s at 0)) found is refl refl

  pub step : Step s at st (piece_at s at st)
  step = step_by (element_at s at st) refl

  -- the piece at a place, by the element that a call gave
  module _ (r : Piece) where
    pub on_past : length s ≤ at → r ≡ no_piece at → r ≡ piece_at s at st
    unfolding piece_of shape_of directed_of
    on_past h k = k ∙ ap (piece_of s at) (ended (λ (t : List ℕ). element_of t st) s at End h refl)

    module _ (e x : Element) (is : e ≡ element_at s at st) (k : e ≡ x) where
      pub as_piece : r ≡ piece_of s at x → r ≡ piece_at s at st
      as_piece h = h ∙ ap (piece_of s at) (sym k ∙ is)
