-- The pieces of a string lie end to end, from its first octet to its end or to the offending element: a piece joined to pieces that
-- do so does too. In an accepted string each octet then lies in exactly one of them.
use Rattle.element.proofs.Names.{ℕ, zero, suc, ◌+◌, ◌-◌, ◌≤◌, ◌<◌, zero-le, arith, not-suc-le-zero, ◌≡◌, refl, ap, sym, ◌∙◌, true, List, [], ◌∷◌}
use Rattle.element.proofs.Names.{ltb, length, le-leb, lt-leb, ltb-true, ltb-false, pick, from, test, pick_by, fresh, State}
use Rattle.base.specs.Refusal as refusal
use Rattle.grammar.specs.Reading.{check_of, Octets}
use Rattle.grammar.proofs.Agrees.{accepted_where}
use Rattle.pieces.specs.Pieces.{same_run_of, longer, joined, pieces_of, contains, holding}
use Rattle.pieces.specs.Pieces.{Piece}
use Rattle.pieces.specs.Partition.{EndToEnd, none, more}
use Rattle.pieces.proofs.Step.{Step, stops, goes, step, rest, no_refusal}

joined_end_to_end : {a e : ℕ} (p : Piece) (ps : List Piece) → p.start ≡ a → a < p.end → EndToEnd p.end e ps → EndToEnd a e (joined p ps)
unfolding joined
joined_end_to_end p [] b l r = more b l r
joined_end_to_end {a} {e} p (q ∷ qs) b l (more c m r) =
    pick_by (EndToEnd a e) (same_run_of p.kind q.kind) (λ _. more {p = longer p q} b (omega arith) r) (λ _. more b l (more c m r))

-- the pieces from a place on: to the end of the string where no element is refused
pub record Tiled (s : List ℕ) (at : ℕ) (st : State) : Type 0 where
  pub last : ℕ
  pub tiles : EndToEnd at last (rest s at st)
  pub within : last ≤ length s
  pub whole : no_refusal s at st ≡ true → last ≡ length s

module _ (s : List ℕ) where
  tiled_step : (n at : ℕ) (st : State) {q : Piece} → Step s at st q → at ≤ length s → length s - at < suc n
      → ((b : ℕ) (next : State) → b ≤ length s → length s - b < n → Tiled s b next) → Tiled s at st
  tiled_step n at st (stops e x) h k more_of =
      record { last = at; tiles = rw e none; within = h; whole = λ z. let y = x z in omega arith }
  tiled_step n at st (goes {q} b l u e x) h k more_of =
      let t = more_of q.end q.state u (omega arith) in
      record {
        last = t.last;
        tiles = rw e (joined_end_to_end q (rest s q.end q.state) b l t.tiles);
        within = t.within;
        whole = λ z. t.whole (sym x ∙ z);
      }

  pub tiled : (n at : ℕ) (st : State) → at ≤ length s → length s - at < n → Tiled s at st
  tiled zero at st h k = absurd (not-suc-le-zero k)
  tiled (suc n) at st h k = tiled_step n at st (step s at st) h k (λ b next g i. tiled n b next g i)

  pub pieces_tiled : Tiled s 0 fresh
  pieces_tiled = tiled (suc (length s)) 0 fresh zero-le (omega arith)

-- an octet before pieces that lie end to end, and one among them
before : {a e : ℕ} {ps : List Piece} (i : ℕ) → EndToEnd a e ps → i < a → holding ps i ≡ 0
unfolding holding contains pick
before i none h = refl
before i (more {p} b l r) h = rw (lt-leb p.start i (omega arith)) (before i r (omega arith))

among : {a e : ℕ} {ps : List Piece} (i : ℕ) → EndToEnd a e ps → a ≤ i → i < e → holding ps i ≡ 1
unfolding holding contains pick
among i none h k = absurd (omega arith)
among i (more {p} b l r) h k =
    let f = le-leb p.start i (omega arith) in
    test (ltb i p.end) (λ e. rw (f, e) (ap (λ (n : ℕ). 1 + n) (before i r (ltb-true _ _ e)))) (λ e. rw (f, e) (among i r (ltb-false _ _ e) k))

-- the pieces of an accepted string lie end to end, from its first octet to its last
pub end_to_end : (s : List ℕ) → Octets s → (check_of s).number ≡ refusal.accepted → EndToEnd 0 (length s) (pieces_of s)
unfolding pieces_of from
end_to_end s o h =
    let t = pieces_tiled s in
    rw (t.whole ((accepted_where s o).0 h).1) at t.tiles

-- no octet of an accepted string is left out of its pieces, and none is in two (rule R6)
pub exactly_one : (s : List ℕ) → Octets s → (check_of s).number ≡ refusal.accepted → (i : ℕ) → i < length s → holding (pieces_of s) i ≡ 1
exactly_one s o h i k = among i (end_to_end s o h) zero-le k
