-- A piece before others: it is joined to a piece of the same run, and stands by itself before any other.
use Rattle.element.proofs.Names.{ℕ, ◌≡◌, ap, true, false, List, [], ◌∷◌, eqb-true, pick, test}
use Rattle.base.proofs.Bools.{pick_both}
use Rattle.pieces.specs.Pieces.{is_run, same_run_of, longer, joined}
use Rattle.pieces.specs.Pieces.{Piece}

-- pieces of one run are of one kind
pub same_kind : (j k : ℕ) → same_run_of j k ≡ true → j ≡ k
unfolding same_run_of
same_kind j k e = eqb-true j k (pick_both (is_run j) _ e).1

-- a piece that is not of one run with the next
pub joined_apart : (p q : Piece) (rs : List Piece) → same_run_of p.kind q.kind ≡ false → joined p (joined q rs) ≡ p ∷ joined q rs
unfolding joined pick
joined_apart p q [] f = rw f
joined_apart p q (r ∷ rs) f = test (same_run_of q.kind r.kind) (λ e. rw (e, f)) (λ e. rw (e, f))

-- a piece that is of one run with the next
pub joined_same : (p q : Piece) (rs : List Piece) → p.kind ≡ q.kind → same_run_of p.kind q.kind ≡ true
    → joined p (joined q rs) ≡ joined (longer p q) rs
unfolding joined pick
joined_same p q [] i f = rw f
joined_same p q (r ∷ rs) i f =
    let g = ap (λ (k : ℕ). same_run_of k r.kind) i in
    test (same_run_of q.kind r.kind) (λ e. rw (e, f, g, e)) (λ e. rw (e, f, g, e))
