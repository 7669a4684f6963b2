-- Octets stored one after the other: two texts in a row are one text, and a text that fits, stored from the first place on, is `stored_in`.
use Prim.Native.Nat.{ℕ, suc, ◌+◌, ◌≤◌, ◌<◌}
use native.Mathlib.Omega.{arith}
use mathlib.Core.Path.{◌≡◌, ap, ◌∙◌}
use mathlib.Core.List.{List, [], ◌∷◌, ◌++◌}
use lib.ListN.{length, set, drop}
use lib.Seq.{sets, sets-eq}
use Rattle.base.specs.Output.{stored_in}
use Rattle.base.proofs.Ladder.{on_le, on_gt}

pub sets_append : (xs ys l : List ℕ) (i : ℕ) → sets (sets l i xs) (i + length xs) ys ≡ sets l i (xs ++ ys)
sets_append [] ys l i = ap (λ (k : ℕ). sets l k ys) (let e : i + 0 ≡ i = omega arith in e)
sets_append (x ∷ xs) ys l i =
    ap (λ (k : ℕ). sets (sets (set l i x) (suc i) xs) k ys) (let e : i + suc (length xs) ≡ suc i + length xs = omega arith in e)
    ∙ sets_append xs ys (set l i x) (suc i)

-- four octets stored
pub sets_4 : (l : List ℕ) (at a b c d : ℕ) → set (set (set (set l at a) (at + 1) b) (at + 2) c) (at + 3) d ≡ sets l at (a ∷ b ∷ c ∷ d ∷ [])
sets_4 l at a b c d =
    let e : at + 1 ≡ suc at = omega arith in
    let f : at + 2 ≡ suc (suc at) = omega arith in
    let g : at + 3 ≡ suc (suc (suc at)) = omega arith in
    rw (e, f, g)

-- a text that fits is stored from the first place on, and one that does not fit is not
pub stored_fits : (text out r : List ℕ) → length text ≤ length out → r ≡ text ++ drop (length text) out → r ≡ stored_in text out
unfolding stored_in
stored_fits text out r h e = on_le (length text) (length out) r (text ++ drop (length text) out) out h e

pub stored_not : (text out r : List ℕ) → length out < length text → r ≡ out → r ≡ stored_in text out
unfolding stored_in
stored_not text out r h e = on_gt (length text) (length out) r (text ++ drop (length text) out) out h e

pub stored_sets : (text out r : List ℕ) → length text ≤ length out → r ≡ sets out 0 text → r ≡ stored_in text out
stored_sets text out r h e =
    stored_fits text out r h
    (e ∙ sets-eq text out 0 (omega arith) ∙ ap (λ (k : ℕ). text ++ drop k out) (let z : 0 + length text ≡ length text = omega arith in z))
