-- The ladder's rules for a segment's octets: the next octet of the name, and whether the n octets are all there. A place that is told of a name is
-- one of the n octets (`Within`), and a text's width is above 0, so that the remainder by it is defined.
use Prim.Native.Nat.{ℕ, ◌+◌, ◌-◌, ◌<◌, ◌≤◌}
use native.Mathlib.Nat.{add-sub_cancel_left}
use native.Mathlib.Omega.{arith}
use mathlib.Core.Path.{◌≡◌, ◌∙◌, ap, sym, subst}
use mathlib.Core.List.{List, [], ◌∷◌}
use mathlib.Core.Bool.{Bool, true, false}
use lib.ListN.{length, get_or, take, drop, length-drop}
use lib.Seq.{length-take-le}
use lib.Dec.{eqb, lit<}
use Rattle.base.specs.Choice.{pick, from}
use Rattle.base.specs.Refusal as refusal
use Rattle.base.proofs.Bools.{pick_by}
use Rattle.base.proofs.Ladder.{octet, ended, on_le, on_gt}
use Rattle.state.proofs.Steps.{steps}
use Rattle.state.specs.Elements.{Shape, Refuses}
use Rattle.segment.specs.Segment.{name_octet_of, name_of, text_width_of, content_of, body_of}
use Rattle.segment.specs.Segment.{Name, Ends, Bad, Endless}

module _ (s : List ℕ) (at : ℕ) where
  pub on_name : (k : ℕ) (r : Name) → at < length s → r ≡ name_of (get_or s at 0 ∷ from (at + 1) s) k → r ≡ name_of (from at s) k
  on_name k r h e = octet (λ (t : List ℕ). name_of t k) s at r h e

  pub on_name_end : (k : ℕ) (r : Name) → length s ≤ at → r ≡ name_of [] k → r ≡ name_of (from at s) k
  on_name_end k r h e = ended (λ (t : List ℕ). name_of t k) s at r h e

-- ---- the n octets, of which the element's first six are passed

module _ (s : List ℕ) where
  -- the name of the n octets that are lent
  pub on_body : (d n : ℕ) (name : Name) (r : Shape) → n ≤ length s - 6 → name ≡ name_of (take (6 + n - 6) (drop 6 s)) 0
      → r ≡ content_of d n name → r ≡ body_of d n (from 6 s)
  unfolding body_of from
  on_body d n name r h e f = on_le n (length (drop 6 s)) r _ _ (rw (length-drop 6 s) h) (rw (e, add-sub_cancel_left 6 n) at f)

  pub on_body_short : (d n : ℕ) (r : Shape) → 6 ≤ length s → length s - 6 < n → r ≡ Refuses refusal.cut (length s) → r ≡ body_of d n (from 6 s)
  unfolding body_of from
  on_body_short d n r l h e =
      let z : length s ≡ 6 + length (drop 6 s) = rw (length-drop 6 s) (omega arith) in
      on_gt n (length (drop 6 s)) r _ _ (rw (length-drop 6 s) h) (e ∙ ap (Refuses refusal.cut) z)

-- ---- a place that is told of a name lies among its octets

pub data Within (n : ℕ) : Name → Type 0 where
  ends : {k : ℕ} → k < n → Within n (Ends k)
  bad : {k : ℕ} → k < n → Within n (Bad k)
  endless : Within n Endless

pub name_within : (xs : List ℕ) (k n : ℕ) → n ≡ k + length xs → Within n (name_of xs k)
unfolding name_of
name_within [] k n h = endless
name_within (b ∷ t) k n h =
    pick_by (Within n) (eqb b 2) (λ _. pick_by (Within n) (eqb k 0) (λ _. bad (omega arith)) (λ _. ends (omega arith)))
    (λ _. pick_by (Within n) (name_octet_of b) (λ _. name_within t (k + 1) n (omega arith)) (λ _. bad (omega arith)))

-- of n octets that are lent as a part of s
module _ (s : List ℕ) (at n : ℕ) (name : Name) (h : n ≤ length s - at) (is : name ≡ name_of (take (at + n - at) (drop at s)) 0) where
  within : Within n name
  within =
      let e : name_of (take (at + n - at) (drop at s)) 0 ≡ name_of (take n (drop at s)) 0 = rw (add-sub_cancel_left at n) in
      let z : length (take n (drop at s)) ≡ n = length-take-le n (drop at s) (rw (length-drop at s) h) in
      subst (Within n) (sym (is ∙ e)) (name_within (take n (drop at s)) 0 n (omega (arith, z)))

  pub ends_within : {k : ℕ} → name ≡ Ends k → k < n
  ends_within e = by (subst (Within n) e within)
    where
      by : {k : ℕ} → Within n (Ends k) → k < n
      by (ends h) = h

  pub bad_within : {k : ℕ} → name ≡ Bad k → k < n
  bad_within e = by (subst (Within n) e within)
    where
      by : {k : ℕ} → Within n (Bad k) → k < n
      by (bad h) = h

-- ---- the width of a text's characters

width_by : (a b c : Bool) → 0 < pick a 2 (pick b 3 (pick c 4 1))
unfolding pick
width_by true b c = lit< tt
width_by false true c = lit< tt
width_by false false true = lit< tt
width_by false false false = lit< tt

pub width_pos : (d : ℕ) → 0 < text_width_of d
unfolding text_width_of
width_pos d = width_by (eqb d 0x32) (eqb d 0x33) (eqb d 0x34)

pub ruleset named = (on_name, on_name_end, steps)
