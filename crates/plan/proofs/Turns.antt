-- What a unit does to the costs.
use Rattle.element.proofs.Names.{◌≡◌, refl, sym, ◌∙◌, Bool, true, false, cond, not, ◌&&◌, true≢false, false≢true, List, ℕ, ◌+◌, ◌-◌, ◌*◌, ◌≤◌}
use Rattle.element.proofs.Names.{◌<◌, arith, length, get_or, ltb, leb, eqb, eqb-false, pick}
use Rattle.numbers.specs.Numbers.{price_of_class, after_choice, changes}
use Rattle.table.specs.Table.{FilledTo, Columns}
use Rattle.plan.specs.Costs.{least_by, Turned}
use Rattle.table.proofs.Filled.{columns_at}

-- a class that changes the costs is no free unit's
pub changes_class : (last x : ℕ) → changes last x ≡ true → x < 17 → x < 16
unfolding changes pick
changes_class last x e h = go (eqb x 16) refl e
  where
    go : (t : Bool) → eqb x 16 ≡ t → pick t false (pick (eqb x last) false (pick (eqb x 15) (not (eqb last 0)) true)) ≡ true → x < 16
    go true q r = absurd (false≢true r)
    go false q r = let n : x ≡ 16 → ⊥ = eqb-false x 16 q in omega arith

-- a cost is at most a designation more than the rest's
least_by_most : (x : ℕ) (next : List ℕ) (b : ℕ) → ((j : ℕ) → get_or next j 0 ≤ b) → (k : ℕ) → least_by x next k ≤ 4 + b
unfolding least_by price_of_class
least_by_most x next b h k =
    let j = after_choice x k (λ i. get_or next i 0) in
    omega (arith, h j, both (eqb j k) (leb 12 x && ltb x 15))
  where
    both : (s t : Bool) → cond s 0 (cond t 4 3) ≤ 4
    both true t = omega arith
    both false true = omega arith
    both false false = omega arith

module _ (last x : ℕ) (before after : List ℕ) (l : length before ≡ 80) where
  pub turned_still : changes last x ≡ false → get_or before 1 0 ≤ 200 → Turned last x before 0 last before
  turned_still e h =
      record { still = λ _. (refl, refl, refl); moved = λ q. absurd (false≢true (sym e ∙ q)); low = h; small = omega arith; long = refl }

  module _ (s : Columns (λ g r. least_by x before (16 * g + r)) 16 after) where
    now_at : (k : ℕ) → k < 80 → get_or after k 0 ≡ least_by x before k
    now_at k h = columns_at (λ m. least_by x before m) s k h

    pub turned_moved : changes last x ≡ true → get_or after 1 0 ≤ 200 → Turned last x before 0 x after
    turned_moved e h =
        record {
          still = λ q. absurd (true≢false (sym e ∙ q));
          moved = λ q. (refl, λ k hk. omega (arith, now_at k hk));
          low = h;
          small = omega arith;
          long = s.long ∙ sym l;
        }

    module _ (n : (k m : ℕ) → k < 80 → m < 80 → least_by x before k ≤ 8 + least_by x before m) (h : 200 < get_or after 1 0) where
      -- every cost is near the one at 1
      turned-near : (k : ℕ) → k < 80 → 128 ≤ get_or after k 0
      turned-near k hk = omega (arith, n 1 k (omega arith) hk, now_at k hk, now_at 1 (omega arith))

      pub turned_lowered : (last-costs : List ℕ) → changes last x ≡ true → ((j : ℕ) → get_or before j 0 ≤ 208)
          → FilledTo (λ k. k) (λ k. get_or after k 0 - 128) (length after) after last-costs
          → Turned last x before 128 x last-costs
      turned_lowered last-costs e u d =
          record {
            still = λ q. absurd (true≢false (sym e ∙ q));
            moved = λ q. (refl, λ k hk. omega (arith, d.there k (omega (arith, s.long)), turned-near k hk, now_at k hk));
            low = omega (arith, d.there 1 (omega (arith, s.long)), least_by_most x before 208 u 1, now_at 1 (omega arith));
            small = omega arith;
            long = d.long ∙ s.long ∙ sym l;
          }
