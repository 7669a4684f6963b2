-- What a row keeps: two stretches, of the costs after the first designation and after the second.
use Rattle.element.proofs.Names.{◌≡◌, refl, ap, ◌∙◌, List, ⊎_elim, ℕ, ◌+◌, ◌-◌, ◌*◌, ◌/◌, ◌%◌, ◌≤◌, ◌<◌, arith, length, get_or, lt-ltb}
use Rattle.numbers.specs.Numbers.{after_first, after_second, second_slot}
use Rattle.numbers.proofs.Numbers.{first_gl, second_gr, first_space, second_space, gl_two, gr_most}
use Rattle.table.specs.Table.{PlacesFilled, TwoStandings, Kept}

pub kept_none : {x : ℕ} {cur before : List ℕ} {row : ℕ} → (TwoStandings x → ⊥) → Kept x cur before row before
kept_none n =
    record {
      there = λ h. record { first_cost = λ t. absurd (n t); second_cost = λ t. absurd (n t); kept = λ p h. refl; long = refl };
      none = λ h. refl;
    }

pub kept_absent : {x : ℕ} {cur before : List ℕ} {row : ℕ} → length before < row + 65 → Kept x cur before row before
kept_absent h = record { there = λ k. absurd (omega arith); none = λ _. refl }

module _ (x : ℕ) (cur before mid after : List ℕ) (row : ℕ) where
  -- by the place that each number has in either stretch
  kept_both : (p q : ℕ → ℕ) (n : ℕ) → n ≤ 16 → row + 65 ≤ length before → PlacesFilled (λ r. get_or cur (p r) 0) row 16 before mid
      → PlacesFilled (λ r. get_or cur (q r) 0) (row + 16) n mid after
      → ((k : ℕ) → p (k % 16) ≡ after_first x k)
      → (place : ℕ → ℕ) → ((k : ℕ) → k < 80 → place k < n) → ((k : ℕ) → second_slot x k ≡ 16 + place k)
      → ((k : ℕ) → q (place k) ≡ after_second x k)
      → Kept x cur before row after
  kept_both p q n hn fits a b first place small slot second =
      record {
        there = λ _. record {
          first_cost = λ t k hk.
              b.kept (row + k % 16) (λ r h z. omega arith) ∙ a.there (k % 16) (omega arith) ∙ ap (λ (y : ℕ). get_or cur y 0) (first k);
          second_cost = λ t k hk.
              let z : row + second_slot x k ≡ row + 16 + place k = omega (arith, slot k) in
              ap (λ (y : ℕ). get_or after y 0) z ∙ b.there (place k) (small k hk) ∙ ap (λ (y : ℕ). get_or cur y 0) (second k);
          kept = λ i l.
              b.kept i (λ r h z. ⊎_elim (λ w. omega arith) (λ w. omega arith) l)
              ∙ a.kept i (λ r h z. ⊎_elim (λ w. omega arith) (λ w. omega arith) l);
          long = b.long ∙ a.long;
        };
        none = λ h. absurd (omega arith);
      }

  pub kept_character : row + 65 ≤ length before → 12 ≤ x → x < 15 → PlacesFilled (λ q. get_or cur (16 * (x - 10) + q) 0) row 16 before mid
      → PlacesFilled (λ q. get_or cur (16 * q + (x - 2)) 0) (row + 16) 5 mid after
      → Kept x cur before row after
  kept_character fits h m a b =
      let gl = gl_two x h m in
      let gr = gr_most x (omega arith) m in
      kept_both (λ q. 16 * (x - 10) + q) (λ q. 16 * q + (x - 2)) 5 (omega arith) fits a b
      (λ k. omega (arith, first_gl x (x - 10) (x - 2) k gl gr m (omega arith))) (λ k. k / 16) (λ k hk. omega arith) (λ k. rw (lt-ltb x 15 m))
      (λ k. omega (arith, second_gr x (x - 10) (x - 2) k gl gr m (omega arith)))

  pub kept_space : row + 65 ≤ length before → x ≡ 15 → PlacesFilled (λ q. get_or cur (0 + q) 0) row 16 before mid
      → PlacesFilled (λ q. get_or cur (16 + q) 0) (row + 16) 16 mid after
      → Kept x cur before row after
  kept_space fits e a b =
      kept_both (λ q. 0 + q) (λ q. 16 + q) 16 (omega arith) fits a b (λ k. rw e (omega (arith, first_space k))) (λ k. k % 16) (λ k hk. omega arith)
      (λ k. rw e)
      (λ k. rw e (omega (arith, second_space k)))
