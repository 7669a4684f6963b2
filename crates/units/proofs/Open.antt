-- A step of the direction rule opens and closes what the unit's kind says (`turns`): the digits of the levels are the open directions (`open_in`), of which
-- a mark that begins puts one below the others and a revert takes the lowest off; those above the depth are never read (`higher`).
use Rattle.element.proofs.Names.{ℕ, zero, suc, ◌+◌, ◌*◌, ◌-◌, ◌/◌, ◌%◌, ◌^◌, ◌≤◌, arith, add-one, ◌≡◌, refl, sym, ap, ◌∙◌, Bool, true, false}
use Rattle.element.proofs.Names.{◌||◌, true≢false, List, ◌∷◌, ◌↔◌, length, drop, eqb, ltb, eqb-true, ne_eqb, not-suc-le-zero, pick, pick_by, test}
use Rattle.element.proofs.Names.{tested, clash, and_left, directions, written_of, deeper_of, begun_of, reverted_of, step_of, Directions, Step, Goes, Stops}
use native.Mathlib.Nat.{pow-suc, mul_assoc, le_of_suc-le-suc}
use Rattle.base.proofs.Bools.{or_none}
use Rattle.base.specs.Direction as direction
use Rattle.base.specs.Kind as kind
use Rattle.base.specs.Limit as limit
use Rattle.state.specs.Directions.{counts_as_text, in_force_of}
use Rattle.units.specs.Directed.{open_after, in_front, of_digit, open_in, open_of, is_mark}

-- ---- the levels, digit by digit

-- digits above those that are read do not matter
higher : (n m w q : ℕ) → n ≤ m → open_in n (w + q * 2 ^ m) ≡ open_in n w
unfolding open_in
higher zero m w q h = refl
higher (suc n) zero w q h = absurd (not-suc-le-zero h)
higher (suc n) (suc m) w q h =
    let twice : q * 2 ^ suc m ≡ q * 2 ^ m * 2 = rw (pow-suc 2 m) (sym (mul_assoc q (2 ^ m) 2)) in
    let digit : (t : ℕ) → (w + t * 2) % 2 ≡ w % 2 = λ t. omega arith in
    let rest : (t : ℕ) → (w + t * 2) / 2 ≡ w / 2 + t = λ t. omega arith in
    rw (twice, digit (q * 2 ^ m), rest (q * 2 ^ m), higher n m (w / 2) q (le_of_suc-le-suc h))

lower : (n v : ℕ) → n ≤ 63 → open_in n (v % 2 ^ 63) ≡ open_in n v
lower n v h =
    let parts : v ≡ v % 2 ^ 63 + v / 2 ^ 63 * 2 ^ 63 = omega arith in
    sym (ap (open_in n) parts ∙ higher n 63 (v % 2 ^ 63) (v / 2 ^ 63) h)

-- one more digit below, and the lowest taken off
begun_open : (n v way : ℕ) → n ≤ 63 → open_in (n + 1) (v % 2 ^ 63 * 2 + way % 2) ≡ of_digit (way % 2) ∷ open_in n v
unfolding open_in
begun_open n v way h =
    let digit : (x : ℕ) → (x * 2 + way % 2) % 2 ≡ way % 2 = λ x. omega arith in
    let rest : (x : ℕ) → (x * 2 + way % 2) / 2 ≡ x = λ x. omega arith in
    rw (add-one, digit (v % 2 ^ 63), rest (v % 2 ^ 63), lower n v h)

reverted_open : (n v : ℕ) → 1 ≤ n → open_in (n - 1) (v / 2) ≡ drop 1 (open_in n v)
unfolding open_in
reverted_open zero v h = absurd (not-suc-le-zero h)
reverted_open (suc n) v h = ap (λ (m : ℕ). open_in m (v / 2)) (let e : suc n - 1 ≡ n = omega arith in e)

-- the direction in force is the one in front, the depth counts them, and none is in force exactly where none is open
pub force_is : (d : Directions) → in_force_of d ≡ in_front (open_of d)
unfolding in_force_of in_front open_in pick
force_is d = go d.depth d.levels
  where
    go : (n v : ℕ) → pick (eqb n 0) direction.none (pick (eqb (v % 2) 0) direction.left_to_right direction.right_to_left) ≡ in_front (open_in n v)
    go zero v = refl
    go (suc n) v =
        let some : eqb (suc n) 0 ≡ false = ne_eqb (suc n) 0 (λ e. omega arith) in
        test (eqb (v % 2) 0) (λ e. rw (some, e)) (λ e. rw (some, e))

pub depth_is : (n v : ℕ) → length (open_in n v) ≡ n
unfolding open_in
depth_is zero v = refl
depth_is (suc n) v = ap suc (depth_is n (v / 2))

pub none_open : (d : Directions) → (in_force_of d ≡ direction.none) ↔ (d.depth ≡ 0)
unfolding in_force_of pick
none_open d =
    test (eqb d.depth 0) (λ e. rw e (λ _. eqb-true d.depth 0 e, λ _. refl))
    (λ e. rw e (test (eqb (d.levels % 2) 0) (λ f. rw f (λ z. clash (sym z), λ z. omega tested)) (λ f. rw f (λ z. omega arith, λ z. omega tested))))

-- ---- a step of the direction rule

-- what counts as text is no mark, and what is no mark leaves the open directions
no_mark : (k n : ℕ) → counts_as_text k n ≡ true → is_mark k ≡ false
no_mark k n t =
    test (ltb k kind.tab)
    (λ e. rw (ne_eqb k 4 (λ z. omega tested), ne_eqb k 5 (λ z. omega tested), ne_eqb k 6 (λ z. omega tested)))
    (λ e. rw (eqb-true k kind.segment (and_left (eqb k kind.segment) (ltb 0 n) (rw e at t))))

pub kept_open : (k : ℕ) (ds : List ℕ) → is_mark k ≡ false → open_after k ds ≡ ds
unfolding open_after
kept_open k ds e =
    let f = or_none (eqb k kind.left_to_right) (eqb k kind.right_to_left || eqb k kind.revert) e in
    let g = or_none (eqb k kind.right_to_left) (eqb k kind.revert) f.1 in
    rw (f.0, g.0, g.1)

-- directions before and after a unit of a kind: open after it is what its kind says, and a revert had one to close
pub record Turned (k : ℕ) (d next : Directions) : Type 0 where
  pub opened : open_of next ≡ open_after k (open_of d)
  pub some : k ≡ kind.revert → 1 ≤ d.depth

-- a step of the rule from directions d
pub data Turns (k : ℕ) (d : Directions) : Step → Type 0 where
  goes : {next : Directions} → Turned k d next → Turns k d (Goes next)
  stopped : {n : ℕ} → Turns k d (Stops n)

module _ (k : ℕ) (d : Directions) where
  stays : is_mark k ≡ false → {marked texted : Bool} → Turns k d (Goes (directions d.depth d.levels marked texted))
  stays e = goes (record { opened = sym (kept_open k (open_of d) e); some = λ z. absurd (true≢false (rw z at e)) })

  written : is_mark k ≡ false → Turns k d (written_of d)
  unfolding written_of
  written e = pick_by (Turns k d) d.marked (λ _. pick_by (Turns k d) (eqb d.depth 0) (λ _. stopped) (λ _. stays e)) (λ _. stays e)

  deeper : (way : ℕ) → open_after k (open_of d) ≡ of_digit (way % 2) ∷ open_of d → (k ≡ kind.revert → ⊥) → Turns k d (deeper_of way d)
  unfolding deeper_of
  deeper way e n =
      pick_by (Turns k d) (ltb d.depth limit.depth)
      (λ h. goes (record { opened = begun_open d.depth d.levels way (omega tested) ∙ sym e; some = λ z. absurd (n z) })) (λ _. stopped)

  begun : (way : ℕ) → open_after k (open_of d) ≡ of_digit (way % 2) ∷ open_of d → (k ≡ kind.revert → ⊥) → Turns k d (begun_of way d)
  unfolding begun_of
  begun way e n =
      pick_by (Turns k d) d.marked (λ _. deeper way e n)
      (λ _. pick_by (Turns k d) d.texted (λ _. stopped) (λ _. deeper way e n))

  reverted : open_after k (open_of d) ≡ drop 1 (open_of d) → Turns k d (reverted_of d)
  unfolding reverted_of
  reverted e =
      pick_by (Turns k d) (eqb d.depth 0) (λ _. stopped)
      (λ h. let some : 1 ≤ d.depth = omega tested in goes (record { opened = reverted_open d.depth d.levels some ∙ sym e; some = λ _. some }))

pub turns : (k n : ℕ) (d : Directions) → Turns k d (step_of (counts_as_text k n) k d)
unfolding step_of open_after
turns k n d =
    pick_by (Turns k d) (counts_as_text k n) (λ t. written k d (no_mark k n t))
    (λ _. pick_by (Turns k d) (eqb k kind.left_to_right) (λ e. begun k d 0 (rw e) (λ z. omega tested))
    (λ l. pick_by (Turns k d) (eqb k kind.right_to_left) (λ e. begun k d 1 (rw (l, e)) (λ z. omega tested))
    (λ r. pick_by (Turns k d) (eqb k kind.revert) (λ e. reverted k d (rw (l, r, e)))
    (λ e. stays k d (rw (l, r, e))))))
