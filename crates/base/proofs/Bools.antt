-- What tests say that were put together: by `&&`, by `||`, by a choice, and over the first n numbers, which antt computes (`up_to_lem`).
use Prim.Native.Nat.{ℕ, zero, suc, ◌<◌, ◌≤◌}
use native.Mathlib.Omega.{arith}
use native.Mathlib.Nat.{not-suc-le-zero, le_of_suc-le-suc}
use mathlib.Core.Path.{◌≡◌, refl, sym, subst}
use mathlib.Core.Bool.{Bool, true, false, cond, ◌&&◌, ◌||◌, not, beq, false≢true, true≢false}
use mathlib.Core.Logic.{◌⊎◌, inl, inr}
use lib.Dec.{eqb}
use borrow.Author.Tests.{eqb-true, eqb-false, leb-true, leb-false, ltb-true, ltb-false, eq-eqb, ne_eqb, le-leb, lt-leb, lt-ltb, le-ltb, not-true, not-false}
use Rattle.base.specs.Choice.{pick}

pub off : {A : Type 0} → false ≡ true → A
off e = absurd (false≢true e)

-- for `clash (cc)`: two constructors are never equal
pub clash : {A : Type 0} → ◌≡◌ {A = ℕ} 0 1 → A
clash e = absurd (omega arith)

-- by a test: where it holds, and where it does not
pub test : {P : Type 0} (b : Bool) → (b ≡ true → P) → (b ≡ false → P) → P
test true f g = f refl
test false f g = g refl

-- what holds of a choice by a test
pub pick_by : {X : Type 0} (P : X → Type 0) {x y : X} (b : Bool) → (b ≡ true → P x) → (b ≡ false → P y) → P (pick b x y)
unfolding pick
pick_by P true f g = f refl
pick_by P false f g = g refl

pub cond_by : {X : Type 0} (P : X → Type 0) {x y : X} (b : Bool) → (b ≡ true → P x) → (b ≡ false → P y) → P (cond b x y)
cond_by P true f g = f refl
cond_by P false f g = g refl

pub and_left : (a b : Bool) → (a && b) ≡ true → a ≡ true
and_left true b e = refl
and_left false b e = e

pub and_right : (a b : Bool) → (a && b) ≡ true → b ≡ true
and_right true b e = e
and_right false b e = off e

pub and_second : (a b : Bool) → b ≡ false → (a && b) ≡ false
and_second true b e = e
and_second false b e = refl

pub or_cases : (a b : Bool) → (a || b) ≡ true → (a ≡ true) ⊎ (b ≡ true)
or_cases true b e = inl refl
or_cases false b e = inr e

pub or_none : (a b : Bool) → (a || b) ≡ false → (a ≡ false) × (b ≡ false)
or_none true b e = absurd (true≢false e)
or_none false b e = (refl, e)

pub or_first : (a : Bool) → (a || false) ≡ true → a ≡ true
or_first true e = refl
or_first false e = e

pub or_more : (a b c : Bool) → (a || c) ≡ true → ((a || b) || c) ≡ true
or_more true b c e = refl
or_more false true c e = refl
or_more false false c e = e

pub or_turn : (a b c : Bool) → (a || (b || c)) ≡ true → ((b || a) || c) ≡ true
or_turn true true c e = refl
or_turn true false c e = refl
or_turn false true c e = refl
or_turn false false c e = e

pub beq_eq : (a b : Bool) → beq a b ≡ true → a ≡ b
beq_eq true true e = refl
beq_eq true false e = off e
beq_eq false true e = off e
beq_eq false false e = refl

abbrev pub implies : Bool → Bool → Bool
implies a b = not a || b

pub implies_elim : (a b : Bool) → implies a b ≡ true → a ≡ true → b ≡ true
implies_elim true b e h = e
implies_elim false b e h = off h

-- a choice that is true, where one side of it is false
pub pick_both : (a b : Bool) → pick a b false ≡ true → (a ≡ true) × (b ≡ true)
unfolding pick
pick_both true b e = (refl, e)
pick_both false b e = off e

pub pick_last : (a b : Bool) → pick a false b ≡ true → (a ≡ false) × (b ≡ true)
unfolding pick
pick_last true b e = off e
pick_last false b e = (refl, e)

-- a test of each number below n holds of each
abbrev pub up_to : ℕ → (ℕ → Bool) → Bool
up_to zero f = true
up_to (suc n) f = f n && up_to n f

pub up_to_lem : (n : ℕ) (f : ℕ → Bool) → up_to n f ≡ true → (k : ℕ) → k < n → f k ≡ true
up_to_lem zero f t k h = absurd (not-suc-le-zero h)
up_to_lem (suc n) f t k h =
    test (eqb k n) (λ e. subst (λ (m : ℕ). f m ≡ true) (sym (eqb-true k n e)) (and_left (f n) (up_to n f) t))
    (λ e. let ne : k ≡ n → ⊥ = eqb-false k n e in up_to_lem n f (and_right (f n) (up_to n f) t) k (omega arith))

-- a test of each pair of numbers below m and n, and one of those below n for which another test holds
pub up_to_both : (m n : ℕ) (f : ℕ → ℕ → Bool) → up_to m (λ x. up_to n (f x)) ≡ true → (x k : ℕ) → x < m → k < n → f x k ≡ true
up_to_both m n f t x k h l = up_to_lem n (f x) (up_to_lem m (λ y. up_to n (f y)) t x h) k l

pub up_to_where : (n : ℕ) (p q : ℕ → Bool) → up_to n (λ y. implies (p y) (q y)) ≡ true → (k : ℕ) → k < n → p k ≡ true → q k ≡ true
up_to_where n p q t k h e = implies_elim (p k) (q k) (up_to_lem n (λ y. implies (p y) (q y)) t k h) e

-- a number is none of the first k: what the last arm of a match on 0, 1, .. is told
abbrev pub NoneOf : ℕ → ℕ → Type 0
NoneOf n zero = Unit {0}
NoneOf n (suc k) = NoneOf n k × (n ≡ k → ⊥)

pub none_below : (n k : ℕ) → NoneOf n k → k ≤ n
none_below n zero h = omega arith
none_below n (suc k) h = let l = none_below n k h.0 in let d : n ≡ k → ⊥ = h.1 in omega arith

-- a rule of the first n numbers, one by one
abbrev pub Each : ℕ → (ℕ → Type 0) → Type 0
Each zero P = Unit {0}
Each (suc n) P = P 0 × Each n (λ c. P (suc c))

infixr 20 ◌&◌
pub ◌&◌ : {A B : Type 0} → A → B → A × B
◌&◌ a b = (a, b)

pub each : (n : ℕ) (P : ℕ → Type 0) → Each n P → (c : ℕ) → c < n → P c
each zero P a c h = absurd (not-suc-le-zero h)
each (suc n) P a zero h = a.0
each (suc n) P a (suc c) h = each n (λ m. P (suc m)) a.1 c (le_of_suc-le-suc h)

-- what tests of numbers say, for `omega`; for `search` also where tests are put together by `&&`; and what tests of numbers answer
pub ruleset tested = (arith, eqb-true, eqb-false, leb-true, leb-false, ltb-true, ltb-false)

pub ruleset from-tests = (and_left, and_right, not-true, not-false, eqb-true, eqb-false, leb-true, leb-false, ltb-true, ltb-false)

pub ruleset to-tests = (eq-eqb, ne_eqb, le-leb, lt-leb, lt-ltb, le-ltb)
