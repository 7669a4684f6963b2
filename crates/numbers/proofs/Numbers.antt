-- The choice by number is the writer's choice: shown by one computed test of all 17 classes and 80 numbers, from which the laws follow.
use Rattle.element.proofs.Names.{◌≡◌, refl, sym, ap, ap₂, ◌∙◌, Bool, true, false, cond, ◌||◌, ◌&&◌, not, List, Option, none, some, ℕ, ◌+◌, ◌-◌, ◌≤◌}
use Rattle.element.proofs.Names.{◌<◌, arith, length, get_or, List·getD-eq-default, eqb, leb, ltb, eqb-true, eq-eqb, ne_eqb, ltb-true, ltb-false, lt-ltb}
use Rattle.element.proofs.Names.{le-ltb, leb-true, leb-false, le-leb, lt-leb, off, test, up_to_lem, from-tests, Side, GL, GR, allowed, may_use}
use Rattle.element.proofs.Names.{form_94x94, form_of}
use Rattle.element.proofs.Names.{Standing, on, put, Sets}
use mathlib.Core.Bool.{beq}
pub use Rattle.base.proofs.Bools.{beq_eq}
use Rattle.base.proofs.Bools.{implies, implies_elim, or_none, up_to, up_to_both, up_to_where}
use Rattle.state.specs.State.{sets}
use Rattle.grammar.specs.Units.{designation}
use Rattle.shortest.specs.Writing.{Need, free, either, stands, met, price, via, least, choose, after, used}
use Rattle.shortest.proofs.Needs.{Steady, least_chosen}
use Rattle.numbers.specs.Size as size
use Rattle.numbers.specs.Numbers.{sets_in_gl, sets_in_gr, numbered, with_gl, with_gr, need_of_class, price_of_class, places_in_gl, places_in_gr, after_first}
use Rattle.numbers.specs.Numbers.{after_second, chosen_by}
use Rattle.numbers.specs.Numbers.{after_choice, surcharge, change, side_at}

-- ---- tests of equality

abbrev same_side : Side → Side → Bool
same_side GL GL = true
same_side GL GR = false
same_side GR GL = false
same_side GR GR = true

abbrev pub same_standing : Standing → Standing → Bool
same_standing a b = same_side a.side b.side && eqb a.set b.set

abbrev is_standing : Option Standing → Standing → Bool
is_standing none p = false
is_standing (some q) p = same_standing q p

abbrev same_sets : Sets → Sets → Bool
same_sets a b = eqb a.gl b.gl && eqb a.gr b.gr

same_side_eq : (a b : Side) → same_side a b ≡ true → a ≡ b
same_side_eq GL GL e = refl
same_side_eq GL GR e = off e
same_side_eq GR GL e = off e
same_side_eq GR GR e = refl

pub same_standing_eq : (a b : Standing) → same_standing a b ≡ true → a ≡ b
same_standing_eq a b e = ap₂ on (search (from-tests, same_side_eq)) (search from-tests)

is_standing_eq : (o : Option Standing) (p : Standing) → is_standing o p ≡ true → o ≡ some p
is_standing_eq none p e = off e
is_standing_eq (some q) p e = ap some (same_standing_eq q p e)

same_sets_eq : (a b : Sets) → same_sets a b ≡ true → a ≡ b
same_sets_eq a b e = ap₂ sets (search from-tests) (search from-tests)

-- ---- the test of all classes and numbers

-- number j has a set standing that number k may lack: it is k where it lacks none, and else the two differ by that designation
record Reaches (x k j : ℕ) (p : Standing) : Type 0 where
  state : numbered j ≡ put p (numbered k)
  stays : eqb j k ≡ stands p (numbered k)
  cost : price p ≡ price_of_class x
  below : j < 80
  changed : eqb j k ≡ false → change k j ≡ some p

abbrev reaches : ℕ → ℕ → ℕ → Standing → Bool
reaches x k j p =
    (same_sets (numbered j) (put p (numbered k)) && beq (eqb j k) (stands p (numbered k)))
    && (eqb (price p) (price_of_class x) && ltb j 80) && implies (not (eqb j k)) (is_standing (change k j) p)

reaches_all : (x k j : ℕ) (p : Standing) → reaches x k j p ≡ true → Reaches x k j p
reaches_all x k j p e =
    record {
      state = search (from-tests, same_sets_eq);
      stays = search (from-tests, beq_eq);
      cost = search from-tests;
      below = search from-tests;
      changed = λ n. is_standing_eq _ _ (implies_elim (not (eqb j k)) (is_standing (change k j) p) (search from-tests) (ap not n));
    }

abbrev reached : Need → ℕ → ℕ → Bool
reached free x k = eqb (after_first x k) k && eqb (after_second x k) k
reached (either a b) x k = reaches x k (after_first x k) a && reaches x k (after_second x k) b

all_reached : up_to 17 (λ x. up_to 80 (λ k. reached (need_of_class x) x k)) ≡ true
unfolding need_of_class after_first after_second price_of_class change numbered price put stands designation form_of allowed may_use
all_reached = refl

reached_at : (x k : ℕ) → x < 17 → k < 80 → reached (need_of_class x) x k ≡ true
reached_at x k = up_to_both 17 80 (λ y m. reached (need_of_class y) y m) all_reached x k

-- what it says of a need: the two numbers are k itself, or each is reached
data Served (x k : ℕ) : Need → Type 0 where
  needs_none : after_first x k ≡ k → after_second x k ≡ k → Served x k free
  needs_one : {a b : Standing} → Reaches x k (after_first x k) a → Reaches x k (after_second x k) b → Served x k (either a b)

served_by : (n : Need) (x k : ℕ) → reached n x k ≡ true → Served x k n
served_by free x k e = search (from-tests, needs_none)
served_by (either a b) x k e = search (from-tests, needs_one, reaches_all)

served : (x k : ℕ) → x < 17 → k < 80 → Served x k (need_of_class x)
served x k hx hk = served_by (need_of_class x) x k (reached_at x k hx hk)

-- ---- the choice

-- number j is that of the sets in force after the choice, v what the rest costs from there
pub record Choice (n : Need) (f : Sets → ℕ) (x k j v : ℕ) : Type 0 where
  pub state : numbered j ≡ after (choose n f (numbered k)) (numbered k)
  pub cost : surcharge x k j + v ≡ least n f (numbered k)
  pub below : j < 80
  pub changed : change k j ≡ choose n f (numbered k)

unchanged : (k : ℕ) → change k k ≡ none
unfolding change
unchanged k = rw (eq-eqb k k refl)

module _ (f : Sets → ℕ) (h : ℕ → ℕ) (agree : (j : ℕ) → j < 80 → h j ≡ f (numbered j)) (x k : ℕ) (hk : k < 80) where
  -- nothing is designated, or p is, which leads to number j
  choice_none : (n : Need) → choose n f (numbered k) ≡ none → Choice n f x k k (h k)
  choice_none n e =
      record {
        state = rw e;
        cost = rw (eq-eqb k k refl) (omega (arith, agree k hk, rw e at (least_chosen n f (numbered k))));
        below = hk;
        changed = rw e (unchanged k);
      }

  choice_some : (n : Need) (j : ℕ) (p : Standing) → Reaches x k j p → eqb j k ≡ false → choose n f (numbered k) ≡ some p → Choice n f x k j (h j)
  choice_some n j p r d e =
      record {
        state = rw e r.state;
        cost = rw d (omega (arith, r.cost, agree j r.below, ap f r.state, rw e at (least_chosen n f (numbered k))));
        below = r.below;
        changed = rw e (r.changed d);
      }

  choice_either : (a b : Standing) → Reaches x k (after_first x k) a → Reaches x k (after_second x k) b
      → Choice (either a b) f x k (after_choice x k h) (h (after_choice x k h))
  unfolding chosen_by choose met
  choice_either a b ra rb = go (eqb (after_first x k) k || eqb (after_second x k) k) refl (leb (h (after_first x k)) (h (after_second x k))) refl
    where
      ha : h (after_first x k) ≡ f (put a (numbered k))
      ha = agree (after_first x k) ra.below ∙ ap f ra.state

      hb : h (after_second x k) ≡ f (put b (numbered k))
      hb = agree (after_second x k) rb.below ∙ ap f rb.state

      go : (m : Bool) → (eqb (after_first x k) k || eqb (after_second x k) k) ≡ m → (t : Bool) → leb (h (after_first x k)) (h (after_second x k)) ≡ t
          → Choice (either a b) f x k (cond m k (cond t (after_first x k) (after_second x k))) (h (cond m k (cond t (after_first x k) (after_second x k))))
      go true em t et = choice_none (either a b) (rw (rw (ra.stays, rb.stays) at em))
      go false em true et =
          choice_some (either a b) _ a ra (or_none (eqb (after_first x k) k) _ em).0
          (rw (rw (ra.stays, rb.stays) at em, le-leb (via a f (numbered k)) (via b f (numbered k)) (omega (arith, ra.cost, rb.cost, ha, hb, leb-true))))
      go false em false et =
          choice_some (either a b) _ b rb (or_none (eqb (after_first x k) k) _ em).1
          (rw (rw (ra.stays, rb.stays) at em, lt-leb (via a f (numbered k)) (via b f (numbered k)) (omega (arith, ra.cost, rb.cost, ha, hb, leb-false))))

  choice_of : {n : Need} → Served x k n → Choice n f x k (after_choice x k h) (h (after_choice x k h))
  unfolding chosen_by choose
  choice_of (needs_none e e') = rw (eq-eqb (after_first x k) k e) (choice_none free refl)
  choice_of (needs_one {a} {b} ra rb) = choice_either a b ra rb

  pub choice_at : x < 17 → Choice (need_of_class x) f x k (after_choice x k h) (h (after_choice x k h))
  choice_at hx = choice_of (served x k hx hk)

-- both numbers are numbers
served_below : {n : Need} (x k : ℕ) → Served x k n → k < 80 → (after_first x k < 80) × (after_second x k < 80)
served_below x k (needs_none e e') h = omega arith
served_below x k (needs_one ra rb) h = (ra.below, rb.below)

pub below : (x k : ℕ) → x < 17 → k < 80 → (after_first x k < 80) × (after_second x k < 80)
below x k hx hk = served_below x k (served x k hx hk) hk

-- a function that rises by no more than a designation's price does so by number
abbrev Rises : (Sets → ℕ) → ℕ → ℕ → Type 0
Rises f x k =
    (f (numbered k) ≤ price_of_class x + f (numbered (after_first x k))) × (f (numbered k) ≤ price_of_class x + f (numbered (after_second x k)))

served_steady : {n : Need} (f : Sets → ℕ) → Steady f → (x k : ℕ) → Served x k n → Rises f x k
served_steady f st x k (needs_none e e') = omega (arith, ap (λ (j : ℕ). f (numbered j)) e, ap (λ (j : ℕ). f (numbered j)) e')
served_steady f st x k (needs_one {a} {b} ra rb) =
    omega (arith, st a (numbered k), ap f ra.state, ra.cost, st b (numbered k), ap f rb.state, rb.cost)

pub steady_at : (f : Sets → ℕ) → Steady f → (x k : ℕ) → x < 17 → k < 80 → Rises f x k
steady_at f st x k hx hk = served_steady f st x k (served x k hx hk)

-- costs less a base choose alike
leb_base : (b u v : ℕ) → leb (b + u) (b + v) ≡ leb u v
leb_base b u v =
    test (leb u v) (λ e. rw e (le-leb (b + u) (b + v) (omega (arith, leb-true u v e))))
    (λ e. rw e (lt-leb (b + u) (b + v) (omega (arith, leb-false u v e))))

pub chosen_base : (x k b u v u' v' : ℕ) → b + u ≡ u' → b + v ≡ v' → chosen_by x k u v ≡ chosen_by x k u' v'
unfolding chosen_by
chosen_base x k b u v u' v' eu ev =
    ap (λ (t : Bool). cond (eqb (after_first x k) k || eqb (after_second x k) k) k (cond t (after_first x k) (after_second x k)))
    (sym (leb_base b u v) ∙ ap₂ leb eu ev)

-- ---- classes with one designation, and with none

-- a set of one octet has a place on one side alone
single : (x k : ℕ) → x < 12 → after_first x k ≡ after_second x k
unfolding after_first after_second
single x k h =
    let e : ltb (get_or places_in_gl x 0) 5 ≡ not (ltb (get_or places_in_gr x 0) 13) = beq_eq _ _
    (up_to_lem 12 (λ y. beq (ltb (get_or places_in_gl y 0) 5) (not (ltb (get_or places_in_gr y 0) 13))) refl x h) in
    rw (lt-ltb x 15 (omega arith), e) (go (ltb (get_or places_in_gr x 0) 13))
  where
    go : (t : Bool) → cond (not t) (with_gl (get_or places_in_gl x 0) k) (with_gr (get_or places_in_gr x 0) k)
        ≡ cond t (with_gr (get_or places_in_gr x 0) k) (with_gl (get_or places_in_gl x 0) k)
    go true = refl
    go false = refl

cond_same : (t : Bool) (a : ℕ) → cond t a a ≡ a
cond_same true a = refl
cond_same false a = refl

pub chosen_single : (x k u v u' v' : ℕ) → x < 12 → chosen_by x k u v ≡ chosen_by x k u' v'
unfolding chosen_by
chosen_single x k u v u' v' hx =
    rw (← single x k hx)
    (ap (cond (eqb (after_first x k) k || eqb (after_first x k) k) k) (cond_same (leb u v) (after_first x k) ∙ sym (cond_same (leb u' v') (after_first x k))))

pub chosen_only : (x k a u v : ℕ) → a ≡ after_first x k → (a ≡ k → ⊥) → x < 12 → a ≡ chosen_by x k u v
unfolding chosen_by
chosen_only x k a u v ea n hx = rw (← single x k hx, ← ea, ne_eqb a k n) (sym (cond_same (leb u v) a))

pub chosen_free : (k u v u' v' : ℕ) → chosen_by 16 k u v ≡ chosen_by 16 k u' v'
unfolding chosen_by after_first
chosen_free k u v u' v' = rw (eq-eqb k k refl)

-- ---- places, prices and sets, each by one test

-- what the writer knows of a set is what the table of sets says of it: it has a place on the sides it may use and on no other, it stands at
-- that place, and its designation has as many octets as its price
pub record Tied (c : ℕ) : Type 0 where
  pub in_gl : ltb (get_or places_in_gl c 0) size.gl ≡ allowed GL c
  pub in_gr : ltb (get_or places_in_gr c 0) size.gr ≡ allowed GR c
  pub at_gl : allowed GL c ≡ true → get_or sets_in_gl (get_or places_in_gl c 0) 0 ≡ c
  pub at_gr : allowed GR c ≡ true → get_or sets_in_gr (get_or places_in_gr c 0) 0 ≡ c
  pub price : price_of_class c ≡ cond (eqb (form_of c) form_94x94) 4 3

ties : ℕ → Bool
ties c =
    (beq (ltb (get_or places_in_gl c 0) size.gl) (allowed GL c) && beq (ltb (get_or places_in_gr c 0) size.gr) (allowed GR c))
    && (implies (allowed GL c) (eqb (get_or sets_in_gl (get_or places_in_gl c 0) 0) c)
    && implies (allowed GR c) (eqb (get_or sets_in_gr (get_or places_in_gr c 0) 0) c))
    && eqb (price_of_class c) (cond (eqb (form_of c) form_94x94) 4 3)

all_tied : up_to 15 ties ≡ true
unfolding ties allowed may_use form_of price_of_class
all_tied = refl

pub places_tied : (c : ℕ) → c < 15 → Tied c
unfolding ties
places_tied c h =
    let e = up_to_lem 15 ties all_tied c h in
    record {
      in_gl = search (from-tests, beq_eq);
      in_gr = search (from-tests, beq_eq);
      at_gl = λ a. eqb-true _ _ (implies_elim (allowed GL c) _ (search from-tests) a);
      at_gr = λ a. eqb-true _ _ (implies_elim (allowed GR c) _ (search from-tests) a);
      price = search from-tests;
    }

-- and the set at each place may stand on that side
all_placed : (up_to 5 (λ g. allowed GL (get_or sets_in_gl g 0)) && up_to 13 (λ r. allowed GR (get_or sets_in_gr r 0))) ≡ true
unfolding allowed may_use
all_placed = refl

-- a bound of all entries of a list of numbers
pub bounded : (l : List ℕ) (b : ℕ) → up_to (length l) (λ i. leb (get_or l i 0) b) ≡ true → (i : ℕ) → get_or l i 0 ≤ b
bounded l b t i =
    test (ltb i (length l)) (λ e. leb-true _ _ (up_to_lem (length l) (λ j. leb (get_or l j 0) b) t i (ltb-true _ _ e)))
    (λ e. omega (arith, List·getD-eq-default l 0 (ltb-false _ _ e)))

-- what stands at the places below n of a list for which a test holds
in_table : (l : List ℕ) (n : ℕ) (p : ℕ → Bool) (v : ℕ → ℕ) → up_to n (λ y. implies (p y) (eqb (v y) (get_or l y 0))) ≡ true
    → (x : ℕ) → x < n → p x ≡ true → v x ≡ get_or l x 0
in_table l n p v t x h e = eqb-true _ _ (up_to_where n p (λ y. eqb (v y) (get_or l y 0)) t x h e)

pub gl_two : (x : ℕ) → 12 ≤ x → x < 15 → x - 10 ≡ get_or places_in_gl x 0
gl_two x h k = in_table places_in_gl 15 (leb 12) (λ y. y - 10) refl x k (le-leb 12 x h)

pub gr_most : (x : ℕ) → 3 ≤ x → x < 15 → x - 2 ≡ get_or places_in_gr x 0
gr_most x h k = in_table places_in_gr 15 (leb 3) (λ y. y - 2) refl x k (le-leb 3 x h)

-- a set without a place in GL has one in GR
pub gr_alone : (x l : ℕ) → x < 15 → l ≡ get_or places_in_gl x 0 → 5 ≤ l → get_or places_in_gr x 0 < 13
gr_alone x l h el b =
    ltb-true _ _
    (up_to_where 15 (λ y. not (ltb (get_or places_in_gl y 0) 5)) (λ y. ltb (get_or places_in_gr y 0) 13) refl x h (rw (← el, le-ltb l 5)))

-- the numbers by a class's places
module _ (x l r k : ℕ) (el : l ≡ get_or places_in_gl x 0) (er : r ≡ get_or places_in_gr x 0) where
  pub first_gl : x < 15 → l < 5 → with_gl l k ≡ after_first x k
  unfolding after_first
  first_gl h m = rw (lt-ltb x 15, ← el, lt-ltb l 5)

  pub first_gr : x < 15 → 5 ≤ l → with_gr r k ≡ after_first x k
  unfolding after_first
  first_gr h m = rw (lt-ltb x 15, ← el, ← er, le-ltb l 5)

  pub second_gr : x < 15 → r < 13 → with_gr r k ≡ after_second x k
  unfolding after_second
  second_gr h m = rw (lt-ltb x 15, ← er, lt-ltb r 13)

pub first_space : (k : ℕ) → with_gl 0 k ≡ after_first 15 k
unfolding after_first
first_space k = refl

pub second_space : (k : ℕ) → with_gl 1 k ≡ after_second 15 k
unfolding after_second
second_space k = refl

-- the price by the places
pub price_both : (x l r : ℕ) → x < 15 → l ≡ get_or places_in_gl x 0 → r ≡ get_or places_in_gr x 0 → l < 5 → r < 13 → price_of_class x ≡ 4
unfolding price_of_class
price_both x l r h el er a b =
    eqb-true _ _
    (up_to_where 15 (λ y. ltb (get_or places_in_gl y 0) 5 && ltb (get_or places_in_gr y 0) 13) (λ y. eqb (price_of_class y) 4) refl x h
    (rw (← el, ← er, lt-ltb l 5, lt-ltb r 13)))

pub price_gr : (x l : ℕ) → x < 15 → l ≡ get_or places_in_gl x 0 → 5 ≤ l → price_of_class x ≡ 3
unfolding price_of_class
price_gr x l h el b =
    eqb-true _ _
    (up_to_where 15 (λ y. not (ltb (get_or places_in_gl y 0) 5)) (λ y. eqb (price_of_class y) 3) refl x h (rw (← el, le-ltb l 5)))

-- ---- the side

abbrev sided : ℕ → ℕ → Bool
sided x j = implies (met (need_of_class x) (numbered j)) (same_side (used (need_of_class x) (numbered j)) (side_at x j))

all_sided : up_to 15 (λ x. up_to 80 (λ k. sided x k)) ≡ true
unfolding need_of_class numbered side_at stands met used allowed may_use
all_sided = refl

-- where a character's need is met, it is written on the side found by number
pub used_side : (x j : ℕ) → x < 15 → j < 80 → met (need_of_class x) (numbered j) ≡ true → used (need_of_class x) (numbered j) ≡ side_at x j
used_side x j hx hj m = same_side_eq _ _ (implies_elim (met (need_of_class x) (numbered j)) _ (up_to_both 15 80 sided all_sided x j hx hj) m)
