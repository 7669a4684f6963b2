-- The table's rule at each entry: one test that antt computes over the octets and the forms, carried to each by `up_to_lem`. So what an octet starts
-- under a state is the class of its entry in the state's row (`table_class`), and the shape of an element is what that class starts
-- (`table_shape`).
use Rattle.element.proofs.Names.{ℕ, zero, suc, ◌+◌, ◌<◌, ◌≤◌, arith, ◌≡◌, refl, ap, sym, ◌∙◌, Bool, true, List, ◌∷◌}
use Rattle.element.proofs.Names.{eqb, ltb, length, get_or, eqb-true, ltb-true, pick, pick_by, up_to_lem, form_96}
use Rattle.element.proofs.Names.{form_of, Sets, GL, GR}
use native.Mathlib.Nat.{add-zero}
use Rattle.base.proofs.Bools.{up_to, up_to_both, implies, implies_elim}
use Rattle.charset.proofs.Laws.{by_rows, row_past}
use Rattle.text.specs.Text.{graphic_of}
use Rattle.element.specs.Element.{shape_of}
use Rattle.element.specs.Start.{Start, used_in, character_start, left_start, start_of, start_in, begun_by}
use Rattle.element.specs.Start as start
use Rattle.octet_table.specs.Table.{number_of, class_of, rule_of, entries, table, left_of, right_of, row_for, row_of}

-- ---- the rows

pub right_most : (form : ℕ) → right_of form ≤ 512
unfolding right_of
right_most form = pick_by (λ n. n ≤ 512) _ (λ _. omega arith) (λ _. pick_by (λ n. n ≤ 512) _ (λ _. omega arith) (λ _. omega arith))

pub left_most : (form : ℕ) → left_of form ≤ 768
unfolding left_of
left_most form = pick_by (λ n. n ≤ 768) _ (λ _. omega arith) (λ _. omega arith)

pub row_most : (s : Sets) → row_of s ≤ 1280
row_most s = let l = left_most (form_of s.gl) in let r = right_most (form_of s.gr) in omega (arith, l, r)

pub row_low : (row : ℕ) (s : Sets) → row ≡ row_of s → row ≤ 1280
row_low row s e = rw e (row_most s)

-- ---- the entries

entry : (f : ℕ → ℕ) (n i k : ℕ) → k < n → get_or (entries f n i) k 0 ≡ f (i + k)
unfolding entries
entry f zero i k h = absurd (omega arith)
entry f (suc n) i zero h = ap f (sym (add-zero i))
entry f (suc n) i (suc k) h =
    let e : suc i + k ≡ i + suc k = omega arith in
    entry f n (suc i) k (omega arith) ∙ ap f e

long : (f : ℕ → ℕ) (n i : ℕ) → length (entries f n i) ≡ n
unfolding entries
long f zero i = refl
long f (suc n) i = ap suc (long f n (suc i))

pub table_length : (t : List ℕ) → t ≡ table → length t ≡ 1536
unfolding table
table_length t e = ap length e ∙ long rule_of 1536 0

pub table_at : (t : List ℕ) → t ≡ table → (k : ℕ) → k < 1536 → get_or t k 0 ≡ rule_of k
unfolding table
table_at t e k h =
    let z : 0 + k ≡ k = omega arith in
    ap (λ (u : List ℕ). get_or u k 0) e ∙ entry rule_of 1536 0 k h ∙ ap rule_of z

-- ---- the rule of a row, whatever the forms

-- a form is one of four, 0 where there is no set
form_most : (c : ℕ) → form_of c < 4
unfolding form_of
form_most c = ltb-true _ _ (by_rows (λ n. ltb (form_of n) 4) refl (λ n h. rw (row_past n h)) c)

agrees : ℕ → ℕ → ℕ → Bool
agrees left right b = eqb (rule_of (row_for left right + b)) (number_of (start_of left right b))

-- the computed test: of four forms in GL and in GR, and 256 octets
all_agree : up_to 4 (λ left. up_to 4 (λ right. up_to 256 (agrees left right))) ≡ true
unfolding agrees rule_of left_of right_of number_of start_of left_start character_start used_in graphic_of pick
all_agree = refl

pub row_rule : (s : Sets) (b : ℕ) → b < 256 → rule_of (row_of s + b) ≡ number_of (start_in s b)
unfolding agrees
row_rule s b h =
    eqb-true _ _
    (up_to_lem 256 (agrees (form_of s.gl) (form_of s.gr))
    (up_to_both 4 4 (λ l r. up_to 256 (agrees l r)) all_agree (form_of s.gl) (form_of s.gr) (form_most s.gl) (form_most s.gr)) b h)

-- a set in GR of which A0 is a character is of 96: a test that antt computes
full_rule : up_to 4 (λ left. up_to 4 (λ right. implies (eqb (number_of (start_of left right 0xA0)) 4) (eqb right form_96))) ≡ true
unfolding number_of start_of left_start character_start used_in graphic_of pick
full_rule = refl

pub row_96 : (s : Sets) → rule_of (row_of s + 0xA0) ≡ 4 → form_of s.gr ≡ form_96
row_96 s h =
    let left = form_of s.gl in
    let right = form_of s.gr in
    let e : eqb (number_of (start_in s 0xA0)) 4 ≡ true = rw (sym (row_rule s 0xA0 (omega arith)) ∙ h) refl in
    let t = up_to_both 4 4 (λ l r. implies (eqb (number_of (start_of l r 0xA0)) 4) (eqb r form_96)) full_rule left right
    (form_most s.gl) (form_most s.gr) in
    eqb-true _ _ (implies_elim (eqb (number_of (start_in s 0xA0)) 4) (eqb right form_96) t e)

-- ---- the classes

pub class_number : (c : Start) → class_of (number_of c) ≡ c
unfolding class_of number_of pick
class_number start.escape = refl
class_number start.mark = refl
class_number start.tab = refl
class_number start.newline = refl
class_number start.space = refl
class_number start.unused = refl
class_number (start.one GL) = refl
class_number (start.one GR) = refl
class_number (start.two GL) = refl
class_number (start.two GR) = refl

-- what an octet starts is the class of its entry (promise Q5a)
pub table_class : (s : Sets) (b : ℕ) → b < 256 → class_of (get_or table (row_of s + b) 0) ≡ start_in s b
table_class s b h =
    ap class_of (table_at table refl (row_of s + b) (omega (arith, row_most s)) ∙ row_rule s b h) ∙ class_number (start_in s b)

pub table_shape : (s : Sets) (b : ℕ) (t : List ℕ) → b < 256 → shape_of (b ∷ t) s ≡ begun_by (class_of (get_or table (row_of s + b) 0)) b t s
unfolding shape_of
table_shape s b t h = ap (λ (c : Start). begun_by c b t s) (sym (table_class s b h))
