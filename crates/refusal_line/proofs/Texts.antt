-- A text is put before a place from its last octet to its first: each store puts one octet before those from the place on (`before`). For a
-- text that is there the octets come from its end (`Put`); for a number each is the last digit of what is left of it (`Counted`).
use Rattle.element.proofs.Names.{ℕ, zero, suc, ◌+◌, ◌-◌, ◌*◌, ◌/◌, ◌%◌, ◌^◌, ◌≤◌, ◌<◌, arith, ◌≡◌, refl, ap, ap₂, sym, ◌∙◌, List, [], ◌∷◌, ◌++◌}
use Rattle.element.proofs.Names.{length, get_or, set, take, drop, length-set, length-drop, le-ltb, lt-ltb, pick}
use lib.Seq.{drop-cons, drop-length, take_all, drop-set-lt, get_or-set_same, append_snoc}
use Rattle.base.proofs.Stores.{stored_fits}
use Rattle.base.specs.Output.{stored_in}
use Rattle.refusal_line.specs.Line.{digit, digits, decimal, refusal_line}

before : (l : List ℕ) (i b : ℕ) → i < length l → drop i (set l i b) ≡ b ∷ drop (suc i) l
before l i b h =
    drop-cons (set l i b) i 0 (rw length-set h)
    ∙ ap₂ (λ (x : ℕ) (xs : List ℕ). x ∷ xs) (get_or-set_same l i b 0 h) (drop-set-lt (suc i) l i b (omega arith))

-- the same at the place before a place
before_place : (l : List ℕ) (at b : ℕ) → 0 < at → at ≤ length l → drop (at - 1) (set l (at - 1) b) ≡ b ∷ drop at l
before_place l at b z h =
    let e : suc (at - 1) ≡ at = omega arith in
    before l (at - 1) b (omega arith) ∙ ap (λ (k : ℕ). b ∷ drop k l) e

-- the octets of a text from i on stand from a place on
pub record Put (text old : List ℕ) (end i at : ℕ) (l : List ℕ) : Type 0 where
  pub few : i ≤ length text
  pub stands : at + length text ≡ end + i
  pub holds : drop at l ≡ drop i text ++ drop end old
  pub same : length l ≡ length old

module _ (text old : List ℕ) (end : ℕ) (room : length text ≤ end) (within : end ≤ length old) where
  pub put_none : Put text old end (length text) end old
  put_none =
      record { few = omega arith; stands = refl; holds = ap (λ (xs : List ℕ). xs ++ drop end old) (sym (drop-length text)); same = refl }

  pub put_next : (i at : ℕ) (l : List ℕ) → Put text old end i at l → 0 < i → Put text old end (i - 1) (at - 1) (set l (at - 1) (get_or text (i - 1) 0))
  put_next i at l h z =
      let few : i ≤ length text = h.few in
      let stands : at + length text ≡ end + i = h.stands in
      let same : length l ≡ length old = h.same in
      let e : suc (i - 1) ≡ i = omega arith in
      let b = get_or text (i - 1) 0 in
      let octet : drop (i - 1) text ≡ b ∷ drop i text = drop-cons text (i - 1) 0 (omega arith) ∙ ap (λ (k : ℕ). b ∷ drop k text) e in
      record {
        few = omega arith;
        stands = omega arith;
        holds =
            before_place l at b (omega arith) (omega arith)
            ∙ ap (λ (xs : List ℕ). b ∷ xs) h.holds
            ∙ ap (λ (xs : List ℕ). xs ++ drop end old) (sym octet);
        same = length-set l (at - 1) b ∙ same;
      }

-- numbers below have at most k + 1 digits
unfoldable pub most : ℕ → ℕ
most zero = 10
most (suc k) = 10 * most k

-- the digits of a number are those of what is left of it, at most k + 1, and those that stand from a place on
pub record Counted (n : ℕ) (old : List ℕ) (end at rest : ℕ) (l : List ℕ) : Type 0 where
  pub k : ℕ
  pub few : k ≤ 19
  pub below : rest < most k
  pub stands : at + 19 ≡ end + k
  pub holds : digits k rest ++ drop at l ≡ decimal n ++ drop end old
  pub same : length l ≡ length old

pub counted_none : (n : ℕ) → n < 2 ^ 64 → (old : List ℕ) (end : ℕ) → Counted n old end end n old
unfolding most
counted_none n fits old end =
    record { k = 19; few = omega arith; below = omega arith; stands = refl; holds = refl; same = refl }

module _ (n : ℕ) (old : List ℕ) (end : ℕ) (room : 20 ≤ end) (within : end ≤ length old) where
  module _ (at rest : ℕ) (l : List ℕ) (h : Counted n old end at rest l) where
    -- there is room for a digit
    pub digit_room : (0 < at) × (at ≤ length l)
    digit_room =
        let few : h.k ≤ 19 = h.few in
        let stands : at + 19 ≡ end + h.k = h.stands in
        let same : length l ≡ length old = h.same in
        (omega arith, omega arith)

    -- the last digit goes before the place, and the others are left
    next : (k : ℕ) → k ≤ 19 → rest < most k → at + 19 ≡ end + k → digits k rest ++ drop at l ≡ decimal n ++ drop end old → 10 ≤ rest
        → Counted n old end (at - 1) (rest / 10) (set l (at - 1) (digit (rest % 10)))
    unfolding most digits pick
    next zero few below stands holds more = absurd (omega arith)
    next (suc k) few below stands holds more =
        record {
          k = k;
          few = omega arith;
          below = omega arith;
          stands = omega arith;
          holds =
              ap (λ (xs : List ℕ). digits k (rest / 10) ++ xs) (before_place l at (digit (rest % 10)) digit_room.0 digit_room.1)
              ∙ sym (append_snoc (digits k (rest / 10)) (digit (rest % 10)) (drop at l))
              ∙ (rw (le-ltb rest 10 more) at holds);
          same = length-set l (at - 1) (digit (rest % 10)) ∙ h.same;
        }

    pub counted_next : 10 ≤ rest → Counted n old end (at - 1) (rest / 10) (set l (at - 1) (digit (rest % 10)))
    counted_next = next h.k h.few h.below h.stands h.holds

    -- one digit is left
    one : (k : ℕ) → rest < 10 → digits k rest ≡ digit (rest % 10) ∷ []
    unfolding digits pick
    one zero less = let e : rest ≡ rest % 10 = omega arith in ap (λ (d : ℕ). digit d ∷ []) e
    one (suc k) less = let e : rest ≡ rest % 10 = omega arith in rw (lt-ltb rest 10 less) (ap (λ (d : ℕ). digit d ∷ []) e)

    pub counted_length : length (set l (at - 1) (digit (rest % 10))) ≡ length old
    counted_length = length-set l (at - 1) (digit (rest % 10)) ∙ h.same

    pub counted_last : rest < 10 → drop (at - 1) (set l (at - 1) (digit (rest % 10))) ≡ decimal n ++ drop end old
    counted_last less =
        before_place l at (digit (rest % 10)) digit_room.0 digit_room.1
        ∙ ap (λ (xs : List ℕ). xs ++ drop at l) (sym (one h.k less))
        ∙ h.holds

-- the parts of a line, each before what stands after it
pub line_of : (number place : ℕ) (xs₀ xs₁ xs₂ xs₃ xs₄ xs₅ : List ℕ) → xs₀ ≡ [] → xs₁ ≡ (0x0A ∷ []) ++ xs₀
    → xs₂ ≡ decimal place ++ xs₁
    → xs₃ ≡ (0x20 ∷ 0x61 ∷ 0x74 ∷ 0x20 ∷ []) ++ xs₂ → xs₄ ≡ decimal number ++ xs₃
    → xs₅ ≡ (0x72 ∷ 0x65 ∷ 0x66 ∷ 0x75 ∷ 0x73 ∷ 0x65 ∷ 0x64 ∷ 0x20 ∷ []) ++ xs₄ → xs₅ ≡ refusal_line number place
unfolding refusal_line
line_of number place xs₀ xs₁ xs₂ xs₃ xs₄ xs₅ e₀ e₁ e₂ e₃ e₄ e₅ = rw (e₅, e₄, e₃, e₂, e₁, e₀)

pub line_length : (line l : List ℕ) (start : ℕ) → drop start l ≡ line → length l ≡ 64 → 64 - start ≡ length line
line_length line l start e f = ap (λ (k : ℕ). k - start) (sym f) ∙ sym (length-drop start l) ∙ ap length e

-- the line that stands from a place on in a buffer l, put before the place of its length in the output
pub stored_line : (line l out next : List ℕ) (start r : ℕ) → drop start l ≡ line → length l ≡ 64 → 64 - start ≤ length out
    → r ≡ 64 - start - length (take (64 - start) (drop start l)) → drop r next ≡ take (64 - start) (drop start l) ++ drop (64 - start) out
    → next ≡ stored_in line out
stored_line line l out next start r e f h k g =
    let n : 64 - start ≡ length line = line_length line l start e f in
    let is : take (64 - start) (drop start l) ≡ line = take_all (64 - start) (drop start l) (omega (arith, length-drop start l)) ∙ e in
    let long : length (take (64 - start) (drop start l)) ≡ length line = ap length is in
    let z : r ≡ 0 = omega arith in
    stored_fits line out next (omega arith)
    (ap (λ (i : ℕ). drop i next) (sym z) ∙ g ∙ ap (λ (xs : List ℕ). xs ++ drop (64 - start) out) is ∙ ap (λ (i : ℕ). line ++ drop i out) n)
