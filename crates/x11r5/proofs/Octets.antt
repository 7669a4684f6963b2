-- The octets of designations and of the units that X11R5 has. Each is one of 01 to FF (`reads_proper`), so a string of the grammar with such units alone
-- has no 00; and of all good units those start with what X11R5 does not have that it does not have (`unit_starts`). Of designations antt computes it for
-- the fifteen sets; of characters it follows from the codes that a set uses.
use Rattle.element.proofs.Names.{ℕ, zero, suc, ◌+◌, ◌/◌, ◌%◌, ◌≤◌, ◌<◌, arith, ◌≡◌, refl, Bool, true, false, cond, ◌&&◌, true≢false, List, []}
use Rattle.element.proofs.Names.{◌∷◌, ◌++◌, eqb, leb, ltb, ne_eqb, le-ltb, le-leb, pick, test, up_to_lem, and_left, and_right, from-tests, Side, GL, GR}
use Rattle.element.proofs.Names.{form_96, form_94x94, allowed, form_of, Standing, on, Sets}
use Rattle.charset.proofs.Laws.{allowed_below}
use Rattle.element.proofs.Starts.{graphic_low}
use Rattle.text.specs.Text.{graphic_of}
use Rattle.grammar.specs.Units.{TextUnit, char, space, control, tab, newline, ltr, rtl, revert, ext, wide, top, octets, designation, code_used, good}
use Rattle.grammar.specs.Grammar.{Reads, done, designate, show}
use Rattle.grammar.specs.Reading.{Octets}
use Rattle.grammar.proofs.Good.{good_segment}
use Rattle.x11r5.specs.Reading.{mark_by, segment_by, unsupported_at}
use Rattle.x11r5.specs.Writing.{unsupported_unit}
use Rattle.x11r5.specs.Theorems.{Supported}

-- an octet that is not 00
abbrev pub Proper : ℕ → Type 0
Proper x = (1 ≤ x) × (x < 256)

-- an octet of a character: it starts no escape sequence and no direction mark
abbrev Graphic : ℕ → Type 0
Graphic x = (0x20 ≤ x) × (x < 256) × (x ≡ 0x9B → ⊥)

-- each octet of a string
abbrev pub All : (ℕ → Type 0) → List ℕ → Type 0
All P [] = Unit {0}
All P (x ∷ xs) = P x × All P xs

pub join : (xs ys : List ℕ) → All Proper xs → All Proper ys → All Proper (xs ++ ys)
join [] ys a b = b
join (x ∷ xs) ys a b = (a.0, join xs ys a.1 b)

pub proper_octets : (t : List ℕ) → All Proper t → Octets t
proper_octets [] h i = omega arith
proper_octets (x ∷ t) h zero = h.0.1
proper_octets (x ∷ t) h (suc i) = proper_octets t h.1 i

-- as antt computes
abbrev properly : List ℕ → Bool
properly [] = true
properly (x ∷ xs) = (leb 1 x && ltb x 256) && properly xs

computed : (xs : List ℕ) → properly xs ≡ true → All Proper xs
computed [] e = tt
computed (x ∷ xs) e =
    let h : (leb 1 x && ltb x 256) ≡ true = and_left _ (properly xs) e in
    let p : Proper x = search from-tests in
    (p, computed xs (and_right (leb 1 x && ltb x 256) _ e))

pub designation_proper : (p : Standing) → allowed p.side p.set ≡ true → All Proper (designation p)
unfolding designation form_of
designation_proper p a = go p.side p.set (allowed_below p.side p.set a)
  where
    go : (d : Side) (c : ℕ) → c < 15 → All Proper (designation (on d c))
    go GL c h = computed (designation (on GL c)) (up_to_lem 15 (λ n. properly (designation (on GL n))) refl c h)
    go GR c h = computed (designation (on GR c)) (up_to_lem 15 (λ n. properly (designation (on GR n))) refl c h)

-- ---- characters

graphic : (d : Side) (k : ℕ) → 0x20 ≤ k → k ≤ 0x7F → Graphic (top d + k)
graphic GL k h l = (omega arith, omega arith, λ e. omega arith)
graphic GR k h l = (omega arith, omega arith, λ e. omega arith)

module _ (f k : ℕ) (u : code_used f k ≡ true) where
  one_octet : eqb f form_94x94 ≡ false → (0x20 ≤ k) × (k ≤ 0x7F)
  unfolding code_used
  one_octet n = go (eqb f form_96) (rw n at u)
    where
      go : (b : Bool) → cond b (leb 0x20 k && leb k 0x7F) (graphic_of k) ≡ true → (0x20 ≤ k) × (k ≤ 0x7F)
      go true v = search from-tests
      go false v = let a = graphic_low k v in (omega arith, omega arith)

  two_octets : eqb f form_94x94 ≡ true → ((0x20 ≤ k / 256) × (k / 256 ≤ 0x7F)) × ((0x20 ≤ k % 256) × (k % 256 ≤ 0x7F))
  unfolding code_used
  two_octets n =
      let v : (graphic_of (k / 256) && graphic_of (k % 256)) ≡ true = rw n at u in
      let a = graphic_low (k / 256) (search from-tests) in
      let b = graphic_low (k % 256) (search from-tests) in
      ((omega arith, omega arith), (omega arith, omega arith))

-- a character has an octet, and each is graphic
record Shown (t : List ℕ) : Type 0 where
  first : ℕ
  others : List ℕ
  are : t ≡ first ∷ others
  each : All Graphic (first ∷ others)

char_shown : (d : Side) (c k : ℕ) → code_used (form_of c) k ≡ true → Shown (octets d (char c k))
unfolding octets wide
char_shown d c k u =
    test (eqb (form_of c) form_94x94)
    (λ e. let b = two_octets _ k u e in
    rw e (record {
      first = top d + k / 256;
      others = (top d + k % 256) ∷ [];
      are = refl;
      each = (graphic d _ b.0.0 b.0.1, (graphic d _ b.1.0 b.1.1, tt));
    }))
    (λ e. let b = one_octet _ k u e in
    rw e (record { first = top d + k; others = []; are = refl; each = (graphic d k b.0 b.1, tt) }))

graphic_proper : (t : List ℕ) → All Graphic t → All Proper t
graphic_proper [] h = tt
graphic_proper (x ∷ t) h = ((omega (arith, h.0.0), h.0.1), graphic_proper t h.1)

-- ---- units

pub unit_proper : (u : TextUnit) (d : Side) → good u ≡ true → unsupported_unit u ≡ false → All Proper (octets d u)
unfolding octets good
unit_proper (char c k) d g n =
    let w = char_shown d c k (search from-tests) in
    rw w.are (graphic_proper (w.first ∷ w.others) w.each)
unit_proper space d g n = computed (0x20 ∷ []) refl
unit_proper (control tab) d g n = computed (0x09 ∷ []) refl
unit_proper (control newline) d g n = computed (0x0A ∷ []) refl
unit_proper (control ltr) d g n = absurd (true≢false n)
unit_proper (control rtl) d g n = absurd (true≢false n)
unit_proper (control revert) d g n = absurd (true≢false n)
unit_proper (ext e xs) d g n = absurd (true≢false n)

-- a string of such units and of designations has no 00
pub reads_proper : {s : Sets} {t : List ℕ} {us : List TextUnit} → Reads s t us → Supported us → All Proper t
reads_proper done h = tt
reads_proper (designate {t = t} p a r) h = join (designation p) t (designation_proper p a) (reads_proper r h)
reads_proper (show {t = t} u d g s r) h = join (octets d u) t (unit_proper u d g h.0) (reads_proper r h.1)

-- what starts with a good unit starts with what X11R5 does not have exactly where the unit is such
pub unit_starts : (u : TextUnit) (d : Side) (t : List ℕ) → good u ≡ true → unsupported_at (octets d u ++ t) ≡ unsupported_unit u
unfolding octets good unsupported_at mark_by segment_by pick
unit_starts (char c k) d t g =
    let w = char_shown d c k (search from-tests) in
    let h : Graphic w.first = w.each.0 in
    rw w.are (rw (ne_eqb w.first 0x9B h.2, ne_eqb w.first 0x1B (λ e. omega (arith, h.0))))
unit_starts space d t g = refl
unit_starts (control tab) d t g = refl
unit_starts (control newline) d t g = refl
unit_starts (control ltr) d t g = refl
unit_starts (control rtl) d t g = refl
unit_starts (control revert) d t g = refl
unit_starts (ext e xs) d t g =
    let h = good_segment e xs g in
    rw (le-ltb e 0x30 h.low, le-leb e 0x34 h.high)

-- and none does that starts with a designation
pub designation_starts : (d : Side) (c : ℕ) (t : List ℕ) → unsupported_at (designation (on d c) ++ t) ≡ false
unfolding designation form_of unsupported_at segment_by pick
designation_starts d c t = go d (eqb (form_of c) form_94x94) refl
  where
    go : (d : Side) (x : Bool) → eqb (form_of c) form_94x94 ≡ x → unsupported_at (designation (on d c) ++ t) ≡ false
    go GL true e = rw e
    go GL false e = rw e
    go GR true e = rw e
    go GR false e = test (eqb (form_of c) form_96) (λ q. rw (e, q)) (λ q. rw (e, q))
