-- The writing of good units is a string of octets, each below 256, where the octets of their extended segments are: so it is of every
-- unit's octets and every designation's.
use Rattle.element.proofs.Names.{ℕ, zero, suc, ◌+◌, ◌/◌, ◌%◌, ◌≤◌, ◌<◌, arith, ◌≡◌, refl, Bool, true, ◌&&◌, List, [], ◌∷◌, ◌++◌, Option, none, some}
use Rattle.element.proofs.Names.{eqb, ltb, length, test, and_right, from-tests, Side, GL, GR, form_94x94, form_of, Standing, on, Sets}
use Rattle.charset.proofs.Laws.{row_past, by_rows}
use Rattle.grammar.specs.Units.{TextUnit, char, space, control, tab, newline, ltr, rtl, revert, ext, wide, top, octets, designation, code_used, good}
use Rattle.grammar.specs.Grammar.{Reads, done, designate, show}
use Rattle.grammar.specs.Reading.{Octets}
use Rattle.grammar.proofs.Good.{one_code, two_code, good_segment}
use Rattle.shortest.specs.Writing.{need, cost, choose, after, designated, used, writing, Every, Good, Contents}

-- each number of a list is below 256
abbrev Small : List ℕ → Type 0
Small [] = Unit {0}
Small (x ∷ xs) = (x < 256) × Small xs

small : (xs : List ℕ) → Small xs → Octets xs
small [] h i = omega arith
small (x ∷ xs) h zero = h.0
small (x ∷ xs) h (suc i) = small xs h.1 i

-- as antt computes
abbrev below : List ℕ → Bool
below [] = true
below (x ∷ xs) = ltb x 256 && below xs

computed : (xs : List ℕ) → below xs ≡ true → Octets xs
computed xs e = small xs (go xs e)
  where
    go : (xs : List ℕ) → below xs ≡ true → Small xs
    go [] e = tt
    go (x ∷ xs) e = (search from-tests, go xs (and_right (ltb x 256) _ e))

join : (xs ys : List ℕ) → Octets xs → Octets ys → Octets (xs ++ ys)
join [] ys a b i = b i
join (x ∷ xs) ys a b zero = a 0
join (x ∷ xs) ys a b (suc i) = join xs ys (λ j. a (suc j)) b i

pub front : (xs ys : List ℕ) → Octets (xs ++ ys) → Octets xs
front [] ys o i = omega arith
front (x ∷ xs) ys o zero = o 0
front (x ∷ xs) ys o (suc i) = front xs ys (λ j. o (suc j)) i

pub back : (xs ys : List ℕ) → Octets (xs ++ ys) → Octets ys
back [] ys o i = o i
back (x ∷ xs) ys o i = back xs ys (λ j. o (suc j)) i

designation_octets : (d : Side) (c : ℕ) → Octets (designation (on d c))
unfolding designation form_of
designation_octets GL c = computed (designation (on GL c)) (by_rows (λ n. below (designation (on GL n))) refl (λ n h. rw (row_past n h)) c)
designation_octets GR c = computed (designation (on GR c)) (by_rows (λ n. below (designation (on GR n))) refl (λ n h. rw (row_past n h)) c)

topped : (d : Side) (k : ℕ) → k ≤ 0x7F → top d + k < 256
topped GL k h = omega arith
topped GR k h = omega arith

char_octets : (d : Side) (c k : ℕ) → code_used (form_of c) k ≡ true → Octets (octets d (char c k))
unfolding octets wide
char_octets d c k u =
    test (eqb (form_of c) form_94x94)
    (λ e. let b = two_code _ k e u in
    rw e (small ((top d + k / 256) ∷ (top d + k % 256) ∷ []) (topped d _ b.0, (topped d _ b.1, tt))))
    (λ e. rw e (small ((top d + k) ∷ []) (topped d k (one_code (form_of c) k e u), tt)))

-- the octets of an extended segment are octets
unit_octets : (u : TextUnit) (d : Side) → good u ≡ true → Contents u → Octets (octets d u)
unfolding octets good
unit_octets (char c k) d g o = char_octets d c k (search from-tests)
unit_octets space d g o = computed (0x20 ∷ []) refl
unit_octets (control tab) d g o = computed (0x09 ∷ []) refl
unit_octets (control newline) d g o = computed (0x0A ∷ []) refl
unit_octets (control ltr) d g o = computed (0x9B ∷ 0x31 ∷ 0x5D ∷ []) refl
unit_octets (control rtl) d g o = computed (0x9B ∷ 0x32 ∷ 0x5D ∷ []) refl
unit_octets (control revert) d g o = computed (0x9B ∷ 0x5D ∷ []) refl
unit_octets (ext e xs) d g o =
    let h = good_segment e xs g in
    let lead : List ℕ = 0x1B ∷ 0x25 ∷ 0x2F ∷ e ∷ (128 + length xs / 128) ∷ (128 + length xs % 128) ∷ [] in
    join lead xs (small lead (omega (arith, h.high, h.few))) o

-- the extended segments of a string of octets hold octets
unit_contents : (u : TextUnit) (d : Side) → Octets (octets d u) → Contents u
unfolding octets
unit_contents (char c k) d o = tt
unit_contents space d o = tt
unit_contents (control x) d o = tt
unit_contents (ext e xs) d o = λ i. o (suc (suc (suc (suc (suc (suc i))))))

pub reads_contents : {s : Sets} {t : List ℕ} {us : List TextUnit} → Reads s t us → Octets t → Every Contents us
reads_contents done o = tt
reads_contents (designate {t = t} p a r) o = reads_contents r (back (designation p) t o)
reads_contents (show {t = t} u d g h r) o = (unit_contents u d (front (octets d u) t o), reads_contents r (back (octets d u) t o))

designated_octets : (o : Option Standing) → Octets (designated o)
designated_octets none i = omega arith
designated_octets (some p) i = designation_octets _ _ i

pub writing_octets : (us : List TextUnit) (s : Sets) → Good us → Every Contents us → Octets (writing us s)
unfolding writing
writing_octets [] s g o = small [] tt
writing_octets (u ∷ us) s g o =
    join (designated c) _ (designated_octets c)
    (join (octets d u) (writing us (after c s)) (unit_octets u d g.0 o.0) (writing_octets us (after c s) g.1 o.1))
  where
    c : Option Standing
    c = choose (need u) (cost us) s

    d : Side
    d = used (need u) (after c s)
