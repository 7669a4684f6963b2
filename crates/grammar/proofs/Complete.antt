-- Each element of the grammar is one that the reader's definition takes.
use Rattle.element.proofs.Names.{ℕ, ◌+◌, ◌*◌, ◌-◌, ◌/◌, ◌%◌, ◌≤◌, arith, ◌≡◌, refl, sym, ap, ◌∙◌, Bool, true, false, cond, ◌&&◌, true≢false, List}
use Rattle.element.proofs.Names.{◌∷◌, ◌++◌, eqb, leb, ltb, length, length-append, take-append_seam, eqb-true, lt-ltb, le-ltb, le-leb, eq-eqb, pick}
use Rattle.element.proofs.Names.{and_left, and_right, from-tests, off, test, cond_by, Side, GL, GR, may_use, allowed, form_of, set_of, on, get, part, next}
use Rattle.element.proofs.Names.{Sets, Part, Shape, Designates, Gives}
use Rattle.base.proofs.Bools.{Each, each}
use Rattle.charset.specs.Charsets.{fits_of, find}
use Rattle.charset.proofs.Laws.{allowed_below, left_form}
use Rattle.text.specs.Text.{graphic_of, second_octet_of}
use Rattle.control.specs.Escape.{designates_of, designation_of, multi_octet_of, escape_of}
use Rattle.segment.specs.Segment.{segment_part, body_of, lengths_of, extended_of}
use Rattle.control.specs.Mark.{begin_of, csi_of}
use Rattle.element.specs.Element.{shape_of}
use Rattle.element.specs.Start.{used_in, left_start, start_of, begun_by}
use Rattle.element.proofs.Starts.{On, graphic_low, all_used, graphic_used, starts_one, starts_two}
use Rattle.grammar.specs.Units.{TextUnit, char, space, control, tab, newline, ltr, rtl, revert, ext, kind_of, control_octets, text_octets, counts}
use Rattle.grammar.specs.Units.{unit_of}
use Rattle.grammar.specs.Units.{wide, top, shown, octets, designation, code_used, good}
use Rattle.grammar.specs.Grammar.{Shows, Legal}
use Rattle.grammar.specs.Reading.{unit_at}
use Rattle.grammar.proofs.Segment.{Content, right, wrong, content}
use Rattle.grammar.proofs.Good.{good_segment}

module _ (s : Sets) where
  -- ---- designations

  abbrev Starts : List ℕ → Side → ℕ → Type 0
  Starts t d c = allowed d c ≡ true → shape_of (designation (on d c) ++ t) s ≡ Designates (length (designation (on d c))) d c

  starts_at : (t : List ℕ) (d : Side) → Each 15 (Starts t d)
  unfolding allowed may_use form_of fits_of find set_of designation shape_of start_of begun_by escape_of multi_octet_of designation_of designates_of next pick
  starts_at t GL = search off depth 20
  starts_at t GR = search off depth 20

  pub starts_designation : (d : Side) (c : ℕ) (t : List ℕ) → allowed d c ≡ true
      → shape_of (designation (on d c) ++ t) s ≡ Designates (length (designation (on d c))) d c
  starts_designation d c t a = each 15 (Starts t d) (starts_at t d) c (allowed_below d c a) a

  -- ---- characters

  -- the octets of a side; a GL octet is no 20 or 7F
  on_top : (l : Legal s) (d : Side) (k : ℕ) → 0x20 ≤ k → k ≤ 0x7F → (eqb (form_of (get d s)) 2 ≡ false → (0x21 ≤ k) × (k ≤ 0x7E))
      → On d (top d + k)
  on_top l GL k h j r = let g = r (left_form s.gl l.left) in (omega arith, omega arith)
  on_top l GR k h j r = omega arith

  abbrev char_part : ℕ → ℕ → Part
  char_part c k = part 0 c k 0 (cond (wide c) 2 1) true

  top_mod : (d : Side) (k : ℕ) → k ≤ 0x7F → (top d + k) % 128 ≡ k
  top_mod GL k h = omega arith
  top_mod GR k h = omega arith

  top_div : (d : Side) (j k : ℕ) → j ≤ 0x7F → k ≤ 0x7F → (top d + j) / 128 ≡ (top d + k) / 128
  top_div GL j k h i = omega arith
  top_div GR j k h i = omega arith

  starts_char : (l : Legal s) (d : Side) (k : ℕ) (t : List ℕ) → code_used (form_of (get d s)) k ≡ true
      → shape_of (octets d (char (get d s) k) ++ t) s ≡ Gives (char_part (get d s) k)
  unfolding shape_of begun_by octets wide code_used second_octet_of next pick
  starts_char l d k t u = go (eqb (form_of (get d s)) 3) (eqb (form_of (get d s)) 2) refl refl u
    where
      one_octet : eqb (form_of (get d s)) 3 ≡ false → (top d + k) % 128 ≡ k → On d (top d + k) → used_in (form_of (get d s)) (top d + k) ≡ true
          → shape_of ((top d + k) ∷ t) s ≡ Gives (part 0 (get d s) k 0 1 true)
      one_octet n m h v = rw (← (starts_one s (top d + k) d h v n), m)

      go : (x y : Bool) → eqb (form_of (get d s)) 3 ≡ x → eqb (form_of (get d s)) 2 ≡ y
          → cond x (graphic_of (k / 256) && graphic_of (k % 256)) (cond y (leb 0x20 k && leb k 0x7F) (graphic_of k)) ≡ true
          → shape_of (shown x (top d) k ++ t) s ≡ Gives (part 0 (get d s) k 0 (cond x 2 1) true)
      go true y p q u =
          let g = and_left (graphic_of (k / 256)) _ u in
          let h = and_right (graphic_of (k / 256)) _ u in
          let a = graphic_low (k / 256) g in
          let b = graphic_low (k % 256) h in
          let m = top_mod d (k / 256) (omega arith) in
          let n = top_mod d (k % 256) (omega arith) in
          let z : k / 256 * 256 + k % 256 ≡ k = omega arith in
          rw (
            ← (starts_two s (top d + k / 256) d (on_top l d (k / 256) (omega arith) (omega arith) (λ _. a)) (rw m g) p),
            eq-eqb ((top d + k % 256) / 128) ((top d + k / 256) / 128) (top_div d (k % 256) (k / 256) (omega arith) (omega arith)),
            m,
            n,
            h,
          )
          (ap (λ (j : ℕ). Gives (part 0 (get d s) j 0 2 true)) z)
      go false true p q u =
          let a : 0x20 ≤ k = search from-tests in
          let b : k ≤ 0x7F = search from-tests in
          one_octet p (top_mod d k b) (on_top l d k a b (λ r. absurd (true≢false (sym q ∙ r)))) (all_used _ _ (eqb-true _ _ q))
      go false false p q u =
          let a = graphic_low k u in
          let m = top_mod d k (omega arith) in
          one_octet p m (on_top l d k (omega arith) (omega arith) (λ _. a)) (graphic_used _ _ (rw m u))

  -- ---- extended segments

  starts_ext : (e : ℕ) (xs t : List ℕ) → good (ext e xs) ≡ true
      → shape_of (octets GL (ext e xs) ++ t) s ≡ Gives (segment_part e (length xs) (text_octets xs))
  unfolding octets good shape_of start_of begun_by escape_of extended_of lengths_of body_of next pick
  starts_ext e xs t g =
      let h = good_segment e xs g in
      let n : (128 + length xs / 128 - 128) * 128 + (128 + length xs % 128 - 128) ≡ length xs = omega arith in
      rw (
        le-ltb e 0x30 h.low,
        lt-ltb e 0x35 (omega (arith, h.high)),
        le-ltb (128 + length xs / 128) 0x80 (omega arith),
        le-ltb (128 + length xs % 128) 0x80 (omega arith),
        n,
        le-leb (length xs) (length (xs ++ t)) (omega (arith, length-append xs t)),
        take-append_seam xs t,
      )
      (by-content (content e (length xs) xs 0 (omega arith)) h.content)
    where
      by-content : {b : Bool} {x : Shape} → Content e (length xs) (text_octets xs) b x → b ≡ true
          → x ≡ Gives (segment_part e (length xs) (text_octets xs))
      by-content right g = refl
      by-content wrong g = off g

-- ---- the part of a unit

-- its set, its code, the octets before its own, and its own
abbrev fields : TextUnit → ℕ × ℕ × ℕ × ℕ
fields (char c k) = (c, k, 0, cond (wide c) 2 1)
fields space = (0, 0, 0, 1)
fields (control x) = (0, 0, 0, length (control_octets x))
fields (ext e xs) = (0, e, 6, length xs)

abbrev pub part_of : TextUnit → Part
part_of u = part (kind_of u) (fields u).0 (fields u).1 (fields u).2 (fields u).3 (counts u)

pub starts_unit : (s : Sets) (l : Legal s) (u : TextUnit) (d : Side) (t : List ℕ) → good u ≡ true → Shows u d s
    → shape_of (octets d u ++ t) s ≡ Gives (part_of u)
unfolding good octets wide shape_of start_of left_start begun_by csi_of begin_of next pick
starts_unit s l (char c k) d t g h = rw (← h) (starts_char s l d k t (rw (← h) at (and_right (ltb c 15) (code_used (form_of c) k) g)))
starts_unit s l space d t g h = rw h
starts_unit s l (control tab) d t g h = refl
starts_unit s l (control newline) d t g h = refl
starts_unit s l (control ltr) d t g h = refl
starts_unit s l (control rtl) d t g h = refl
starts_unit s l (control revert) d t g h = refl
starts_unit s l (ext e xs) d t g h = starts_ext s e xs t g

pub part_size : (u : TextUnit) (d : Side) → length (octets d u) ≡ (part_of u).skip + (part_of u).octets
unfolding octets
part_size (char c k) d = test (wide c) (λ e. rw e) (λ e. rw e)
part_size space d = refl
part_size (control x) d = omega arith
part_size (ext e xs) d = omega arith

pub part_some : (u : TextUnit) → 1 ≤ (part_of u).skip + (part_of u).octets
part_some (char c k) = cond_by (λ n. 1 ≤ 0 + n) (wide c) (λ _. omega arith) (λ _. omega arith)
part_some space = omega arith
part_some (control tab) = omega arith
part_some (control newline) = omega arith
part_some (control ltr) = omega arith
part_some (control rtl) = omega arith
part_some (control revert) = omega arith
part_some (ext e xs) = omega arith

-- the part's unit is the unit
pub part_unit : (u : TextUnit) (d : Side) (t : List ℕ) → unit_at (part_of u) (octets d u ++ t) ≡ u
unfolding unit_at unit_of octets
part_unit (char c k) d t = refl
part_unit space d t = refl
part_unit (control tab) d t = refl
part_unit (control newline) d t = refl
part_unit (control ltr) d t = refl
part_unit (control rtl) d t = refl
part_unit (control revert) d t = refl
part_unit (ext e xs) d t = ap (ext e) (take-append_seam xs t)
