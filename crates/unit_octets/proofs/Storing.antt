-- Octets stored one after the other, and that they are those of designations and units.
use Rattle.element.proofs.Names.{◌≡◌, refl, sym, ap, ap₂, ◌∙◌, subst, Bool, true, false, List, [], ◌∷◌, ◌++◌, ℕ}
use Rattle.element.proofs.Names.{◌+◌, ◌-◌, ◌*◌, ◌/◌, ◌%◌, ◌≤◌, ◌<◌, arith, add-one, ltb, leb, eqb, eq-eqb, ltb-true, ltb-false, lt-ltb, le-ltb, le-leb}
use Rattle.element.proofs.Names.{lt-leb, eqb-true, ne_eqb, length, get_or, set, take, drop, length-append, length-drop, sets, test, pick_last}
use Rattle.element.proofs.Names.{pick_by, pick, Side, GL, form_96, form_94x94, row_of, form_of, on}
use mathlib.Core.List.{append_assoc}
use lib.Seq.{length-sets, take-suc, take_all, drop-drop, get_or-drop}
use borrow.Rule.Slice.PartMut.{put_mid}
use Rattle.std.proofs.lemmas.List.Edits.{sets-eq}
use Rattle.base.proofs.Stores.{sets_append}
use Rattle.charset.specs.Charsets.{width_of_form}
use Rattle.charset.proofs.Laws.{narrow_form, wide_form}
use Rattle.grammar.specs.Units.{Control, control, ext, wide, top, octets, lead, designation}
use Rattle.rows.specs.Rows.{high_octet, low_octet, start_from, count_of, text_tagged, mark_tagged, other_tagged}
use Rattle.rows.specs.Tag as tag
use Rattle.rows.proofs.Units.{part_length, other_segment, other_mark}
use Rattle.shortest.specs.Writing.{designated}
use Rattle.numbers.specs.Numbers.{sets_in_gl, sets_in_gr, change}
use Rattle.unit_octets.specs.Octets.{Written, Stored, side_of, sign_of}

-- ---- stores

pub written_both : {l m n : List ℕ} {at p r : ℕ} {xs ys : List ℕ} → Written l at xs p m → Written m p ys r n → Written l at (xs ++ ys) r n
written_both {l} {m} {n} {at} {p} {r} {xs} {ys} a b =
    record {
      next = omega (arith, a.next, b.next, length-append xs ys);
      now = b.now ∙ ap₂ (λ (k : List ℕ) (q : ℕ). sets k q ys) a.now a.next ∙ sets_append xs ys l at;
    }

pub written_none : (l : List ℕ) (at : ℕ) → Written l at [] at l
written_none l at = record { next = omega arith; now = refl }

pub written_1 : (l : List ℕ) (at a : ℕ) → Written l at (a ∷ []) (at + 1) (set l at a)
written_1 l at a = record { next = refl; now = refl }

-- a part of the list that is written whole
pub written_part : {l part xs : List ℕ} {at k r : ℕ} → part ≡ xs → k ≡ length xs → r ≡ at + length xs → at + length xs ≤ length l
    → Written l at xs r (put_mid at k l part)
written_part {l} {part} {xs} {at} {k} {r} e ek er h =
    record { next = er; now = rw (e, ek, drop-drop (length xs) at l) (sym (sets-eq xs l at h ∙ append_assoc (take at l) xs (drop (at + length xs) l))) }

pub written_length : {l m : List ℕ} {at r : ℕ} {xs : List ℕ} → Written l at xs r m → length m ≡ length l
written_length {l} {m} {at} {r} {xs} a = ap length a.now ∙ length-sets l at xs

pub written_as : {l m : List ℕ} {at r : ℕ} {xs ys : List ℕ} → ys ≡ xs → Written l at xs r m → Written l at ys r m
written_as {l} {m} {at} {r} e p = subst (λ (z : List ℕ). Written l at z r m) (sym e) p

pub room_as : {xs ys : List ℕ} → ys ≡ xs → (at : ℕ) {n : ℕ} → at + length ys ≤ n → at + length xs ≤ n
room_as e at h = rw (sym e) h

-- ---- where there is room

pub stored_yes : {l m : List ℕ} {at r : ℕ} {xs : List ℕ} → at + length xs ≤ length l → Written l at xs r m → Stored l at xs r m
unfolding pick
stored_yes {l} {at = at} {xs = xs} h w = let e = le-leb (at + length xs) (length l) h in record { next = rw e w.next; now = rw e w.now }

pub stored_no : {l : List ℕ} {at : ℕ} {xs : List ℕ} → length l < at + length xs → Stored l at xs at l
unfolding pick
stored_no {l} {at} {xs} h = let e = lt-leb (at + length xs) (length l) h in record { next = rw e; now = rw e }

-- what has room is written
pub stored_written : {l m : List ℕ} {at r : ℕ} {xs : List ℕ} → at + length xs ≤ length l → Stored l at xs r m → Written l at xs r m
unfolding pick
stored_written {l} {at = at} {xs = xs} h s =
    let e = le-leb (at + length xs) (length l) h in
    record { next = rw e at s.next; now = rw e at s.now }

pub stored_length : {l m : List ℕ} {at r : ℕ} {xs : List ℕ} → Stored l at xs r m → length m ≡ length l
stored_length {l} {at = at} {xs = xs} s =
    ap length s.now ∙ pick_by (λ (z : List ℕ). length z ≡ length l) (leb (at + length xs) (length l)) (λ _. length-sets l at xs) (λ _. refl)

pub stored_as : {l m : List ℕ} {at r : ℕ} {xs ys : List ℕ} → ys ≡ xs → Stored l at xs r m → Stored l at ys r m
stored_as {l} {m} {at} {r} e p = subst (λ (z : List ℕ). Stored l at z r m) (sym e) p

pub stored_none : (l : List ℕ) (at : ℕ) → Stored l at [] at l
unfolding pick
stored_none l at =
    test (leb (at + 0) (length l)) (λ e. record { next = rw e (let z : at ≡ at + 0 = omega arith in z); now = rw e })
    (λ e. record { next = rw e; now = rw e })

-- ---- designations

-- the octets of a designation by its set's row: three, or four with 24 for a set of two octets
lead_one : (l : Bool) (c : ℕ) (t : List ℕ) → eqb (form_of c) form_94x94 ≡ false → lead (form_of c) (side_of l) t ≡ 0x1B ∷ sign_of l c ∷ t
unfolding sign_of pick
lead_one true c t e = rw e
lead_one false c t e = rw e (test (eqb (form_of c) form_96) (λ q. rw q) (λ q. rw q))

lead_two : (l : Bool) (c : ℕ) (t : List ℕ) → form_of c ≡ form_94x94 → lead (form_of c) (side_of l) t ≡ 0x1B ∷ 0x24 ∷ sign_of l c ∷ t
unfolding sign_of pick
lead_two true c t e = rw e
lead_two false c t e = rw e

octets_two : (f : ℕ) → width_of_form f ≡ 2 → f ≡ form_94x94
unfolding width_of_form pick
octets_two f e =
    test (eqb f form_94x94) (eqb-true f form_94x94)
    (λ q. test (eqb f 0) (λ z. absurd (omega (arith, rw z at e))) (λ z. absurd (omega (arith, rw (z, q) at e))))

octets_not_two : (f : ℕ) → (width_of_form f ≡ 2 → ⊥) → eqb f form_94x94 ≡ false
unfolding width_of_form pick
octets_not_two f n = ne_eqb f form_94x94 (λ e. n (rw e))

module _ (l : Bool) (c : ℕ) {s last width : ℕ} (es : s ≡ sign_of l c) (el : last ≡ (row_of c).last) (ew : width ≡ width_of_form (form_of c)) where
  pub designation_one : (width ≡ 2 → ⊥) → designation (on (side_of l) c) ≡ 0x1B ∷ s ∷ last ∷ []
  unfolding designation
  designation_one n = rw (es, el) (lead_one l c _ (octets_not_two (form_of c) (rw ew at n)))

  pub designation_two : width ≡ 2 → designation (on (side_of l) c) ≡ 0x1B ∷ 0x24 ∷ s ∷ last ∷ []
  unfolding designation
  designation_two e = rw (es, el) (lead_two l c _ (octets_two (form_of c) (rw ew at e)))

-- ---- a unit's octets by its tag

-- the tag of a character of two octets, by its test
pub paired : (t : ℕ) → pick (ltb t 12) false (ltb t 15) ≡ true → (12 ≤ t) × (t < 15)
paired t e = let p = pick_last (ltb t 12) (ltb t 15) e in (ltb-false t 12 p.0, ltb-true t 15 p.1)

-- a character of one octet, or a space; and a character of two
module _ (d : Side) (t a b : ℕ) where
  pub single_octet : (y : ℕ) → y ≡ pick (eqb t tag.space) 0x20 (top d + b % 128) → pick (ltb t tag.double) false (ltb t tag.space) ≡ false
      → t < tag.tab → octets d (text_tagged t a b) ≡ y ∷ []
  unfolding octets text_tagged pick wide
  single_octet y e n h =
      test (ltb t tag.double)
      (λ p. let l = ltb-true t tag.double p in
      let f : y ≡ top d + b % 128 = rw (ne_eqb t tag.space (λ z. omega arith)) at e in
      rw (p, narrow_form t l, f))
      (λ p. let l = ltb-false t tag.space (rw p at n) in
      let z : t ≡ tag.space = omega arith in
      let f : y ≡ 0x20 = rw z at e in
      rw (f, z) refl)

  pub two_octets : (x y : ℕ) → x ≡ top d + a % 128 → y ≡ top d + b % 128 → pick (ltb t tag.double) false (ltb t tag.space) ≡ true
      → octets d (text_tagged t a b) ≡ x ∷ y ∷ []
  unfolding octets text_tagged pick wide
  two_octets x y ex ey n =
      let p = paired t n in
      rw (le-ltb t tag.double p.0, lt-ltb t tag.space p.1, wide_form t p.0 p.1, ex, ey)
      (ap₂ (λ (m n : ℕ). (top d + m) ∷ (top d + n) ∷ [])
      (let e : (a % 128 * 256 + b % 128) / 256 ≡ a % 128 = omega arith in e)
      (let e : (a % 128 * 256 + b % 128) % 256 ≡ b % 128 = omega arith in e))

-- ---- a copy

part : (o : List ℕ) (s k : ℕ) → k ≤ length o - s → length (take k (drop s o)) ≡ k
part o s k h = part_length o k s ∙ omega arith

pub copy_more : (l m o : List ℕ) (at s k n : ℕ) → k < n → n ≤ length o - s → m ≡ sets l at (take k (drop s o))
    → set m (at + k) (get_or o (s + k) 0) ≡ sets l at (take (k + 1) (drop s o))
copy_more l m o at s k n h f e =
    ap (λ (x : List ℕ). set x (at + k) (get_or o (s + k) 0)) e
    ∙ ap (λ (j : ℕ). set (sets l at (take k (drop s o))) (at + j) (get_or o (s + k) 0)) (sym (part o s k (omega arith)))
    ∙ sets_append (take k (drop s o)) (get_or o (s + k) 0 ∷ []) l at
    ∙ ap (sets l at)
    (ap (λ (y : ℕ). take k (drop s o) ++ (y ∷ [])) (sym (get_or-drop s o k 0))
    ∙ sym (take-suc (drop s o) k 0 (simp length-drop (omega arith))) ∙ ap (λ (j : ℕ). take j (drop s o)) (sym (add-one k)))

pub copy_done : (l m o : List ℕ) (at s k n : ℕ) → k ≤ n → n ≤ k → n ≤ length o - s → m ≡ sets l at (take k (drop s o))
    → Written l at (take n (drop s o)) (at + n) m
copy_done l m o at s k n h h' f e =
    let q : k ≡ n = omega arith in
    record { next = omega (arith, part o s n f); now = e ∙ ap (λ (j : ℕ). sets l at (take j (drop s o))) q }

-- a segment's octets: six, then its part
pub segment_octets : (d : ℕ) (p : List ℕ) → octets GL (ext d p) ≡ (0x1B ∷ 0x25 ∷ 0x2F ∷ d ∷ (128 + length p / 128) ∷ (128 + length p % 128) ∷ []) ++ p
unfolding octets
segment_octets d p = refl

pub segment_length : (d : ℕ) (p : List ℕ) → length (octets GL (ext d p)) ≡ 6 + length p
unfolding octets
segment_length d p = omega arith

-- a unit that is no character or space
module _ (o w : List ℕ) (row t : ℕ) where
  abbrev pub other : List ℕ
  other = octets GL (other_tagged o t (high_octet w row) (low_octet w row) (start_from w row))

  pub other_segment_octets : (n s : ℕ) → n ≡ count_of (high_octet w row) (low_octet w row) → s ≡ start_from w row → tag.segment ≤ t → t < tag.spare
      → other ≡ octets GL (ext (tag.d + t) (take n (drop s o)))
  other_segment_octets n s en es h k =
      ap (octets GL) (other_segment o t (high_octet w row) (low_octet w row) (start_from w row) h k)
      ∙ ap₂ (λ (x y : ℕ). octets GL (ext (tag.d + t) (take x (drop y o)))) (sym en) (sym es)

  pub other_mark_octets : (tag.segment ≤ t → t < tag.spare → ⊥) → other ≡ octets GL (mark_tagged t)
  other_mark_octets n = ap (octets GL) (other_mark o t (high_octet w row) (low_octet w row) (start_from w row) n)

-- a mark by its tag
pub mark_stored : (m : Control) (t : ℕ) {at r : ℕ} {l after : List ℕ} → control m ≡ mark_tagged t → Stored l at (octets GL (control m)) r after
    → Stored l at (octets GL (mark_tagged t)) r after
mark_stored m t e w = rw e at w

-- the designation that makes number k number j, by tests on the numbers
pub change_none : (k j : ℕ) → j ≡ k → designated (change k j) ≡ []
unfolding change
change_none k j e = rw (eq-eqb j k e)

pub change_gr : (k j c : ℕ) → (j ≡ k → ⊥) → j / 16 ≡ k / 16 → c ≡ get_or sets_in_gr (j % 16) 0
    → designated (change k j) ≡ designation (on (side_of false) c)
unfolding change
change_gr k j c n e q = rw (ne_eqb j k n, eq-eqb (j / 16) (k / 16) e, q)

pub change_gl : (k j c : ℕ) → (j ≡ k → ⊥) → (j / 16 ≡ k / 16 → ⊥) → c ≡ get_or sets_in_gl (j / 16) 0
    → designated (change k j) ≡ designation (on (side_of true) c)
unfolding change
change_gl k j c n e q = rw (ne_eqb j k n, ne_eqb (j / 16) (k / 16) e, q)
