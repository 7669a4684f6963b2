-- A record that is not refused fits a row, and the row's unit is the record's.
use Rattle.element.proofs.Names.{ℕ, ◌+◌, ◌-◌, ◌/◌, ◌%◌, ◌≤◌, ◌<◌, arith, ◌≡◌, refl, sym, ap, ap₂, ◌∙◌, subst, true, List, some}
use Rattle.element.proofs.Names.{Option·some-injective, eqb, ltb, length, take, drop, eqb-true, eqb-false, ne_eqb, lt-ltb, ltb-true, ltb-false}
use Rattle.element.proofs.Names.{leb-true, pick, UnitRecord, off, clash, test, from-tests, form_of}
use Rattle.base.specs.Kind as kind
use Rattle.charset.proofs.Laws.{narrow_form, wide_form}
use Rattle.grammar.specs.Units.{TextUnit, char, space, control, ext, control_of, unit_of, code_used, good}
use Rattle.grammar.proofs.Good.{one_code, two_code, good_segment}
use Rattle.grammar.specs.Records.{readable, unit_read}
use Rattle.rows.specs.Rows.{count_of, text_tagged, unit_tagged, tag_of, number_of}
use Rattle.rows.proofs.Units.{unit_text, unit_segment, unit_mark, mark_of_kind}
use Rattle.rows.specs.Stowable.{Stowable}

-- ---- what a good unit's record is

-- the unit by the row's numbers is the record's, and the record is one that fits a row
pub record Fits (o : List ℕ) (r : UnitRecord) (u : TextUnit) : Type 0 where
  pub unit : unit_tagged o (tag_of r) (number_of r / 256) (number_of r % 256) r.start ≡ u
  pub stowable : Stowable r

tagged : (o : List ℕ) (r : UnitRecord) (u : TextUnit) (t n : ℕ) → tag_of r ≡ t → number_of r ≡ n
    → unit_tagged o t (n / 256) (n % 256) r.start ≡ u
    → unit_tagged o (tag_of r) (number_of r / 256) (number_of r % 256) r.start ≡ u
tagged o r u t n et en e = ap₂ (λ (x y : ℕ). unit_tagged o x (y / 256) (y % 256) r.start) et en ∙ e

-- a kind that is no segment's
no_segment : (r : UnitRecord) (k : ℕ) → r.kind ≡ k → k < kind.segment → Stowable r
no_segment r k e h = omega arith

module _ (o : List ℕ) (r : UnitRecord) where
  abbrev xs : List ℕ
  xs = take r.length (drop r.start o)

  fits_character : r.kind ≡ kind.character → good (char r.set r.code) ≡ true → Fits o r (char r.set r.code)
  unfolding tag_of number_of pick good text_tagged
  fits_character q g =
      record {
        unit = tagged o r _ r.set r.code (rw q) (rw q)
            (unit_text o r.set (r.code / 256) (r.code % 256) r.start (omega (arith, below)) ∙ text);
        stowable = no_segment r 0 q (omega arith);
      }
    where
      below : r.set < 15
      below = search from-tests

      used : code_used (form_of r.set) r.code ≡ true
      used = search from-tests

      text : text_tagged r.set (r.code / 256) (r.code % 256) ≡ char r.set r.code
      text =
          test (ltb r.set 12)
          (λ p. let l = one_code (form_of r.set) r.code (narrow_form r.set (ltb-true _ _ p)) used in rw p (ap (char r.set) (omega arith)))
          (λ p. let l = two_code (form_of r.set) r.code (wide_form r.set (ltb-false _ _ p) below) used in
          rw (p, lt-ltb r.set 15 below) (ap (char r.set) (omega (arith, l))))

  -- kinds 1 to 6
  fits_plain : (k : ℕ) (v : TextUnit) → r.kind ≡ k → k < kind.segment → tag_of r ≡ 14 + k
      → unit_tagged o (14 + k) (number_of r / 256) (number_of r % 256) r.start ≡ v → Fits o r v
  fits_plain k v q h t w = record { unit = tagged o r v (14 + k) (number_of r) t refl w; stowable = no_segment r k q h }

  fits_segment : r.kind ≡ kind.segment → r.start + r.length ≤ length o → good (ext r.code xs) ≡ true → Fits o r (ext r.code xs)
  unfolding tag_of number_of pick
  fits_segment q p g =
      let e = good_segment r.code xs g in
      let many : length xs ≡ r.length = simp (lib.ListN.length-take, lib.ListN.length-drop) (omega arith) in
      let few : r.length ≤ 16383 = omega (arith, e.few) in
      let code : 27 + (r.code - 27) ≡ r.code = omega (arith, e.low) in
      let count : count_of (r.length / 256) (r.length % 256) ≡ r.length = omega (arith, few) in
      record {
        unit = tagged o r _ (r.code - 27) r.length (rw q) (rw q)
            (unit_segment o (r.code - 27) (r.length / 256) (r.length % 256) r.start (omega (arith, e.low)) (omega (arith, e.high))
            ∙ ap₂ (λ (m n : ℕ). ext m (take n (drop r.start o))) code count);
        stowable = record { one_of_eight = omega arith; low = λ _. e.low; high = λ _. e.high; few = λ _. few };
      }

  -- kinds 2 to 6
  fits_control : (r.kind ≡ 0 → ⊥) → (r.kind ≡ 1 → ⊥) → r.kind < 7 → Fits o r (control (control_of r.kind))
  unfolding tag_of pick
  fits_control n m h =
      fits_plain r.kind (control (control_of r.kind)) refl h (rw (ne_eqb r.kind 0 n, ne_eqb r.kind 7 (λ e. omega arith)))
      (unit_mark o (14 + r.kind) (number_of r / 256) (number_of r % 256) r.start (omega arith) (λ l k. omega arith) ∙ mark_of_kind r.kind)

  by_kind : readable o r ≡ true → good (unit_of r.kind r.set r.code xs) ≡ true → Fits o r (unit_of r.kind r.set r.code xs)
  unfolding readable unit_of tag_of pick unit_tagged text_tagged
  by_kind h g =
      test (eqb r.kind 0) (λ a. rw a (fits_character (eqb-true _ _ a) (rw a at g)))
      (λ a. test (eqb r.kind 1) (λ b. let q = eqb-true r.kind 1 b in rw (a, b) (fits_plain 1 space q (omega arith) (rw q) refl))
      (λ b. test (ltb r.kind 7) (λ c. rw (a, b, c) (fits_control (eqb-false _ _ a) (eqb-false _ _ b) (ltb-true _ _ c)))
      (λ c. test (eqb r.kind 7) (λ d. rw (a, b, c) (fits_segment (eqb-true _ _ d) (leb-true _ _ (rw d at h)) (rw (a, b, c) at g)))
      (λ d. off (rw (d, c) at h)))))

module _ (o : List ℕ) (r : UnitRecord) (u : TextUnit) (g : good u ≡ true) where
  pub fits : unit_read o r ≡ some u → Fits o r u
  unfolding unit_read
  fits e =
      test (readable o r)
      (λ q. let s = Option·some-injective (unit_of r.kind r.set r.code (xs o r)) u (rw q at e) in
      subst (Fits o r) s (by_kind o r q (subst (λ (v : TextUnit). good v ≡ true) (sym s) g)))
      (λ q. clash (cc (rw q at e)))
