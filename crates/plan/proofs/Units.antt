-- What the unit in a row needs, and how many octets it has: by the row's tag, shown by one computed test of the tags below 26.
use Rattle.element.proofs.Names.{ℕ, suc, ◌+◌, ◌-◌, ◌*◌, ◌≤◌, ◌<◌, arith, ◌≡◌, refl, ap, ap₂, ◌∙◌, Bool, true, false, ◌&&◌, false≢true, List}
use Rattle.element.proofs.Names.{length, get_or, eqb, ltb, ltb-true, ltb-false, le-ltb, eqb-true, test, and_left, and_right, up_to_lem, pick, allowed, may_use}
use Rattle.element.proofs.Names.{form_of, Sets}
use Rattle.grammar.specs.Units.{TextUnit, control, revert, wide, octets}
use Rattle.shortest.specs.Writing.{Need, free, either, need, least, unit_size, cost}
use Rattle.rows.proofs.Units.{part_length, unit_segment, unit_mark, mark_revert}
use Rattle.rows.specs.Rows.{tag_at, high_octet, low_octet, start_from, count_of, part_of, text_tagged, mark_tagged, unit_tagged, units_in, size_of}
use Rattle.rows.specs.Tag as tag
use Rattle.numbers.specs.Numbers.{class_of, need_of_class}
use Rattle.plan.specs.Plan.{size_at, rest_from}
use Rattle.numbers.proofs.Numbers.{same_standing, same_standing_eq}

abbrev same_need : Need → Need → Bool
same_need free free = true
same_need free (either a b) = false
same_need (either a b) free = false
same_need (either a b) (either c d) = same_standing a c && same_standing b d

same_need_eq : (a b : Need) → same_need a b ≡ true → a ≡ b
same_need_eq free free e = refl
same_need_eq free (either a b) e = absurd (false≢true e)
same_need_eq (either a b) free e = absurd (false≢true e)
same_need_eq (either a b) (either c d) e =
    ap₂ either (same_standing_eq a c (and_left (same_standing a c) (same_standing b d) e))
    (same_standing_eq b d (and_right (same_standing a c) (same_standing b d) e))

module _ (o : List ℕ) (t a b s : ℕ) where
  abbrev unit : TextUnit
  unit = unit_tagged o t a b s

  -- a tag that no unit has
  spare : tag.spare ≤ t → unit ≡ control revert
  spare h = unit_mark o t a b s (omega arith) (λ l k. omega arith) ∙ mark_revert t (omega arith)

  pub need_tagged : need unit ≡ need_of_class (class_of t)
  unfolding need unit_tagged text_tagged mark_tagged need_of_class class_of pick allowed may_use
  need_tagged =
      test (ltb t tag.spare)
      (λ e. same_need_eq (need unit) (need_of_class (class_of t))
      (up_to_lem 26 (λ m. same_need (need (unit_tagged o m a b s)) (need_of_class (class_of m))) refl t (ltb-true t tag.spare e)))
      (λ e. let h = ltb-false t tag.spare e in ap need (spare h) ∙ rw (le-ltb t 16 (omega arith)))

  abbrev part : ℕ
  part = part_of (count_of a b) s (length o)

  size_low : t < tag.segment → unit_size unit ≡ size_of t part
  unfolding unit_size octets unit_tagged text_tagged mark_tagged size_of pick wide form_of
  size_low h = eqb-true (unit_size unit) (size_of t part) (up_to_lem 21 (λ m. eqb (unit_size (unit_tagged o m a b s)) (size_of m part)) refl t h)

  -- the unitSize of a tag from that of a segment on
  size_high : tag.segment ≤ t → size_of t part ≡ pick (ltb t tag.spare) (6 + part) 2
  unfolding size_of pick
  size_high h =
      rw (
        le-ltb t tag.double (omega arith),
        le-ltb t tag.space (omega arith),
        le-ltb t tag.left_to_right (omega arith),
        le-ltb t tag.revert (omega arith),
        le-ltb t tag.segment h,
      )

  size_tagged : unit_size unit ≡ size_of t part
  unfolding unit_size octets pick
  size_tagged =
      test (ltb t tag.segment) (λ e. size_low (ltb-true t tag.segment e))
      (λ e. let h = ltb-false t tag.segment e in
      test (ltb t tag.spare)
      (λ q. ap unit_size (unit_segment o t a b s h (ltb-true t tag.spare q)) ∙ rw (size_high h, q) (omega (arith, part_length o (count_of a b) s)))
      (λ q. ap unit_size (spare (ltb-false t tag.spare q)) ∙ rw (size_high h, q)))

-- the cost of the rows from i on
pub rest_end : (o w : List ℕ) (n : ℕ) (s : Sets) → rest_from o w n n s ≡ 0
unfolding units_in cost
rest_end o w n s = let e : n - n ≡ 0 = omega arith in ap (λ (m : ℕ). cost (units_in o w n m) s) e

pub rest_cons : (o w : List ℕ) (n i : ℕ) (s : Sets) → i < n
    → rest_from o w n i s ≡ size_at o w i + least (need_of_class (class_of (tag_at w i))) (rest_from o w n (suc i)) s
unfolding units_in cost
rest_cons o w n i s h =
    let e : n - i ≡ suc (n - suc i) = omega arith in
    ap (λ (m : ℕ). cost (units_in o w i m) s) e
    ∙ ap₂ (λ (a : ℕ) (q : Need). a + least q (rest_from o w n (suc i)) s)
    (size_tagged o (tag_at w i) (high_octet w (72 * i)) (low_octet w (72 * i)) (start_from w (72 * i)))
    (need_tagged o (tag_at w i) (high_octet w (72 * i)) (low_octet w (72 * i)) (start_from w (72 * i)))

-- a row whose octets from the tag on are the same has its segment at the same place
pub same_start : (a b : List ℕ) (row : ℕ) → ((q : ℕ) → 65 ≤ q → q < 72 → get_or a (row + q) 0 ≡ get_or b (row + q) 0)
    → start_from a row ≡ start_from b row
same_start a b row e =
    omega (
      arith,
      e 68 (omega arith) (omega arith),
      e 69 (omega arith) (omega arith),
      e 70 (omega arith) (omega arith),
      e 71 (omega arith) (omega arith),
    )
