-- The octets of the unit of a row, by its tag: those of a character or space, or of a segment or a mark. Only those of a character depend on the side.
use Rattle.element.proofs.Names.{ℕ, ◌+◌, ◌%◌, ◌≤◌, ◌<◌, arith, ◌≡◌, refl, ap, ◌∙◌, Bool, true, false, cond, ◌&&◌, List, [], ◌∷◌, ltb, leb, eqb}
use Rattle.element.proofs.Names.{get_or, take, drop, le-ltb, eqb-false, eq-eqb, pick, test, Side, GL}
use Rattle.grammar.specs.Units.{TextUnit, space, control, tab, newline, ltr, rtl, revert, ext, octets, top}
use Rattle.rows.specs.Rows.{high_octet, low_octet, start_from, count_of, text_tagged, mark_tagged, other_tagged, unit_tagged, unit_from}
use Rattle.rows.specs.Tag as tag
use Rattle.rows.proofs.Units.{unit_text, unit_other, unit_mark}
use Rattle.unit_octets.proofs.Storing.{paired, two_octets, single_octet}

-- the octets of a unit that is no character are the same on each side
mark_free : (t : ℕ) (d e : Side) → octets d (mark_tagged t) ≡ octets e (mark_tagged t)
unfolding mark_tagged octets pick
mark_free t d e = go (eqb t tag.tab) (eqb t tag.newline) (eqb t tag.left_to_right) (eqb t tag.right_to_left)
  where
    mark : Bool → Bool → Bool → Bool → TextUnit
    mark p q r s = pick p (control tab) (pick q (control newline) (pick r (control ltr) (pick s (control rtl) (control revert))))

    go : (p q r s : Bool) → octets d (mark p q r s) ≡ octets e (mark p q r s)
    go true q r s = refl
    go false true r s = refl
    go false false true s = refl
    go false false false true = refl
    go false false false false = refl

-- a tab or a newline is one octet
control_octet_lem : (t y : ℕ) → y ≡ pick (eqb t tag.tab) 0x09 0x0A → tag.tab ≤ t → t < tag.left_to_right → octets GL (mark_tagged t) ≡ y ∷ []
unfolding mark_tagged octets pick
control_octet_lem t y e h k =
    test (eqb t tag.tab)
    (λ p. let f : y ≡ 0x09 = rw p at e in rw (p, f))
    (λ p. let f : y ≡ 0x0A = rw p at e in
    let n : t ≡ tag.newline = omega (arith, eqb-false t tag.tab p) in
    rw (p, eq-eqb t tag.newline n, f))

tagged_free : (o : List ℕ) (t a b s : ℕ) (d e : Side) → tag.space ≤ t → octets d (unit_tagged o t a b s) ≡ octets e (unit_tagged o t a b s)
unfolding unit_tagged text_tagged octets pick
tagged_free o t a b s d e h = rw (le-ltb t tag.double (omega arith), le-ltb t tag.space h) (go (ltb t tag.tab) (leb tag.segment t && ltb t tag.spare))
  where
    unit : Bool → Bool → TextUnit
    unit p q = cond p space (cond q (ext (tag.d + t) (take (count_of a b) (drop s o))) (mark_tagged t))

    go : (p q : Bool) → octets d (unit p q) ≡ octets e (unit p q)
    go true q = refl
    go false true = refl
    go false false = mark_free t d e

pub side_free : (o w : List ℕ) (row : ℕ) (d e : Side) → tag.space ≤ get_or w (row + 65) 0 → octets d (unit_from o w row) ≡ octets e (unit_from o w row)
side_free o w row d e h = tagged_free o (get_or w (row + 65) 0) (high_octet w row) (low_octet w row) (start_from w row) d e h

module _ (o w : List ℕ) (row : ℕ) (d : Side) where
  abbrev t : ℕ
  t = get_or w (row + 65) 0

  text_octets_lem : t < tag.tab → octets d (unit_from o w row) ≡ octets d (text_tagged t (high_octet w row) (low_octet w row))
  text_octets_lem h = ap (octets d) (unit_text o t (high_octet w row) (low_octet w row) (start_from w row) h)

  pub row_two : (x y : ℕ) → x ≡ top d + high_octet w row % 128 → y ≡ top d + low_octet w row % 128
      → pick (ltb t tag.double) false (ltb t tag.space) ≡ true → octets d (unit_from o w row) ≡ x ∷ y ∷ []
  row_two x y ex ey n = text_octets_lem (omega (arith, paired t n)) ∙ two_octets d t (high_octet w row) (low_octet w row) x y ex ey n

  pub row_one : (y : ℕ) → y ≡ pick (eqb t tag.space) 0x20 (top d + low_octet w row % 128)
      → pick (ltb t tag.double) false (ltb t tag.space) ≡ false → t < tag.tab → octets d (unit_from o w row) ≡ y ∷ []
  row_one y ey n h = text_octets_lem h ∙ single_octet d t (high_octet w row) (low_octet w row) y ey n h

  pub other_octets : tag.tab ≤ t → octets d (unit_from o w row) ≡ octets GL (other_tagged o t (high_octet w row) (low_octet w row) (start_from w row))
  other_octets h = side_free o w row d GL (omega arith) ∙ ap (octets GL) (unit_other o t (high_octet w row) (low_octet w row) (start_from w row) h)

  pub row_control : (y : ℕ) → y ≡ pick (eqb t tag.tab) 0x09 0x0A → tag.tab ≤ t → t < tag.left_to_right → octets d (unit_from o w row) ≡ y ∷ []
  row_control y e h k =
      ap (octets d) (unit_mark o t (high_octet w row) (low_octet w row) (start_from w row) h (λ a b. omega arith)) ∙ mark_free t d GL
      ∙ control_octet_lem t y e h k
