-- A record that offends by itself has the number of rule N9, whatever directions are open (`bad_stops`); one that does not
-- stands for a good unit, whose step is that of the direction rule (`not_bad`). By its kind, its unit and the tests of it are computed.
use Rattle.element.proofs.Names.{ℕ, ◌+◌, ◌≤◌, ◌<◌, arith, ◌≡◌, refl, ap₂, true, false, ◌&&◌, List, some, ◌⊎◌, inl, inr, ⊎_elim, length, take}
use Rattle.element.proofs.Names.{drop, length-take, length-drop, eqb, leb, ltb, eqb-true, ltb-true, ltb-false, leb-true, leb-false, lt-ltb, le-ltb, le-leb}
use Rattle.element.proofs.Names.{lt-leb, ne_eqb, UnitRecord, test, tested, no_set, form_of, Directions, Stops}
use Rattle.base.specs.Kind as kind
use Rattle.base.proofs.Bools.{and_second}
use Rattle.grammar.specs.Units.{TextUnit, char, space, control, ext, control_of, unit_of, code_used, segment, most_of_segment, good}
use Rattle.grammar.specs.Reading.{direct}
use Rattle.grammar.specs.Records.{readable, unit_read}
use Rattle.shortest.specs.Records.{fault}
use Rattle.shortest.specs.Offence.{Placed, Bad, bad_kind, bad_set, bad_code, bad_part, bad_d, bad_length, bad_content}

module _ (o : List ℕ) (r : UnitRecord) where
  abbrev text : List ℕ
  text = take r.length (drop r.start o)

  -- ---- the unit of a record

  read_char : r.kind ≡ kind.character → unit_read o r ≡ some (char r.set r.code)
  unfolding unit_read readable unit_of
  read_char e = rw e

  read_segment : r.kind ≡ kind.segment → r.start + r.length ≤ length o → unit_read o r ≡ some (ext r.code text)
  unfolding unit_read readable unit_of
  read_segment e h = rw (e, le-leb _ _ h)

  -- ---- a record that offends by itself

  -- d is asked for first
  d_right : Placed o r → (leb 0x30 r.code && leb r.code 0x34) ≡ true
  d_right p = rw (le-leb 0x30 _ p.low, le-leb _ 0x34 p.high)

  d_wrong : (r.code < 0x30) ⊎ (0x34 < r.code) → (leb 0x30 r.code && leb r.code 0x34) ≡ false
  d_wrong (inl h) = rw (lt-leb 0x30 _ h)
  d_wrong (inr h) = and_second (leb 0x30 r.code) _ (lt-leb r.code 0x34 h)

  text_length : r.start + r.length ≤ length o → length text ≡ r.length
  text_length h = simp (length-take, length-drop) (omega arith)

  pub bad_stops : (d : Directions) {n : ℕ} → Bad o r n → fault (unit_read o r) d ≡ Stops n
  unfolding unit_read readable unit_of good
  bad_stops d (bad_kind h) = rw (ne_eqb r.kind kind.segment (λ e. omega arith), le-ltb r.kind kind.segment (omega arith))
  bad_stops d (bad_set e h) = rw (e, le-ltb _ no_set h)
  bad_stops d (bad_code e h) = rw (e, and_second _ _ h)
  bad_stops d (bad_part e h) = rw (e, lt-leb _ _ h)
  bad_stops d (bad_d e h) = test (leb (r.start + r.length) (length o)) (λ q. rw (e, q, d_wrong h)) (λ q. rw (e, q))
  bad_stops d (bad_length p h) = rw (read_segment p.kinds p.inside, d_right p, text_length p.inside, lt-leb _ _ h)
  bad_stops d (bad_content p h) =
      rw (read_segment p.kinds p.inside, d_right p, and_second _ _ h)

  -- ---- a record that does not

  -- the record stands for a good unit
  abbrev pub Stands : Type 0
  Stands = (u : TextUnit) × (unit_read o r ≡ some u) × (good u ≡ true)

  abbrev Judged : Type 0
  Judged = ((n : ℕ) × Bad o r n) ⊎ Stands

  -- a kind that uses no field
  judge_plain : kind.space ≤ r.kind → r.kind < kind.segment → Stands
  unfolding unit_read readable unit_of good
  judge_plain h l =
      let n = ne_eqb r.kind kind.character (λ e. omega arith) in
      let m = ne_eqb r.kind kind.segment (λ e. omega arith) in
      test (eqb r.kind kind.space) (λ e. (space, rw (eqb-true r.kind kind.space e), refl))
      (λ e. (control (control_of r.kind), rw (m, n, e, lt-ltb _ _ l), refl))

  judge_char : r.kind ≡ kind.character → Judged
  unfolding good
  judge_char k =
      test (ltb r.set no_set)
      (λ p. test (code_used (form_of r.set) r.code) (λ q. inr (_, read_char k, ap₂ ◌&&◌ p q)) (λ q. inl (_, bad_code k q)))
      (λ p. inl (_, bad_set k (ltb-false _ _ p)))

  judge_placed : Placed o r → Judged
  unfolding good
  judge_placed p =
      test (leb r.length most_of_segment)
      (λ t. test (segment r.code 0 text)
      (λ v. inr (_, read_segment p.kinds p.inside, rw (d_right p, text_length p.inside, t, v)))
      (λ v. inl (_, bad_content p v)))
      (λ t. inl (_, bad_length p (leb-false _ _ t)))

  judge_segment : r.kind ≡ kind.segment → Judged
  judge_segment k =
      test (leb (r.start + r.length) (length o))
      (λ i. test (leb 0x30 r.code)
      (λ l. test (leb r.code 0x34)
      (λ h. judge_placed (record { kinds = k; inside = leb-true _ _ i; low = leb-true _ _ l; high = leb-true _ _ h }))
      (λ h. inl (_, bad_d k (inr (leb-false _ _ h)))))
      (λ l. inl (_, bad_d k (inl (leb-false _ _ l)))))
      (λ i. inl (_, bad_part k (leb-false _ _ i)))

  judge : Judged
  judge =
      test (ltb kind.segment r.kind) (λ p. inl (_, bad_kind (ltb-true _ _ p)))
      (λ p. test (eqb r.kind kind.character) (λ q. judge_char (eqb-true _ _ q))
      (λ q. test (eqb r.kind kind.segment) (λ s. judge_segment (eqb-true _ _ s))
      (λ s. inr (judge_plain (omega tested) (omega tested)))))

  pub not_bad : ((n : ℕ) → Bad o r n → ⊥) → (d : Directions)
      → (u : TextUnit) × (unit_read o r ≡ some u) × (good u ≡ true) × (fault (unit_read o r) d ≡ direct d u)
  not_bad n d = ⊎_elim (λ w. absurd (n _ w.1)) (λ w. (w.0, w.1, w.2, rw (w.1, w.2))) judge
