-- What the X11R5 writer refuses a record for, by the record's fields (rule X6): `offends` and `served_record` say it case by case. A record that the base
-- writer refuses by itself is refused by 11 or 15 in its place, and of any other the kind tells, which is that of its unit (`read_late`).
use Rattle.element.proofs.Names.{ℕ, ◌<◌, arith, ◌≡◌, refl, sym, ap, ◌∙◌, Bool, true, false, cond, List, some, Option·some-injective, leb, ltb}
use Rattle.element.proofs.Names.{ltb-true, ltb-false, le-leb, lt-leb, ne_eqb, UnitRecord, clash, test, undirected}
use Rattle.base.proofs.Bools.{each, ◌&◌}
use Rattle.base.specs.Kind as kind
use Rattle.base.specs.Refusal as refusal
use Rattle.grammar.specs.Records.{readable, unit_read}
use Rattle.grammar.specs.Units.{TextUnit, unit_of}
use Rattle.shortest.proofs.Bad.{bad_stops, not_bad}
use Rattle.shortest.specs.Offence.{Bad}
use Rattle.x11r5.specs.Outcome.{Offends, bad, late}
use Rattle.x11r5.specs.Records.{record_refusal}
use Rattle.x11r5.specs.Writing.{unsupported_unit}
use Rattle.x11r5.proofs.Beside.{record_beside}

-- the unit of a kind is one that X11R5 does not have where the kind is one of the last four
unit_late : (k c code : ℕ) (xs : List ℕ) → unsupported_unit (unit_of k c code xs) ≡ leb kind.left_to_right k
unfolding unit_of
unit_late k c code xs =
    test (ltb k kind.segment)
    (λ e. each kind.segment (λ (k : ℕ). unsupported_unit (unit_of k c code xs) ≡ leb kind.left_to_right k)
    (refl & refl & refl & refl & refl & refl & refl & tt) k (ltb-true k kind.segment e))
    (λ e. let h = ltb-false k kind.segment e in
    rw (ne_eqb k kind.character (λ q. omega arith), ne_eqb k kind.space (λ q. omega arith), e, le-leb kind.left_to_right k (omega arith)))

module _ (o : List ℕ) (r : UnitRecord) where
  read_late : (u : TextUnit) → unit_read o r ≡ some u → unsupported_unit u ≡ leb kind.left_to_right r.kind
  unfolding unit_read
  read_late u e =
      test (readable o r)
      (λ t. ap unsupported_unit (sym (Option·some-injective _ u (rw t at e))) ∙ unit_late r.kind r.set r.code _)
      (λ t. clash (cc (rw t at e)))

  -- a record that is not bad, by its kind
  by_kind : (b : Bool) → leb kind.left_to_right r.kind ≡ b → ((n : ℕ) → Bad o r n → ⊥)
      → record_refusal (unit_read o r) ≡ cond b refusal.unsupported refusal.accepted
  unfolding record_refusal
  by_kind b e n =
      let w = not_bad o r n undirected in
      rw (w.1, w.2, read_late w.0 w.1 ∙ e)

  pub offends : {n : ℕ} → Offends o r n → record_refusal (unit_read o r) ≡ n
  offends (bad {n} h) = record_beside (unit_read o r) undirected n refl (bad_stops o r undirected h)
  offends (late n h) = by_kind true (le-leb _ _ h) n

  pub served_record : ((n : ℕ) → Bad o r n → ⊥) → r.kind < kind.left_to_right → record_refusal (unit_read o r) ≡ refusal.accepted
  served_record n h = by_kind false (lt-leb _ _ h) n
