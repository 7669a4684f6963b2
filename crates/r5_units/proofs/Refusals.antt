-- The refusal of a record, as the program finds it: a record that a quick check lets through is refused for nothing, and of every other the base
-- writer's refusal, where no direction is open, and the kind decide.
use Rattle.base.specs.declared.refusal.Refusal.{Refusal}
use denote.Enum.Bare.{sameb}
use Rattle.base.specs.contracts.refusal.Refusal.{the_type}
use Rattle.element.proofs.Names.{eqb-false}
use Rattle.base.specs.declared.refusal.Refusal.TheVariants.{TooLong, Cut, Unused, Unknown, NotApproved, Version, BadSegment, Direction, TooDeep}
use Rattle.base.specs.declared.refusal.Refusal.TheVariants.{NoRoom, BadUnit, NoWorkRoom, BadForm, NotEnded, Unsupported}
use Rattle.element.proofs.Names.{ℕ, ◌<◌, arith, ◌≡◌, refl, sym, ap, ◌∙◌, true, false, List, some, eqb, leb, ltb, eqb-true}
use Rattle.element.proofs.Names.{length, take, drop, ne_eqb, le-ltb, ltb-true, ◌+◌, test, off, clash, pick, tested, UnitRecord}
use Rattle.element.proofs.Names.{undirected, directions, Directions, step_of, written_of, begun_of, deeper_of, reverted_of, Goes, Stops, Step}
use Rattle.element.proofs.Names.{◌≤◌, le-leb, lt-ltb, pick_last, no_set, first_double, form_96, form_of}
use Rattle.element.proofs.Starts.{graphic}
use Rattle.base.proofs.Bools.{◌&◌, each}
use Rattle.base.specs.Kind as kind
use Rattle.base.specs.Refusal as refusal
use Rattle.charset.proofs.Laws.{narrow_form}
use Rattle.grammar.specs.Units.{char, space, ext, unit_of, text_octets, code_used, good}
use Rattle.grammar.specs.Records.{readable, unit_read}
use Rattle.shortest.specs.Records.{fault}
use Rattle.record_rules.specs.Plain.{plain_of, settled_by_text}
use Rattle.record_rules.proofs.Quick.{plain_goes}
use Rattle.x11r5.specs.Records.{record_refusal}
use Rattle.r5_units.specs.Unit.{refusal_by_kind, refusal_by, single_of, text_set, text_code}

-- ---- by the unit

-- a character, a segment
char_refusal : (c k : ℕ) → refusal_by (fault (some (char c k)) undirected) kind.character ≡ record_refusal (some (char c k))
unfolding refusal_by refusal_by_kind record_refusal step_of written_of pick
char_refusal c k = test (good (char c k)) (λ g. rw g) (λ g. rw g)

ext_refusal : (e : ℕ) (xs : List ℕ) → refusal_by (fault (some (ext e xs)) undirected) kind.segment ≡ record_refusal (some (ext e xs))
unfolding refusal_by refusal_by_kind record_refusal step_of written_of pick
ext_refusal e xs =
    test (good (ext e xs)) (λ g. rw g (test (ltb 0 (text_octets xs)) (λ t. rw t) (λ t. rw t)))
    (λ g. rw g (test (leb 0x30 e) (λ a. rw a (test (leb e 0x34) (λ b. rw b) (λ b. rw b))) (λ a. rw a)))

-- ---- by the record

module _ (o : List ℕ) (r : UnitRecord) where
  abbrev Refused : Type 0
  Refused = refusal_by (fault (unit_read o r) undirected) r.kind ≡ record_refusal (unit_read o r)

  segment_refusal : r.kind ≡ kind.segment → Refused
  unfolding unit_read readable unit_of refusal_by record_refusal pick
  segment_refusal e =
      rw e
      (test (leb (r.start + r.length) (length o)) (λ q. rw q (ext_refusal r.code (take r.length (drop r.start o)))) (λ q. rw q))

  none_refusal : kind.segment < r.kind → Refused
  unfolding unit_read readable refusal_by record_refusal pick
  none_refusal h = rw (ne_eqb r.kind 7 (λ e. omega arith), le-ltb r.kind 7 (omega arith))

  few_refusal : r.kind < kind.segment → Refused
  unfolding unit_read readable unit_of good refusal_by refusal_by_kind record_refusal step_of written_of begun_of deeper_of reverted_of pick
  few_refusal h =
      each 7 (λ k. r.kind ≡ k → Refused)
      ((λ e. rw e (char_refusal r.set r.code)) & (λ e. rw e) & (λ e. rw e) & (λ e. rw e) & (λ e. rw e) & (λ e. rw e) & (λ e. rw e) & tt)
      r.kind h refl

  refusal_is : Refused
  refusal_is =
      test (ltb r.kind kind.segment) (λ e. few_refusal (ltb-true r.kind kind.segment e))
      (λ e. test (eqb r.kind kind.segment) (λ q. segment_refusal (eqb-true r.kind kind.segment q))
      (λ q. none_refusal (omega tested)))

  -- where the base writer's step goes on, and where it stops
  pub goes_by_kind : {d : Directions} {x : Step} {n : ℕ} → x ≡ fault (unit_read o r) undirected → x ≡ Goes d → n ≡ refusal_by_kind r.kind
      → n ≡ record_refusal (unit_read o r)
  unfolding refusal_by
  goes_by_kind {d} e g q = q ∙ ap (λ (y : Step). refusal_by y r.kind) (sym g ∙ e) ∙ refusal_is

  pub stops_bad : {m : ℕ} {x : Step} → x ≡ fault (unit_read o r) undirected → x ≡ Stops m → m ≡ refusal.bad_unit
      → refusal.bad_unit ≡ record_refusal (unit_read o r)
  unfolding refusal_by pick
  stops_bad {m} e g h =
      let z : refusal.bad_unit ≡ refusal_by (Stops m) r.kind = rw h in
      z ∙ ap (λ (y : Step). refusal_by y r.kind) (sym g ∙ e) ∙ refusal_is

  pub stops_by_kind : {m n : ℕ} {x : Step} → x ≡ fault (unit_read o r) undirected → x ≡ Stops m → (m ≡ refusal.bad_unit → ⊥)
      → n ≡ refusal_by_kind r.kind → n ≡ record_refusal (unit_read o r)
  unfolding refusal_by pick
  stops_by_kind {m} {n} e g h q =
      let z : n ≡ refusal_by (Stops m) r.kind = rw (ne_eqb m refusal.bad_unit h) q in
      z ∙ ap (λ (y : Step). refusal_by y r.kind) (sym g ∙ e) ∙ refusal_is

-- ---- the quick check, which is asked where text stands before and no mark

abbrev texted : Directions
texted = directions 0 0 false true

char_goes : (c k : ℕ) (d : Directions) → fault (some (char c k)) d ≡ Goes d → refusal.accepted ≡ record_refusal (some (char c k))
unfolding record_refusal
char_goes c k d e = test (good (char c k)) (λ g. rw g) (λ g. clash (cc (rw g at e)))

pub plain_accepted : (o : List ℕ) (r : UnitRecord) → plain_of r ≡ true → refusal.accepted ≡ record_refusal (unit_read o r)
unfolding plain_of settled_by_text unit_read readable unit_of good record_refusal pick
plain_accepted o r e =
    let g = plain_goes o r texted refl e in
    test (leb r.kind 1)
    (λ p. test (eqb r.kind 1) (λ q. rw (eqb-true r.kind 1 q))
    (λ q. let z : r.kind ≡ 0 = omega tested in rw z (char_goes r.set r.code texted (rw z at g))))
    (λ p. off (rw p at e))

-- ---- and a quicker one, of spaces and characters of one octet

single_code : (c k : ℕ) → c < first_double → 0x21 ≤ k → k ≤ 0x7E → good (char c k) ≡ true
unfolding good code_used
single_code c k h a b =
    rw (lt-ltb c no_set (omega arith), narrow_form c h)
    (test (eqb (form_of c) form_96) (λ q. rw (q, le-leb 0x20 k (omega arith), le-leb k 0x7F (omega arith))) (λ q. rw q (graphic k a b)))

space_good : refusal.accepted ≡ record_refusal (some space)
unfolding record_refusal good
space_good = refl

char_good : (c k : ℕ) → good (char c k) ≡ true → refusal.accepted ≡ record_refusal (some (char c k))
unfolding record_refusal
char_good c k g = rw g

pub single_accepted : (o : List ℕ) (r : UnitRecord) → single_of r ≡ true → refusal.accepted ≡ record_refusal (unit_read o r)
unfolding single_of text_set text_code unit_read readable unit_of pick
single_accepted o r e =
    let a = pick_last (ltb 1 r.kind) _ e in
    test (eqb r.kind 1) (λ q. rw (eqb-true r.kind 1 q) space_good)
    (λ q. let z : r.kind ≡ 0 = omega (tested, a.0) in
    let b = pick_last (leb first_double r.set) _ (rw z at a.1) in
    let d = pick_last (ltb (r.code + 0) 0x21) _ b.1 in
    rw z (char_good r.set r.code
    (single_code r.set r.code (omega (tested, b.0)) (omega (tested, d.0)) (omega (tested, d.1)))))

-- a refusal is that of a bad unit exactly where its number is
pub bad_unit_number : (r : Refusal) → sameb the_type r BadUnit ≡ eqb (refusal.number_of r) refusal.bad_unit
bad_unit_number TooLong = refl
bad_unit_number Cut = refl
bad_unit_number Unused = refl
bad_unit_number Unknown = refl
bad_unit_number NotApproved = refl
bad_unit_number Version = refl
bad_unit_number BadSegment = refl
bad_unit_number Direction = refl
bad_unit_number TooDeep = refl
bad_unit_number NoRoom = refl
bad_unit_number BadUnit = refl
bad_unit_number NoWorkRoom = refl
bad_unit_number BadForm = refl
bad_unit_number NotEnded = refl
bad_unit_number Unsupported = refl

pub is_bad_unit : (r : Refusal) → sameb the_type r BadUnit ≡ true → refusal.number_of r ≡ refusal.bad_unit
is_bad_unit r e = eqb-true _ _ (sym (bad_unit_number r) ∙ e)

pub no_bad_unit : (r : Refusal) → sameb the_type r BadUnit ≡ false → refusal.number_of r ≡ refusal.bad_unit → ⊥
no_bad_unit r e = eqb-false _ _ (sym (bad_unit_number r) ∙ e)
