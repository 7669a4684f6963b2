-- The quick check is right: a record that it lets through, where the directions are settled, is refused for nothing and changes no
-- direction. A space by its kind; a character since the bounds of its set's octets are those of the codes that the set uses.
use Rattle.element.proofs.Names.{ℕ, ◌+◌, ◌-◌, ◌*◌, ◌/◌, ◌%◌, ◌≤◌, ◌<◌, arith, ◌≡◌, sym, ap, ◌∙◌, Bool, true, false, ◌&&◌, refl, List, eqb, leb}
use Rattle.element.proofs.Names.{ltb, eqb-true, le-leb}
use Rattle.element.proofs.Names.{lt-ltb, pick, cond, UnitRecord, off, test, pick_last, from-tests, tested, up_to_lem, no_set, form_96, form_94x94, form_of}
use Rattle.element.proofs.Names.{written_of, step_of, Directions, Goes}
use Rattle.base.specs.Kind as kind
use Rattle.base.proofs.Bools.{up_to}
use Rattle.element.proofs.Starts.{graphic}
use Rattle.state.specs.Directions.{counts_as_text}
use Rattle.grammar.specs.Units.{code_used}
use Rattle.grammar.specs.Records.{unit_read}
use Rattle.shortest.specs.Records.{fault}
use Rattle.record_rules.specs.Plain.{is_double, wider, low_from, high_from, used_by, set_by, code_by, plain_of, settled_by_text}
use Rattle.record_rules.proofs.Refusals.{kind_character, kind_plain, code_fits}

-- ---- a code

record Within (c k : ℕ) : Type 0 where
  whole : k < 0x10000
  set : c < no_set
  low : low_from c k ≤ 0x5D + 2 * wider c
  high : high_from c k ≤ 0x5D * is_double c

within : (c k : ℕ) → used_by c k ≡ true → Within c k
unfolding used_by
within c k e =
    let a = pick_last (leb 0x10000 k) _ e in
    let b = pick_last (leb no_set c) _ a.1 in
    let d = pick_last (ltb (0x5D + 2 * wider c) (low_from c k)) _ b.1 in
    search from-tests

-- by the form of the set
bounded : (c k t m : ℕ) → Within c k → is_double c ≡ t → wider c ≡ m
    → ((k % 256 + 223 + m) % 256 ≤ 0x5D + 2 * m) × ((k / 256 + 256 - 0x21 * t) % 256 ≤ 0x5D * t) × (k < 0x10000)
bounded c k t m w et em = (
  rw em at w.low,
  rw et at w.high,
  w.whole,
)

-- what is computed from the set's number is what the table of sets says of its form: one test of the fifteen rows
by_form : ℕ → Bool
by_form c = eqb (is_double c) (cond (eqb (form_of c) form_94x94) 1 0) && eqb (wider c) (cond (eqb (form_of c) form_96) 1 0)

all_by_form : up_to 15 by_form ≡ true
unfolding by_form form_of
all_by_form = refl

form_numbers : (c : ℕ) → c < no_set → (is_double c ≡ cond (eqb (form_of c) form_94x94) 1 0) × (wider c ≡ cond (eqb (form_of c) form_96) 1 0)
unfolding by_form
form_numbers c h = let e = up_to_lem 15 by_form all_by_form c h in search from-tests

code_used_lem : (c k : ℕ) → Within c k → code_used (form_of c) k ≡ true
unfolding code_used pick
code_used_lem c k w =
    let n = form_numbers c w.set in
    test (eqb (form_of c) form_94x94)
    (λ p. let q = not_both c p in let b = bounded c k 1 0 w (rw p at n.0) (rw q at n.1) in
    rw (p, graphic (k / 256) (omega (arith, b)) (omega (arith, b)), graphic (k % 256) (omega (arith, b)) (omega (arith, b))))
    (λ p. test (eqb (form_of c) form_96)
    (λ q. let b = bounded c k 0 1 w (rw p at n.0) (rw q at n.1) in rw (p, q, le-leb 0x20 k (omega (arith, b)), le-leb k 0x7F (omega (arith, b))))
    (λ q. let b = bounded c k 0 0 w (rw p at n.0) (rw q at n.1) in rw (p, q) (graphic k (omega (arith, b)) (omega (arith, b)))))
  where
    not_both : (c : ℕ) → eqb (form_of c) form_94x94 ≡ true → eqb (form_of c) form_96 ≡ false
    not_both c p = rw (eqb-true (form_of c) form_94x94 p)

-- ---- the directions

settled_written : (d : Directions) → settled_by_text d ≡ true → written_of d ≡ Goes d
unfolding settled_by_text written_of pick
settled_written d e =
    let p = pick_last d.marked d.texted e in
    let texted : true ≡ d.texted = sym p.1 in
    rw p.0 (ap Goes (λ i. record { depth = d.depth; levels = d.levels; marked = false; texted = texted i }))

text_goes : (k : ℕ) (d : Directions) → k < 2 → settled_by_text d ≡ true → step_of (counts_as_text k 0) k d ≡ Goes d
unfolding step_of pick
text_goes k d h e = rw (lt-ltb k 2 h) (settled_written d e)

-- ---- a record

pub plain_goes : (o : List ℕ) (r : UnitRecord) (d : Directions) → settled_by_text d ≡ true → plain_of r ≡ true → fault (unit_read o r) d ≡ Goes d
unfolding plain_of set_by code_by pick
plain_goes o r d s e =
    test (leb r.kind 1)
    (λ p. test (eqb r.kind 1)
    (λ q. let k = eqb-true r.kind 1 q in
    sym (kind_plain o r d (λ z. omega arith) (omega arith)) ∙ text_goes r.kind d (omega arith) s)
    (λ q. let w = within r.set r.code (rw (p, q) at e) in
    sym (kind_character o r d (omega tested)) ∙ sym (code_fits r.set r.code d w.set (code_used_lem r.set r.code w))
    ∙ text_goes kind.character d (omega arith) s))
    (λ p. off (rw p at e))
