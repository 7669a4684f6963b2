-- What the output holds after the call, by the cases of the answer: a refusal leaves it (`refused_output`); else the writing stands from
-- its first place and the rest stays (`accepted_output`), which is the string of rule W4 (`output_chosen`, `output_one`) and
-- is accepted and reads as the list (`output_read`). Its length stays (`output_length`). And 1 for the writing comes exactly where every
-- string of the reading is over the limit (`over_limit`).
use Rattle.element.proofs.Names.{ℕ, ◌<◌, arith, ◌≡◌, sym, ap, ap₂, ◌∙◌, subst, List, Option, some, Option·some-injective, ◌↔◌, length, take}
use Rattle.element.proofs.Names.{drop, length-append, length-drop, take-append_seam, eqb, eqb-true, eqb-false, eq-eqb, ne_eqb, Answer, UnitRecord, test}
use Rattle.element.proofs.Names.{Standing, fresh, undirected}
use Rattle.base.specs.Limit as limit
use Rattle.base.specs.Refusal as refusal
use Rattle.grammar.specs.Units.{TextUnit}
use Rattle.grammar.specs.Reading.{Octets, ReadAs}
use Rattle.grammar.proofs.Agrees.{fresh_legal}
use Rattle.shortest.specs.Writing.{shortest_of, shortest_count, Good}
use Rattle.shortest.specs.Demand.{write_answer, output_after}
use Rattle.grammar.specs.Records.{list_reading}
use Rattle.shortest.specs.Records.{writer_answer, writer_output}
use Rattle.shortest.specs.Choice.{Chosen}
use Rattle.shortest.specs.Offence.{Grammatical}
use Rattle.shortest.specs.Outcome.{Served, Given, written}
use Rattle.shortest.proofs.Costs.{writing_length}
use Rattle.shortest.proofs.Bounds.{lower}
use Rattle.shortest.proofs.Choice.{choices, the_choice, one_choice}
use Rattle.shortest.proofs.Offence.{no_offence}
use Rattle.shortest.proofs.Records.{fine_units, list_grammatical, list_written}
use Rattle.shortest.proofs.Outcome.{accepted_where, served, outcome_is}

-- the units of a served list are good
served_good : (rs : List UnitRecord) (o : List ℕ) (work : ℕ) (us : List TextUnit) → Served rs o work us → Good us
served_good rs o work us v =
    let f = fine_units o rs 0 undirected ((no_offence o rs).1 v.none) in
    subst Good (Option·some-injective _ _ (sym f.reading ∙ v.reading)) f.good_ones

-- 1 for the writing: every string of the reading, its length aside, is over the limit (rule N3)
pub over_limit : (rs : List UnitRecord) (o : List ℕ) (work : ℕ) (us : List TextUnit) → Octets o → Served rs o work us
    → (limit.octets < shortest_count us) ↔ ((t : List ℕ) → Grammatical t us → limit.octets < length t)
over_limit rs o work us h v = (
  λ l t g. omega (arith, lower fresh_legal g.reads),
  λ f. omega (arith, f _ (list_grammatical o rs us h ((no_offence o rs).1 v.none) v.reading), writing_length us fresh.sets),
)

module _ (rs : List UnitRecord) (o : List ℕ) (work : ℕ) (out : List ℕ) where
  -- the answer, and the octets of the output that it counts
  abbrev answered : Answer
  answered = writer_answer rs o work (length out)

  abbrev string : List ℕ
  string = take answered.count (writer_output rs o work out)

  -- a refusal leaves the output (rule N7)
  pub refused_output : (answered.number ≡ refusal.accepted → ⊥) → writer_output rs o work out ≡ out
  unfolding writer_output
  refused_output n = rw (ne_eqb _ _ n)

  -- else the string stands at its start, and the rest stays (rule W5)
  pub accepted_output : answered.number ≡ refusal.accepted → Given rs o work out
  unfolding writer_output output_after
  accepted_output e =
      let w = (accepted_where rs o work (length out)).0 e in
      let us = w.0 in
      let v = w.1 in
      let n : (write_answer us (length out)).number ≡ refusal.accepted = cc (served rs o work _ us v, e) in
      record {
        units = us;
        reading = v.reading;
        good_ones = served_good rs o work us v;
        answers = outcome_is rs o work _ (written us v w.2 w.3);
        short = w.2;
        fits = w.3;
        holds = rw (eq-eqb _ _ e, v.reading, eq-eqb _ _ n);
      }

  -- the octets that the answer counts are the writing
  output_string : (g : Given rs o work out) → string ≡ shortest_of g.units
  output_string g =
      let w = shortest_of g.units in
      let rest = drop (shortest_count g.units) out in
      let n : answered.count ≡ length w = ap (λ (a : Answer). a.count) g.answers ∙ sym (writing_length _ _) in
      ap₂ (λ (k : ℕ) (xs : List ℕ). take k xs) n g.holds ∙ take-append_seam w rest

  -- they are the string of rule W4, and there is no other such string
  pub output_chosen : answered.number ≡ refusal.accepted
      → (us : List TextUnit) × (os : List (Option Standing)) × (list_reading o rs ≡ some us)
      × Chosen us fresh.sets os string
  output_chosen e =
      let g = accepted_output e in (
        g.units,
        choices g.units fresh.sets,
        g.reading,
        rw (output_string g) (the_choice _ _ fresh_legal g.good_ones),
      )

  pub output_one : answered.number ≡ refusal.accepted → (us : List TextUnit) (os : List (Option Standing)) (t : List ℕ)
      → list_reading o rs ≡ some us → Chosen us fresh.sets os t → t ≡ string
  output_one e us os t q c =
      let g = accepted_output e in
      let s : us ≡ g.units = Option·some-injective us _ (sym q ∙ g.reading) in
      one_choice us fresh.sets os t fresh_legal (subst Good (sym s) g.good_ones) c
      ∙ ap (λ (v : List TextUnit). shortest_of v) s ∙ sym (output_string g)

  -- they are accepted and read as the list (M2)
  pub output_read : Octets o → answered.number ≡ refusal.accepted
      → (us : List TextUnit) × (list_reading o rs ≡ some us) × ReadAs string us
  output_read h e =
      let g = accepted_output e in
      let w = (accepted_where rs o work (length out)).0 e in (
        g.units,
        g.reading,
        rw (output_string g) (list_written o rs _ h ((no_offence o rs).1 w.1.none) g.reading g.short),
      )

  -- the output keeps its length
  pub output_length : length (writer_output rs o work out) ≡ length out
  output_length =
      test (eqb answered.number refusal.accepted)
      (λ e. let g = accepted_output (eqb-true _ _ e) in
      rw (g.holds, length-append, length-drop) (omega (arith, writing_length g.units fresh.sets, g.fits)))
      (λ e. ap length (refused_output (eqb-false _ _ e)))
