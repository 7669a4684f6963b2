-- The writing of good units that keep the direction rule is accepted and reads as them (`writing_read`), no accepted string of that
-- reading is shorter than its cost (`no_shorter`), and demand 3 holds of the answer and the output over units (`demand3`).
use Rattle.element.proofs.Names.{ℕ, ◌≤◌, arith, refl, sym, ap, ◌∙◌, subst, List, ◌++◌, length, take, drop, length-append, take-append_seam, ltb, clash}
use Rattle.element.proofs.Names.{test, tested, fresh, Sets}
use Rattle.base.specs.Limit as limit
use Rattle.grammar.specs.Units.{TextUnit, octets, designation}
use Rattle.grammar.specs.Grammar.{Reads, done, designate, show, Lawful, Accepted}
use Rattle.grammar.specs.Reading.{ReadAs}
use Rattle.grammar.proofs.Complete.{part_size, part_some}
use Rattle.grammar.proofs.Agrees.{agrees, fresh_legal}
use Rattle.shortest.specs.Writing.{shortest_of, shortest_count, Every, Good, Contents}
use Rattle.shortest.specs.Demand.{write_answer, output_after, Least, Demand3}
use Rattle.shortest.specs.Offence.{Grammatical}
use Rattle.shortest.proofs.Costs.{writing_length}
use Rattle.shortest.proofs.Bounds.{lower}
use Rattle.shortest.proofs.Choice.{lazy_reads, writing_lazy}
use Rattle.shortest.proofs.Written.{reads_contents, writing_octets}

pub good_all : {s : Sets} {t : List ℕ} {us : List TextUnit} → Reads s t us → Good us
good_all done = tt
good_all (designate p a r) = good_all r
good_all (show u d g h r) = (g, good_all r)

-- a string has at least an octet for each unit
units_short : {s : Sets} {t : List ℕ} {us : List TextUnit} → Reads s t us → length us ≤ length t
units_short done = omega arith
units_short (designate {t = t} p a r) = omega (arith, units_short r, length-append (designation p) t)
units_short (show {t = t} u d g h r) = omega (arith, units_short r, length-append (octets d u) t, part_size u d, part_some u)

pub accepted : {t : List ℕ} {us : List TextUnit} → ReadAs t us → Accepted t us
accepted {t} {us} r = (agrees t us r.octets).0 r

-- the writing is of the grammar and reads as the units, its length aside
pub writing_grammatical : (us : List TextUnit) → Good us → Every Contents us → Lawful us 0 0 0 → Grammatical (shortest_of us) us
writing_grammatical us g c l =
    record { octets = writing_octets us _ g c; reads = lazy_reads (writing_lazy us fresh.sets fresh_legal g); rule = l }

-- within the limit it is accepted
pub within_limit : {t : List ℕ} {us : List TextUnit} → Grammatical t us → length t ≤ limit.octets → ReadAs t us
within_limit {t} {us} g h = (agrees t us g.octets).1 (record { reads = g.reads; rule = g.rule; short = h })

-- the writing is accepted and reads as the units
pub writing_read : (us : List TextUnit) → Good us → Every Contents us → Lawful us 0 0 0 → shortest_count us ≤ limit.octets
    → ReadAs (shortest_of us) us
writing_read us g c l h = within_limit (writing_grammatical us g c l) (omega (arith, writing_length us fresh.sets))

-- every string of that reading, with designations anywhere, is at least as long: by the grammar, and by the reader
pub no_shorter_accepted : {t : List ℕ} {us : List TextUnit} → Accepted t us → shortest_count us ≤ length t
no_shorter_accepted a = lower fresh_legal a.reads

pub no_shorter : {t : List ℕ} {us : List TextUnit} → ReadAs t us → shortest_count us ≤ length t
no_shorter r = no_shorter_accepted (accepted r)

-- and has an octet for each unit
pub units_within : {t : List ℕ} {us : List TextUnit} → ReadAs t us → length us ≤ limit.octets
units_within r =
    let a = accepted r in
    omega (arith, units_short a.reads, a.short)

-- the writing of a reading is accepted and reads as it, and there is no shorter string
pub shortest : (us : List TextUnit) (t₀ : List ℕ) → ReadAs t₀ us → Least us (shortest_count us) (shortest_of us)
shortest us t₀ r =
    record {
      accepted =
          writing_read us (good_all a.reads) (reads_contents a.reads r.octets) a.rule (omega (arith, no_shorter_accepted a, a.short));
      count = writing_length us _;
      least = λ t' b. no_shorter b;
    }
  where
    a : Accepted t₀ us
    a = accepted r

-- demand 3 over the units of a reading
pub demand3 : (us : List TextUnit) (t₀ out : List ℕ) → ReadAs t₀ us → Demand3 us out (write_answer us (length out)) (output_after us out)
unfolding write_answer output_after
demand3 us t₀ out r =
    test (ltb limit.octets n) (λ e. absurd (omega (tested, no_shorter_accepted a, a.short)))
    (λ e. test (ltb (length out) n)
    (λ l. rw (e, l) (record {
      room = (λ e t b. omega (tested, best.least t b), λ h. refl);
      two = λ m. absurd (m refl);
      gives = λ e. clash (cc);
      needs = λ e. (w, best);
    }))
    (λ l. rw (e, l) (record {
      room = (λ e. clash (cc), λ h. absurd (omega (tested, h w best.accepted, best.count)));
      two = λ m. refl;
      gives = λ e. subst (Least us n) (sym (ap (λ (m : ℕ). take m (w ++ drop n out)) (sym best.count) ∙ take-append_seam w (drop n out))) best;
      needs = λ e. clash (cc);
    })))
  where
    n : ℕ
    n = shortest_count us

    w : List ℕ
    w = shortest_of us

    best : Least us n w
    best = shortest us t₀ r

    a : Accepted t₀ us
    a = accepted r
