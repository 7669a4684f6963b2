-- The writing of units that X11R5 has (rules X4, X5). It is of the grammar and reads as the units, by induction on them (`home_reads`), so within the limit
-- the base reader accepts it with that reading (`unended_read`), and it is never shorter than the base writer's (`never_shorter`). No octet of it is 00, so
-- the octets before the first 00 of a string that starts with it and its 00 are the writing (`ended_by_null`), and the X11R5 reader accepts such a string with
-- that reading (`ended_read`).
use Rattle.element.proofs.Names.{ℕ, ◌*◌, ◌≤◌, arith, ◌≡◌, refl, ap, ◌∙◌, false, List, [], ◌∷◌, ◌++◌, length, length-append, form_of, fresh, Sets}
use mathlib.Core.List.{append_assoc}
use Rattle.base.specs.Limit as limit
use Rattle.grammar.specs.Units.{TextUnit, wide}
use Rattle.grammar.specs.Grammar.{Reads, done, Legal}
use Rattle.grammar.specs.Reading.{units_of, reading_of, ReadAs}
use Rattle.grammar.proofs.Agrees.{fresh_legal, accepted_whole}
use Rattle.shortest.specs.Offence.{Grammatical}
use Rattle.shortest.specs.Writing.{Good, shortest_count}
use Rattle.shortest.proofs.Bounds.{lower}
use Rattle.shortest.proofs.Shortest.{within_limit}
use Rattle.x11r5.specs.Reading.{before_null, null_ended_check_of}
use Rattle.x11r5.specs.Writing.{home_after, home_octets, home_writing, unended_of, null_ended_of}
use Rattle.x11r5.specs.Theorems.{Supported, sets_after, NullReadAs}
use Rattle.x11r5.proofs.Octets.{Proper, All, proper_octets, reads_proper}
use Rattle.x11r5.proofs.Null.{before_proper}
use Rattle.x11r5.proofs.Reading.{base_elements, exactly}
use Rattle.x11r5.proofs.Directions.{lawful}
use Rattle.x11r5.proofs.Homes.{written, narrow_after, octets_most}

pub home_reads : (us : List TextUnit) (s : Sets) → Legal s → Good us → Reads s (home_writing us s) us
unfolding home_writing
home_reads [] s l g = done
home_reads (u ∷ us) s l g = written u g.0 us (home_writing us) s l (λ next m. home_reads us next m g.1)

-- the sets of two octets never stand in GR
pub narrow_right : (us : List TextUnit) (s : Sets) → wide s.gr ≡ false → wide (sets_after us s).gr ≡ false
narrow_right [] s w = w
narrow_right (u ∷ us) s w = narrow_right us _ (narrow_after u s w)

pub fresh_narrow : wide fresh.sets.gr ≡ false
unfolding wide form_of
fresh_narrow = refl

-- at most six octets for each unit
pub writing_most : (us : List TextUnit) (s : Sets) → Supported us → length (home_writing us s) ≤ 6 * length us
unfolding home_writing
writing_most [] s h = omega arith
writing_most (u ∷ us) s h =
    let rest = home_writing us (home_after u s) in
    omega (arith, octets_most u s h.0, writing_most us (home_after u s) h.1, length-append (home_octets u s) rest)

module _ (us : List TextUnit) (g : Good us) where
  unended_reads : Reads fresh.sets (unended_of us) us
  unended_reads = home_reads us fresh.sets fresh_legal g

  -- never shorter than the base writer's
  pub never_shorter : shortest_count us ≤ length (unended_of us)
  never_shorter = lower fresh_legal unended_reads

  module _ (h : Supported us) where
    pub unended_proper : All Proper (unended_of us)
    unended_proper = reads_proper unended_reads h

    -- the base reader accepts it with the same reading
    pub unended_grammatical : Grammatical (unended_of us) us
    unended_grammatical = record { octets = proper_octets (unended_of us) unended_proper; reads = unended_reads; rule = lawful us 0 h }

    pub unended_read : length (unended_of us) ≤ limit.octets → ReadAs (unended_of us) us
    unended_read l = within_limit unended_grammatical l

    -- the first 00 is the one that ends it
    pub ended_by_null : (rest : List ℕ) → before_null (null_ended_of us ++ rest) ≡ unended_of us
    ended_by_null rest =
        ap before_null (append_assoc (unended_of us) (0x00 ∷ []) rest) ∙ before_proper (unended_of us) rest unended_proper

    -- the X11R5 reader accepts it and reads the units, whatever follows the 00
    pub ended_read : length (unended_of us) ≤ limit.octets → (rest : List ℕ) → NullReadAs (null_ended_of us ++ rest) us
    unfolding reading_of
    ended_read l rest =
        let r = unended_read l in
        let e = ended_by_null rest in
        let c = ap null_ended_check_of (append_assoc (unended_of us) (0x00 ∷ []) rest)
        ∙ exactly (unended_of us) r.octets r.accepted (rw r.reading h) rest
        ∙ accepted_whole (unended_of us) r.octets r.accepted in
        record {
          accepted = rw e (rw r.reading at c);
          reading = rw e (ap (units_of (unended_of us)) (base_elements (unended_of us) r.octets r.accepted (rw r.reading h)) ∙ r.reading);
        }
