-- A list of records has no offending record exactly where some string, its length aside, reads as it (`no_offence_read`): the units of
-- such a list are good and keep the direction rule (`fine_units`, `units_fine`), so that their writing is such a string. Where its
-- cost is within the limit it is accepted (`list_written`), and a list that some accepted string reads as is such a list (`read_list`).
use Rattle.element.proofs.Names.{ℕ, suc, ◌≤◌, arith, ◌≡◌, refl, ap, ap₂, subst, true, List, [], ◌∷◌, Option, none, some, Option·some-injective}
use Rattle.element.proofs.Names.{◌↔◌, length, take, drop, eqb, ltb, UnitRecord, off, clash, test, cond_by, fresh, undirected, Directions, Step, Goes, Stops}
use lib.ListN.{take-append-drop}
use Rattle.base.specs.Kind as kind
use Rattle.base.specs.Limit as limit
use Rattle.grammar.specs.Units.{TextUnit, unit_of, good}
use Rattle.grammar.specs.Reading.{direct, Octets, ReadAs}
use Rattle.grammar.proofs.Rule.{directed, passes, direction_rule}
use Rattle.shortest.specs.Writing.{shortest_of, shortest_count, Every, Good, Contents}
use Rattle.grammar.specs.Records.{readable, unit_read, prepend, list_reading}
use Rattle.shortest.specs.Records.{fault, fine, on_step, check_records}
use Rattle.shortest.specs.Offence.{NoneOffends, Grammatical, SomeString}
use Rattle.shortest.proofs.Costs.{writing_length}
use Rattle.shortest.proofs.Written.{front, back}
use Rattle.shortest.proofs.Shortest.{good_all, accepted, writing_grammatical, within_limit, no_shorter, units_within}
use Rattle.shortest.proofs.Offence.{no_offence}

-- where a list has a reading, its first record stands for a unit and the rest has a reading
record FirstRead (o : List ℕ) (r : UnitRecord) (rs : List UnitRecord) (us : List TextUnit) : Type 0 where
  unit : TextUnit
  rest : List TextUnit
  first : unit_read o r ≡ some unit
  others : list_reading o rs ≡ some rest
  whole : us ≡ unit ∷ rest

first_read : (o : List ℕ) (r : UnitRecord) (rs : List UnitRecord) (us : List TextUnit) → list_reading o (r ∷ rs) ≡ some us → FirstRead o r rs us
unfolding list_reading
first_read o r rs us e = go (unit_read o r) (list_reading o rs) refl refl e
  where
    go : (x : Option TextUnit) (y : Option (List TextUnit)) → unit_read o r ≡ x → list_reading o rs ≡ y → prepend x y ≡ some us
        → FirstRead o r rs us
    go none y p q e = clash (cc)
    go (some u) none p q e = clash (cc)
    go (some u) (some vs) p q e = record { unit = u; rest = vs; first = p; others = q; whole = cc }

-- a reading has a unit for each record
pub reading_length : (o : List ℕ) (rs : List UnitRecord) (us : List TextUnit) → list_reading o rs ≡ some us → length us ≡ length rs
unfolding list_reading
reading_length o [] us e = ap length (let q : us ≡ [] = cc in q)
reading_length o (r ∷ rs) us e =
    let w = first_read o r rs us e in
    rw w.whole (ap suc (reading_length o rs _ w.others))

-- ---- good units that keep the direction rule, and lists with no offending record

pub units_fine : (o : List ℕ) (rs : List UnitRecord) (us : List TextUnit) (i : ℕ) (d : Directions) → list_reading o rs ≡ some us → Good us
    → directed us d ≡ true → check_records o rs i d ≡ fine
unfolding check_records list_reading directed
units_fine o [] us i d e g h = refl
units_fine o (r ∷ rs) us i d e g h =
    let w = first_read o r rs us e in
    let g' = rw w.whole at g in
    rw (w.first, g'.0) (go w.rest (direct d w.unit) (rw w.whole at h) (λ next f. units_fine o rs _ (suc i) next w.others g'.1 f))
  where
    go : (vs : List TextUnit) (x : Step) → passes x (λ next. directed vs next) ≡ true
        → ((next : Directions) → directed vs next ≡ true → check_records o rs (suc i) next ≡ fine)
        → on_step x i (λ next. check_records o rs (suc i) next) ≡ fine
    go vs (Stops n) h k = off h
    go vs (Goes next) h k = k next h

-- the units of a list with no offending record
pub record Fine (o : List ℕ) (rs : List UnitRecord) (d : Directions) : Type 0 where
  pub units : List TextUnit
  pub reading : list_reading o rs ≡ some units
  pub good_ones : Good units
  pub rule : directed units d ≡ true

-- a record whose step goes on is that of a good unit
goes_read : (d next : Directions) (x : Option TextUnit) → fault x d ≡ Goes next
    → (u : TextUnit) × (x ≡ some u) × (good u ≡ true) × (direct d u ≡ Goes next)
goes_read d next none e = clash (cc)
goes_read d next (some u) e = test (good u) (λ g. (u, refl, g, rw g at e)) (λ g. clash (cc (rw g at e)))

pub fine_units : (o : List ℕ) (rs : List UnitRecord) (i : ℕ) (d : Directions) → check_records o rs i d ≡ fine → Fine o rs d
unfolding check_records list_reading directed
fine_units o [] i d e = record { units = []; reading = refl; good_ones = tt; rule = refl }
fine_units o (r ∷ rs) i d e = go (fault (unit_read o r) d) refl e (λ next q. fine_units o rs (suc i) next q)
  where
    go : (x : Step) → fault (unit_read o r) d ≡ x → on_step x i (λ next. check_records o rs (suc i) next) ≡ fine
        → ((next : Directions) → check_records o rs (suc i) next ≡ fine → Fine o rs next) → Fine o (r ∷ rs) d
    go (Stops n) q e k = clash (cc)
    go (Goes next) q e k =
        let w = goes_read d next (unit_read o r) q in
        let f = k next e in
        record { units = w.0 ∷ f.units; reading = ap₂ prepend w.1 f.reading; good_ones = (w.2, f.good_ones); rule = rw w.3 f.rule }

-- ---- the octets of extended segments

part_octets : (n k : ℕ) (xs : List ℕ) → Octets xs → Octets (take n (drop k xs))
part_octets n k xs o =
    front (take n (drop k xs)) (drop n (drop k xs)) (rw take-append-drop (back (take k xs) (drop k xs) (rw take-append-drop o)))

unit_contents : (k c code : ℕ) (xs : List ℕ) → Octets xs → Contents (unit_of k c code xs)
unfolding unit_of
unit_contents k c code xs o =
    cond_by Contents (eqb k kind.character) (λ _. tt)
    (λ _. cond_by Contents (eqb k kind.space) (λ _. tt) (λ _. cond_by Contents (ltb k kind.segment) (λ _. tt) (λ _. o)))

read_contents : (o : List ℕ) (r : UnitRecord) (u : TextUnit) → Octets o → unit_read o r ≡ some u → Contents u
unfolding unit_read
read_contents o r u h e =
    test (readable o r)
    (λ t. subst Contents (Option·some-injective _ _ (rw t at e)) (unit_contents _ _ _ _ (part_octets r.length r.start o h)))
    (λ t. clash (cc (rw t at e)))

pub list_contents : (o : List ℕ) (rs : List UnitRecord) (us : List TextUnit) → Octets o → list_reading o rs ≡ some us → Every Contents us
unfolding list_reading
list_contents o [] us h e = subst (Every _) (Option·some-injective _ _ e) tt
list_contents o (r ∷ rs) us h e =
    let w = first_read o r rs us e in
    rw w.whole (read_contents o r _ h w.first, list_contents o rs _ h w.others)

-- ---- the theorems

-- the writing of a list with no offending record reads as the list
pub list_grammatical : (o : List ℕ) (rs : List UnitRecord) (us : List TextUnit) → Octets o → check_records o rs 0 undirected ≡ fine
    → list_reading o rs ≡ some us
    → Grammatical (shortest_of us) us
list_grammatical o rs us h c e =
    let f = fine_units o rs 0 undirected c in
    let s : f.units ≡ us = cc f.reading in
    writing_grammatical us (rw s at f.good_ones) (list_contents o rs us h e) ((direction_rule us).0 (rw s at f.rule))

-- and is accepted, where it is not over the limit
pub list_written : (o : List ℕ) (rs : List UnitRecord) (us : List TextUnit) → Octets o → check_records o rs 0 undirected ≡ fine
    → list_reading o rs ≡ some us
    → shortest_count us ≤ limit.octets → ReadAs (shortest_of us) us
list_written o rs us h c e l = within_limit (list_grammatical o rs us h c e) (omega (arith, writing_length us fresh.sets))

fine_read : (o : List ℕ) (rs : List UnitRecord) → Octets o → (check_records o rs 0 undirected ≡ fine) ↔ SomeString o rs
fine_read o rs h = (
  λ c. let f = fine_units o rs 0 undirected c in
      (f.units, shortest_of f.units, f.reading, list_grammatical o rs _ h c f.reading),
  λ w. units_fine o rs w.0 0 undirected w.2 (good_all w.3.reads) ((direction_rule w.0).1 w.3.rule),
)

-- no record offends exactly where some string, its length aside, reads as the list
pub no_offence_read : (o : List ℕ) (rs : List UnitRecord) → Octets o → NoneOffends o rs ↔ SomeString o rs
no_offence_read o rs h = (λ n. (fine_read o rs h).0 ((no_offence o rs).1 n), λ w. (no_offence o rs).0 ((fine_read o rs h).1 w))

-- a list that some accepted string reads as is not too long, and has no offending record and no writing over the limit
pub record ReadList (o : List ℕ) (rs : List UnitRecord) (us : List TextUnit) : Type 0 where
  pub short : length rs ≤ limit.units
  pub none : NoneOffends o rs
  pub within : shortest_count us ≤ limit.octets

pub read_list : (o : List ℕ) (rs : List UnitRecord) (us : List TextUnit) (t : List ℕ) → list_reading o rs ≡ some us → ReadAs t us → ReadList o rs us
read_list o rs us t e r =
    let a = accepted r in
    record {
      short = omega (arith, units_within r, reading_length o rs us e);
      none = (no_offence o rs).0 (units_fine o rs us 0 undirected e (good_all a.reads) ((direction_rule us).1 a.rule));
      within = omega (arith, no_shorter r, a.short);
    }
