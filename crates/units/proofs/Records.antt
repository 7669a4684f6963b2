-- The records of a string's units: their reading, with the string as the octets of its segments, is the string's (`records_read`); their
-- fields that mean nothing are 0 (`records_meant`); and there are as many as an accepted string's answer counts (`records_count`). Each
-- goes by induction on the elements of the string.
use Rattle.element.proofs.Names.{clash, test, ℕ, ◌+◌, ◌≤◌, arith, ◌≡◌, refl, ap, true, List, some, ltb, length, drop, lt-ltb, le-ltb, le-leb, ne_eqb}
use Rattle.element.proofs.Names.{pick, State, Directions, Part}
use Rattle.state.specs.Directions.{in_force_of}
use lib.Seq.{drop-drop}
use Rattle.base.specs.Kind as kind
use Rattle.base.specs.Limit as limit
use Rattle.base.specs.Refusal as refusal
use Rattle.element.specs.Meant.{Meant, with_set, with_none, with_code, MeantPart}
use Rattle.grammar.specs.Reading.{Elements, size, answer_of, check_of, unit_at, units_of, reading_of}
use Rattle.grammar.specs.Records.{readable, unit_read, list_reading}
use Rattle.grammar.proofs.Places.{Ahead, ends, stops, passes, reads, from_start, ahead_is}
use Rattle.units.specs.Records.{record_of, records_from, records_of, AllMeant, none_left, one_more}
use Rattle.units.specs.Next.{outcome_of, next_of}

-- ---- their reading

-- the part of the unit lies in the string
readable_by : (s : List ℕ) (k set code start n direction depth : ℕ) → Meant k set code → start + n ≤ length s
    → readable s (record { kind = k; set = set; code = code; start = start; length = n; direction = direction; depth = depth }) ≡ true
unfolding readable
readable_by s k set code start n _ _ with_set h = refl
readable_by s k set code start n _ _ (with_none f) h =
    rw (ne_eqb k kind.segment (λ (e : k ≡ kind.segment). omega (arith, f, e)), lt-ltb k kind.segment f)
readable_by s k set code start n _ _ with_code h = le-leb (start + n) (length s) h

unit_read_lem : (s : List ℕ) (at : ℕ) (p : Part) (d : Directions) → at + size p ≤ length s → MeantPart p
    → unit_read s (record_of p at d) ≡ some (unit_at p (drop at s))
unfolding unit_read unit_at
unit_read_lem s at p d h m =
    rw (readable_by s p.kind p.set p.code (at + p.skip) p.octets (in_force_of d) d.depth m (omega (arith, h)), drop-drop p.skip at s)

reads_from : (s : List ℕ) {at : ℕ} {st : State} {es : Elements} → Ahead s at st es
    → list_reading s (records_from es) ≡ some (units_of (drop at s) es)
unfolding list_reading records_from units_of
reads_from s (ends e) = refl
reads_from s (stops f e) = refl
reads_from s {at} (passes {k = k} t e a) = rw (drop-drop k at s) (reads_from s a)
reads_from s {at} (reads {p = p} {next = next} t m e a) = rw (unit_read_lem s at p next.directions t.fits m, drop-drop (size p) at s, reads_from s a)

-- a string reads as its own records (rule U4)
pub records_read : (s : List ℕ) → list_reading s (records_of s) ≡ some (reading_of s)
unfolding records_of reading_of
records_read s = reads_from s (from_start s)

-- ---- their fields

meant_from : (s : List ℕ) {at : ℕ} {st : State} {es : Elements} → Ahead s at st es → AllMeant (records_from es)
unfolding records_from
meant_from s (ends e) = none_left
meant_from s (stops f e) = none_left
meant_from s (passes t e a) = meant_from s a
meant_from s {at} (reads {p = p} {next = next} t m e a) = one_more {r = record_of p at next.directions} m (meant_from s a)

-- each has 0 for what its kind does not use (rule U1)
pub records_meant : (s : List ℕ) → AllMeant (records_of s)
unfolding records_of
records_meant s = meant_from s (from_start s)

-- ---- their number

counts_from : (s : List ℕ) (count : ℕ) {at : ℕ} {st : State} {es : Elements} → Ahead s at st es
    → (answer_of count es).number ≡ refusal.accepted → (answer_of count es).count ≡ count + length (records_from es)
unfolding answer_of records_from
counts_from s count (ends e) z = omega arith
counts_from s count (stops {n = n} f e) z =
    let y : n ≡ refusal.accepted = z in
    absurd (omega arith)
counts_from s count (passes t e a) z = counts_from s count a z
counts_from s count (reads t m e a) z = omega (arith, counts_from s (count + 1) a z)

-- the count of an accepted string is that of its records (rule N1)
pub records_count : (s : List ℕ) → (check_of s).number ≡ refusal.accepted → (check_of s).count ≡ length (records_of s)
unfolding check_of records_of pick
records_count s z =
    test (ltb limit.octets (length s)) (λ e. clash (cc (rw e at z))) (λ e. rw e (omega (arith, counts_from s 0 (from_start s) (rw e at z))))

-- ---- the next of them

-- the next unit of a string that is not too long
pub next_ahead : (s : List ℕ) → length s ≤ limit.octets → {at : ℕ} {st : State} {es : Elements} → Ahead s at st es
    → next_of s at st ≡ outcome_of st es
unfolding next_of pick
next_ahead s short {st = st} a = rw (le-ltb limit.octets (length s) short) (ap (outcome_of st) (ahead_is s a))

-- each has an octet at least
pub few_records : (s : List ℕ) {at : ℕ} {st : State} {es : Elements} → Ahead s at st es → at ≤ length s → at + length (records_from es) ≤ length s
unfolding records_from
few_records s (ends e) h = omega arith
few_records s (stops f e) h = omega arith
few_records s (passes t e a) h = omega (arith, few_records s a t.fits, t.some)
few_records s (reads t m e a) h = omega (arith, few_records s a t.fits, t.some)
