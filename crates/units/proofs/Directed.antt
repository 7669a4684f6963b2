-- The records of every string have the direction and the depth of rule U10: by the list of the open directions (`records_directed`), and each by the one
-- before it (`records_follow`); and so has the next unit from any place and state, as a reader made by hand asks for it (`next_follows`). Each goes by
-- induction on the elements, of which a designation leaves the directions and a unit turns them by its kind (`Turned`).
use Rattle.element.proofs.Names.{ℕ, ◌+◌, ◌≤◌, arith, ◌≡◌, refl, sym, ap, ◌∙◌, subst, List, [], length, length-drop, eqb, ltb, pick, cond_by, test}
use Rattle.element.proofs.Names.{clash, Directions, Goes, State, Part, Silent, Found, UnitRecord}
use Rattle.base.specs.Direction as direction
use Rattle.base.specs.Kind as kind
use Rattle.base.specs.Limit as limit
use Rattle.state.specs.Directions.{in_force_of}
use Rattle.grammar.specs.Reading.{Elements}
use Rattle.grammar.proofs.Places.{Ahead, ends, stops, passes, reads, from_start, ahead_from}
use Rattle.grammar.proofs.Places as place
use Rattle.units.specs.Directed.{open_after, in_front, Directed, none_left, one_more, open_in, open_of, Follows, AllFollow, none_follows, one_follows}
use Rattle.units.specs.Directed.{Between}
use Rattle.units.specs.Next.{outcome_of, next_of}
use Rattle.units.specs.Records.{record_of, records_from, records_of}
use Rattle.units.specs.Next.{Gives}
use Rattle.units.proofs.Open.{force_is, depth_is, none_open, kept_open, Turned, Turns, goes, turns}
use Rattle.units.proofs.Steps.{Leads, keeps, steps, element_leads}

-- ---- one record

-- the open directions are at most one more or one less
abbrev Near : List ℕ → List ℕ → Type 0
Near ds es = (length es ≤ length ds + 1) × (length ds ≤ length es + 1)

near : (k : ℕ) (ds : List ℕ) → Near ds (open_after k ds)
unfolding open_after
near k ds =
    cond_by (Near ds) (eqb k kind.left_to_right) (λ _. (omega arith, omega arith))
    (λ _. cond_by (Near ds) (eqb k kind.right_to_left) (λ _. (omega arith, omega arith))
    (λ _. cond_by (Near ds) (eqb k kind.revert)
    (λ _. let e = length-drop 1 ds in (omega arith, omega arith))
    (λ _. (omega arith, omega arith))))

module _ (d next : Directions) (r : UnitRecord) (t : Turned r.kind d next) (force : r.direction ≡ in_force_of next) (count : r.depth ≡ next.depth) where
  follows : Follows (in_force_of d) d.depth r
  unfolding open_after in_front
  follows =
      let a : r.direction ≡ in_front (open_after r.kind (open_of d)) = force ∙ force_is next ∙ ap in_front t.opened in
      let b : r.depth ≡ length (open_after r.kind (open_of d)) = count ∙ sym (depth_is next.depth next.levels) ∙ ap length t.opened in
      let n : length (open_of d) ≡ d.depth = depth_is d.depth d.levels in
      let h = near r.kind (open_of d) in
      record {
        rises = omega arith;
        falls = omega arith;
        keeps = λ e. let z = kept_open r.kind (open_of d) e in (a ∙ ap in_front z ∙ sym (force_is d), b ∙ ap length z ∙ n);
        left = λ e. (rw e at a, omega (arith, rw e at b));
        right = λ e. (rw e at a, omega (arith, rw e at b));
        reverts = λ e. omega (arith, t.some e, rw e at b, length-drop 1 (open_of d));
        none = rw (force, count) (none_open next);
      }

  between : Between d next r
  between = record { follows = follows; force = force; count = count; opened = t.opened }

-- ---- one element

module _ {s : List ℕ} {at k : ℕ} {st next : State} where
  -- a designation leaves the directions
  silent_keeps : {n : ℕ} → place.Step s at st (Silent n next) k next → next.directions ≡ st.directions
  silent_keeps t = go (subst (Leads st) t.is (element_leads _ st))
    where
      go : {n : ℕ} → Leads st (Silent n next) → next.directions ≡ st.directions
      go (keeps e) = e

  -- a unit turns them by its kind
  found_between : {p : Part} → place.Step s at st (Found p next) k next → Between st.directions next.directions (record_of p at next.directions)
  found_between {p} t = go (subst (Leads st) t.is (element_leads _ st))
    where
      turned : Turns p.kind st.directions (Goes next.directions) → Turned p.kind st.directions next.directions
      turned (goes h) = h

      go : Leads st (Found p next) → Between st.directions next.directions (record_of p at next.directions)
      go (steps n e) =
          between st.directions next.directions _ (turned (subst (Turns p.kind st.directions) e (turns p.kind n st.directions))) refl refl

-- ---- all records

directed_from : (s : List ℕ) {at : ℕ} {st : State} {es : Elements} → Ahead s at st es → Directed (open_of st.directions) (records_from es)
unfolding records_from
directed_from s (ends e) = none_left
directed_from s (stops f e) = none_left
directed_from s (passes t e a) = rw (← (silent_keeps t)) (directed_from s a)
directed_from s (reads {next = next} t m e a) =
    let b = found_between t in
    let n = depth_is next.directions.depth next.directions.levels in
    one_more (force_is next.directions ∙ ap in_front b.opened) (sym n ∙ ap length b.opened) (rw b.opened at (directed_from s a))

follow_from : (s : List ℕ) {at : ℕ} {st : State} {es : Elements} → Ahead s at st es
    → AllFollow (in_force_of st.directions) st.directions.depth (records_from es)
unfolding records_from
follow_from s (ends e) = none_follows
follow_from s (stops f e) = none_follows
follow_from s (passes t e a) = rw (← (silent_keeps t)) (follow_from s a)
follow_from s (reads t m e a) = one_follows (found_between t).follows (follow_from s a)

-- each has the direction in force after its unit, and the number of those then open, from none on (rule U10)
pub records_directed : (s : List ℕ) → Directed [] (records_of s)
unfolding records_of open_in
records_directed s = directed_from s (from_start s)

-- before the first no direction is open; each depth differs from the one before by at most 1, and only marks change it (rule U10)
pub records_follow : (s : List ℕ) → AllFollow direction.none 0 (records_of s)
unfolding records_of in_force_of pick
records_follow s = follow_from s (from_start s)

-- ---- the next of them

between_from : (s : List ℕ) {at : ℕ} {st : State} {es : Elements} → Ahead s at st es → (r : UnitRecord) (place : ℕ) (next : State)
    → outcome_of st es ≡ Gives r place next → Between st.directions next.directions r
unfolding outcome_of
between_from s (ends e) r place next g = clash (cc g)
between_from s (stops f e) r place next g = clash (cc g)
between_from s (passes t e a) r place next g = rw (← (silent_keeps t)) (between_from s a r place next g)
between_from s {at} (reads {p = p} {next = to} t m e a) r place next g =
    let same : record_of p at to.directions ≡ r = cc g in
    let there : to ≡ next = cc g in
    rw (← same, ← there) (found_between t)

-- the next unit from any place and state on: what it has is by the directions that the state holds (rules U9, U10)
pub next_follows : (s : List ℕ) (at : ℕ) (st : State) (r : UnitRecord) (place : ℕ) (next : State) → next_of s at st ≡ Gives r place next
    → Between st.directions next.directions r
unfolding next_of pick
next_follows s at st r place next g =
    test (ltb limit.octets (length s)) (λ e. clash (cc (rw e at g))) (λ e. between_from s (ahead_from s at st) r place next (rw e at g))
