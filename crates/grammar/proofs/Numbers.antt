-- Request No. 4 changes no number: of every string the number and the count are those of the definition before it, and the place that was told before
-- is where the reading stops, the start of the refused element or the end (`numbers_stay`). By one walk: each definition of an element is that before,
-- but for the offset of its refusals (`Alike`), and so are the elements of a string (`Match`).
use Rattle.element.proofs.Names.{ℕ, zero, suc, ◌+◌, ◌≤◌, ◌<◌, subst, lt-ltb, leb-true, length-take-le, arith, ◌≡◌, refl, Bool, true, false, cond}
use Rattle.element.proofs.Names.{List, [], ◌∷◌, eqb, leb, ltb, length, take, le-ltb, on_true, on_false, pick, test, no_set, set_of, Side, GL, GR, get}
use Rattle.element.proofs.Names.{fresh, next, step_of, Step, Goes, Stops, Sets, State, Part, Shape, Refuses, Designates, Gives, Element, Refused, Silent}
use Rattle.element.proofs.Names.{Found}
use Rattle.base.specs.Limit as limit
use Rattle.charset.specs.Charsets.{form_94, form_96, form_94x94}
use Rattle.text.specs.Text.{second_octet_of}
use Rattle.segment.specs.Segment.{name_of, whole_of, content_of, body_of, lengths_of, extended_of}
use Rattle.segment.specs.Segment.{Name, Ends, Bad, Endless}
use Rattle.control.specs.Escape.{intermediates_of, designates_of, designation_of, multi_octet_of, escape_of}
use Rattle.control.specs.Mark.{begin_of, csi_of}
use Rattle.element.specs.Start.{Start, start_in, begun_by}
use Rattle.element.specs.Start as start
use Rattle.element.specs.Element.{shape_of, stepped_of, directed_of}
use Rattle.grammar.specs.Reading.{Elements, end_at, stopped_at, silent_at, found_at, onward, elements, elements_of, answer_of, check_of, stop_of}
use Rattle.grammar.proofs.Unplaced as unplaced

-- ---- shapes

-- a shape, and the same without the offset of a refusal
data Alike : Shape → Shape → Type 0 where
  refuses : {n o : ℕ} → Alike (Refuses n o) (Refuses n 0)
  designates : {k : ℕ} {d : Side} {c : ℕ} → Alike (Designates k d c) (Designates k d c)
  gives : {p : Part} → Alike (Gives p) (Gives p)

either : {x y v w : Shape} (q : Bool) → Alike x v → Alike y w → Alike (pick q x y) (pick q v w)
unfolding pick
either true h g = h
either false h g = g

octet : (k : ℕ) (t : List ℕ) {f g : ℕ → List ℕ → Shape} → ((b : ℕ) (u : List ℕ) → Alike (f b u) (g b u))
    → Alike (next k t f) (unplaced.next t g)
unfolding next unplaced.next
octet k [] h = refuses
octet k (b ∷ u) h = h b u

second : (set b : ℕ) (t : List ℕ) → Alike (second_octet_of set b t) (unplaced.second set b t)
unfolding second_octet_of unplaced.second
second set b t = octet 1 t (λ d u. either _ (either _ gives refuses) refuses)

-- a name among n octets, and the same where one without an end was told as bad
data Names (n : ℕ) : Name → Name → Type 0 where
  ends : {k : ℕ} → k < n → Names n (Ends k) (Ends k)
  bad : {k : ℕ} → Names n (Bad k) (Bad k)
  endless : {k : ℕ} → Names n Endless (Bad k)

module _ (n : ℕ) where
  by : {x y v w : Name} (q : Bool) → Names n x v → Names n y w → Names n (pick q x y) (pick q v w)
  unfolding pick
  by true h g = h
  by false h g = g

  names : (xs : List ℕ) (k : ℕ) → n ≡ k + length xs → Names n (name_of xs k) (unplaced.name xs k)
  unfolding name_of unplaced.name
  names [] k h = endless
  names (b ∷ t) k h = by _ (by _ bad (ends (omega arith))) (by _ (names t (k + 1) (omega arith)) bad)

content : (d n : ℕ) {x y : Name} → Names n x y → Alike (content_of d n x) (unplaced.content d n y)
unfolding content_of whole_of unplaced.content
content d n (ends {k} h) = subst (Alike _) (on_true (ltb k n) _ _ _ (lt-ltb k n h) refl) (either _ gives refuses)
content d n bad = refuses
content d n endless = refuses

body : (d n : ℕ) (t : List ℕ) → Alike (body_of d n t) (unplaced.body d n t)
unfolding body_of unplaced.body
body d n t =
    test (leb n (length t))
    (λ e. let z = length-take-le n t (leb-true n (length t) e) in
    rw (← (on_true _ _ _ _ e refl), ← (on_true _ _ _ _ e refl)) (content d n (names n (take n t) 0 (omega (arith, z)))))
    (λ e. rw (← (on_false _ _ _ _ e refl), ← (on_false _ _ _ _ e refl)) refuses)

lengths : (d : ℕ) (t : List ℕ) → Alike (lengths_of d t) (unplaced.lengths d t)
unfolding lengths_of unplaced.lengths
lengths d t = octet 4 t (λ m u. either _ refuses (octet 5 u (λ l v. either _ refuses (body d _ v))))

extended : (t : List ℕ) → Alike (extended_of t) (unplaced.extended t)
unfolding extended_of unplaced.extended
extended t = octet 2 t (λ b u. either _ (octet 3 u (λ d v. either _ refuses (either _ (lengths d v) refuses))) refuses)

intermediates : (k : ℕ) (t : List ℕ) → Alike (intermediates_of k t) (unplaced.intermediates t)
unfolding intermediates_of unplaced.intermediates
intermediates k [] = refuses
intermediates k (b ∷ t) = either _ refuses (either _ (intermediates (k + 1) t) (either _ refuses (either _ refuses refuses)))

-- a designation, whose final stands after k octets: three of 94 by 94, else two
module _ (k form : ℕ) (side : Side) (h : k + 1 ≡ cond (eqb form form_94x94) 4 3) where
  final_octet : (set : ℕ) → Alike (designates_of k side set) (unplaced.designates form side set)
  unfolding designates_of unplaced.designates
  final_octet set =
      either (ltb set no_set)
      (test (eqb form form_94x94) (λ e. rw (← (on_true _ _ _ _ e refl), rw e at h) designates)
      (λ e. rw (← (on_false _ _ _ _ e refl), rw e at h) designates))
      refuses

  designation : (t : List ℕ) → Alike (designation_of k form side t) (unplaced.designation form side t)
  unfolding designation_of unplaced.designation
  designation t =
      octet k t
      (λ b u.
      either _ refuses
      (either _ (intermediates (k + 1) u) (either _ refuses (either _ (final_octet (set_of form side b)) refuses))))

multi_octet_lem : (t : List ℕ) → Alike (multi_octet_of t) (unplaced.multi_octet t)
unfolding multi_octet_of unplaced.multi_octet
multi_octet_lem t =
    octet 2 t
    (λ b u. either _ (designation 3 form_94x94 GL refl u) (either _ (designation 3 form_94x94 GR refl u) refuses))

escape : (t : List ℕ) → Alike (escape_of t) (unplaced.escape t)
unfolding escape_of unplaced.escape
escape t =
    octet 1 t
    (λ b u.
    either _ (designation 2 form_94 GL refl u)
    (either _ (designation 2 form_94 GR refl u)
    (either _ (designation 2 form_96 GR refl u)
    (either _ (multi_octet_lem u) (either _ (extended u) (either _ refuses refuses))))))

begin : (kind : ℕ) (t : List ℕ) → Alike (begin_of kind t) (unplaced.begin kind t)
unfolding begin_of unplaced.begin
begin kind t = octet 2 t (λ b u. either _ gives refuses)

csi : (t : List ℕ) → Alike (csi_of t) (unplaced.csi t)
unfolding csi_of unplaced.csi
csi t = octet 1 t (λ b u. either _ gives (either _ (begin _ u) (either _ (begin _ u) refuses)))

begun : (c : Start) (b : ℕ) (t : List ℕ) (s : Sets) → Alike (begun_by c b t s) (unplaced.begun c b t s)
unfolding begun_by unplaced.begun
begun start.escape b t s = escape t
begun start.mark b t s = csi t
begun start.tab b t s = gives
begun start.newline b t s = gives
begun start.space b t s = gives
begun (start.one d) b t s = gives
begun (start.two d) b t s = second (get d s) b t
begun start.unused b t s = refuses

-- ---- elements

-- an element, and the same without the offset of a refusal
data ElementAlike : Element → Element → Type 0 where
  refused : {n o : ℕ} → ElementAlike (Refused n o) (Refused n 0)
  silent : {k : ℕ} {st : State} → ElementAlike (Silent k st) (Silent k st)
  found : {p : Part} {st : State} → ElementAlike (Found p st) (Found p st)

stepped : (p : Part) (st : State) (x : Step) → ElementAlike (stepped_of p st x) (stepped_of p st x)
unfolding stepped_of
stepped p st (Goes d) = found
stepped p st (Stops n) = refused

directed : {x y : Shape} (st : State) → Alike x y → ElementAlike (directed_of x st) (directed_of y st)
unfolding directed_of
directed st refuses = refused
directed st designates = silent
directed st (gives {p}) = stepped p st (step_of p.text p.kind st.directions)

-- the elements of a string, and the same without the offset of a refusal
data Match : Elements → Elements → Type 0 where
  ends : {at : ℕ} → Match (end_at at) (end_at at)
  stops : {at n o : ℕ} → Match (stopped_at at n o) (stopped_at at n 0)
  passes : {at k : ℕ} {st : State} {es fs : Elements} → Match es fs → Match (silent_at at k st es) (silent_at at k st fs)
  reads : {at : ℕ} {p : Part} {st : State} {es fs : Elements} → Match es fs → Match (found_at at p st es) (found_at at p st fs)

module _ (at : ℕ) {f g : ℕ → State → Elements} (after : (k : ℕ) (st : State) → Match (f k st) (g k st)) where
  further : {e d : Element} → ElementAlike e d → Match (onward at e f) (onward at d g)
  unfolding onward
  further refused = stops
  further (silent {k} {st}) = passes (after _ st)
  further (found {p} {st}) = reads (after _ st)

match : (t : List ℕ) (k at : ℕ) (st : State) → Match (elements t k at st) (unplaced.elements t k at st)
unfolding elements unplaced.elements shape_of
match [] k at st = ends
match (b ∷ t) zero at st = further at (λ k next. match t k (at + 1) next) (directed st (begun (start_in st.sets b) b t st.sets))
match (b ∷ t) (suc k) at st = match t k (at + 1) st

-- ---- answers

-- what the two answer; the place without offsets is where the elements stop
record Answered (st : State) (es fs : Elements) : Type 0 where
  number : (c : ℕ) → (answer_of c es).number ≡ (answer_of c fs).number
  count : (c : ℕ) → (answer_of c es).count ≡ (answer_of c fs).count
  start : (c : ℕ) → (answer_of c fs).place ≡ (stop_of st es).place

answered : {es fs : Elements} → Match es fs → (st : State) → Answered st es fs
unfolding answer_of stop_of
answered ends st = record { number = λ c. refl; count = λ c. refl; start = λ c. refl }
answered stops st = record { number = λ c. refl; count = λ c. refl; start = λ c. omega arith }
answered (passes {st = next} m) st =
    let h = answered m next in
    record { number = h.number; count = h.count; start = h.start }
answered (reads {st = next} m) st =
    let h = answered m next in
    record { number = λ c. h.number (c + 1); count = λ c. h.count (c + 1); start = λ c. h.start (c + 1) }

-- of every string: the number and the count are those before the request, and so is the place of the refused element's start
pub record Stays (s : List ℕ) : Type 0 where
  pub number : (check_of s).number ≡ (unplaced.check s).number
  pub count : (check_of s).count ≡ (unplaced.check s).count
  pub start : length s ≤ limit.octets → (unplaced.check s).place ≡ (stop_of fresh (elements_of s)).place

pub numbers_stay : (s : List ℕ) → Stays s
unfolding check_of unplaced.check pick
numbers_stay s =
    let h = answered (match s 0 0 fresh) fresh in
    record {
      number = test (ltb limit.octets (length s)) (λ e. rw e) (λ e. rw e (h.number 0));
      count = test (ltb limit.octets (length s)) (λ e. rw e) (λ e. rw e (h.count 0));
      start = λ short. rw (le-ltb limit.octets (length s) short) (h.start 0);
    }
