-- What a refusal points at (rule N2), of every element. 2 is at the length of the string. 3 to 7 are at an octet of the element: the octets before that one,
-- alone, are nothing or an element that is cut. 8 and 9, by the direction rule, are at the start. And so many octets of the element decide a refusal of 3 to
-- 9, and an element that is passed, whatever follows them; of 3 to 6 the last of them is the octet that is told (`element_pointed`). Of the shape it is
-- shown for each definition from the leaves up: for a function f of the octets t that are left after k others, `Tells` says it of what f answers, and
-- `onward` takes it over one octet more.
use Rattle.element.proofs.Names.{ℕ, zero, suc, ◌+◌, ◌-◌, ◌<◌, ◌≤◌, arith, not-suc-le-zero, ◌≡◌, refl, sym, ap, ◌∙◌, subst, Bool, true, false}
use Rattle.element.proofs.Names.{List, [], ◌∷◌, ◌⊎◌, inl, inr, ⊎_elim, leb, length, take, leb-true, le-leb, lt-leb, on_true, on_false}
use Rattle.element.proofs.Names.{length-take-le, length-take, pick, pick_by, set_of, Side, get, next, Sets, State, Part, Shape, Refuses, Designates}
use Rattle.element.proofs.Names.{Gives, Step, Element, End, Refused}
use lib.Seq.{take_all, take-take}
use Rattle.base.specs.Refusal as refusal
use Rattle.text.specs.Text.{second_octet_of}
use Rattle.control.specs.Escape.{intermediates_of, designates_of, designation_of, multi_octet_of, escape_of}
use Rattle.control.specs.Mark.{begin_of, csi_of}
use Rattle.segment.specs.Segment.{name_of, whole_of, segment_part, content_of, body_of, lengths_of, extended_of}
use Rattle.segment.specs.Segment.{Name}
use Rattle.segment.proofs.Steps.{Within, ends, bad, endless, name_within}
use Rattle.element.specs.Start.{Start, start_in, begun_by}
use Rattle.element.specs.Start as start
use Rattle.element.specs.Element.{shape_of, stepped_of, directed_of, element_of}
use Rattle.element.proofs.Sizes.{Fair, goes, stops, fair, Passed, silent, found}
use Rattle.state.specs.Elements.{Ends}

-- a number of refusal that points at an octet: 3 to 7
abbrev pub Octet : ℕ → Type 0
Octet n = (refusal.unused ≤ n) × (n ≤ refusal.bad_segment)

-- the octets of a shape that is not refused
abbrev pub octets_in : Shape → ℕ
octets_in Ends = 0
octets_in (Refuses n o) = 0
octets_in (Designates k d c) = k
octets_in (Gives p) = p.skip + p.octets

-- the first m octets of t decide what f says of it: they are there, and whatever follows them changes nothing
pub record Decided {X : Type 0} (f : List ℕ → X) (t : List ℕ) (x : X) (m : ℕ) : Type 0 where
  pub there : m ≤ length t
  pub same : (i : ℕ) → m ≤ i → f (take i t) ≡ x

-- where the octets of a refused element end that decide it, m of them with octet j refused: of 3 to 6 that octet is the last
abbrev pub EndsAt : ℕ → ℕ → ℕ → Type 0
EndsAt n j m = (j < m) × (n ≤ refusal.version → m ≡ j + 1)

-- ---- the octets t after k others of an element

data Tells (k : ℕ) (f : List ℕ → Shape) (t : List ℕ) : Shape → Type 0 where
  cut : {o : ℕ} → o ≡ k + length t → Tells k f t (Refuses refusal.cut o)
  points : {n o : ℕ} (j m : ℕ) → Octet n → o ≡ k + j → EndsAt n j m → f (take j t) ≡ Refuses refusal.cut o → Decided f t (Refuses n o) m
      → Tells k f t (Refuses n o)
  whole : {x : Shape} (j : ℕ) → octets_in x ≡ k + j → Decided f t x j → Tells k f t x

-- the same once the octet after these k is read as well: it may be the one that is refused
data After (k : ℕ) (f : List ℕ → Shape) (t : List ℕ) : Shape → Type 0 where
  here : {n : ℕ} → Octet n → Decided f t (Refuses n k) 0 → After k f t (Refuses n k)
  later : {x : Shape} → Tells (k + 1) f t x → After k f t x

-- f refuses the end as cut, and is g of the first octet and of those after it
record StepBy (k : ℕ) (f : List ℕ → Shape) (g : ℕ → List ℕ → Shape) : Type 0 where
  at_end : f [] ≡ Refuses refusal.cut k
  at_octet : (b : ℕ) (u : List ℕ) → f (b ∷ u) ≡ g b u

-- what is decided of the octets after the first is decided with it
longer : {X : Type 0} {f g : List ℕ → X} (b : ℕ) (u : List ℕ) {x : X} {m : ℕ} → ((v : List ℕ) → f (b ∷ v) ≡ g v) → Decided g u x m
    → Decided f (b ∷ u) x (suc m)
longer {f = f} b u {x} {m} e d = record { there = omega (arith, d.there); same = more }
  where
    more : (i : ℕ) → suc m ≤ i → f (take i (b ∷ u)) ≡ x
    more zero h = absurd (not-suc-le-zero h)
    more (suc i) h = e (take i u) ∙ d.same i (omega arith)

module _ (k : ℕ) (f : List ℕ → Shape) (g : ℕ → List ℕ → Shape) (by : StepBy k f g) where
  over : (b : ℕ) (u : List ℕ) {x : Shape} → After k (g b) u x → Tells k f (b ∷ u) x
  over b u (here n d) = points {o = k} 0 1 n (omega arith) (omega arith, λ _. omega arith) by.at_end (longer b u (by.at_octet b) d)
  over b u (later (cut {o} e)) = cut {o = o} (omega arith)
  over b u (later (points {n} {o} j m a e h q d)) =
      points {n = n} {o = o} (suc j) (suc m) a (omega arith) (omega (arith, h.0), λ v. omega (arith, h.1 v)) (by.at_octet b (take j u) ∙ q)
      (longer b u (by.at_octet b) d)
  over b u (later {x} (whole j e d)) = whole {x = x} (suc j) (omega arith) (longer b u (by.at_octet b) d)

  onward : (t : List ℕ) → ((b : ℕ) (u : List ℕ) → After k (g b) u (g b u)) → Tells k f t (f t)
  onward [] h = subst (Tells k f []) (sym by.at_end) (cut {o = k} (omega arith))
  onward (b ∷ u) h = subst (Tells k f (b ∷ u)) (sym (by.at_octet b u)) (over b u (h b u))

-- ---- octet by octet

-- a constant is decided by no octet
always : {u : List ℕ} (x : Shape) → Decided (λ v. x) u x 0
always x = record { there = omega arith; same = λ i h. refl }

module _ {k : ℕ} {u : List ℕ} where
  either : {x y : List ℕ → Shape} (q : Bool) → (q ≡ true → After k x u (x u)) → (q ≡ false → After k y u (y u))
      → After k (λ v. pick q (x v) (y v)) u (pick q (x u) (y u))
  unfolding pick
  either true h g = h refl
  either false h g = g refl

  -- the octet itself is refused
  no : (n : ℕ) → Octet n → After k (λ v. Refuses n k) u (Refuses n k)
  no n h = here h (always (Refuses n k))

  -- the element ends with it
  gives : {p : Part} → p.skip + p.octets ≡ k + 1 → After k (λ v. Gives p) u (Gives p)
  gives {p} e = later (whole {x = Gives p} 0 (omega arith) (always (Gives p)))

  not_used : After k (λ v. Refuses refusal.unused k) u (Refuses refusal.unused k)
  not_used = no refusal.unused (omega arith)

  unknown : After k (λ v. Refuses refusal.unknown k) u (Refuses refusal.unknown k)
  unknown = no refusal.unknown (omega arith)

second : (set b : ℕ) (t : List ℕ) → Tells 1 (second_octet_of set b) t (second_octet_of set b t)
unfolding second_octet_of next
second set b t =
    onward 1 (second_octet_of set b) _ (record { at_end = refl; at_octet = λ d u. refl }) t
    (λ d u. either _ (λ _. either _ (λ _. gives (omega arith)) (λ _. not_used)) (λ _. not_used))

begin : (kind : ℕ) (t : List ℕ) → Tells 2 (begin_of kind) t (begin_of kind t)
unfolding begin_of next
begin kind t =
    onward 2 (begin_of kind) _ (record { at_end = refl; at_octet = λ b u. refl }) t (λ b u. either _ (λ _. gives (omega arith)) (λ _. unknown))

csi : (t : List ℕ) → Tells 1 csi_of t (csi_of t)
unfolding csi_of next
csi t =
    onward 1 csi_of _ (record { at_end = refl; at_octet = λ b u. refl }) t
    (λ b u.
    either _ (λ _. gives (omega arith)) (λ _. either _ (λ _. later (begin _ u)) (λ _. either _ (λ _. later (begin _ u)) (λ _. unknown))))

-- ---- designations

-- a final octet
named : {k : ℕ} {u : List ℕ} (side : Side) (set : ℕ) → After k (λ v. designates_of k side set) u (designates_of k side set)
unfolding designates_of
named {k} side set =
    let x = Designates (k + 1) side set in
    either _ (λ _. later (whole {x = x} 0 (omega arith) (always x))) (λ _. no refusal.not_approved (omega arith))

intermediates : (k : ℕ) (t : List ℕ) → Tells k (intermediates_of k) t (intermediates_of k t)
unfolding intermediates_of
intermediates k [] = cut {o = k} (omega arith)
intermediates k (b ∷ t) =
    over k (intermediates_of k) _ (record { at_end = refl; at_octet = λ b u. refl }) b t
    (either _ (λ _. unknown)
    (λ _. either _ (λ _. later (intermediates (k + 1) t))
    (λ _. either _ (λ _. unknown) (λ _. either _ (λ _. no refusal.not_approved (omega arith)) (λ _. unknown)))))

designation : (k form : ℕ) (side : Side) (t : List ℕ) → Tells k (designation_of k form side) t (designation_of k form side t)
unfolding designation_of next
designation k form side t =
    onward k (designation_of k form side) _ (record { at_end = refl; at_octet = λ b u. refl }) t
    (λ b u.
    either _ (λ _. unknown)
    (λ _. either _ (λ _. later (intermediates (k + 1) u))
    (λ _. either _ (λ _. unknown) (λ _. either _ (λ _. named side (set_of form side b)) (λ _. unknown)))))

multi_octet_lem : (t : List ℕ) → Tells 2 multi_octet_of t (multi_octet_of t)
unfolding multi_octet_of next
multi_octet_lem t =
    onward 2 multi_octet_of _ (record { at_end = refl; at_octet = λ b u. refl }) t
    (λ b u. either _ (λ _. later (designation 3 _ _ u)) (λ _. either _ (λ _. later (designation 3 _ _ u)) (λ _. unknown)))

-- ---- extended segments

module _ (d n : ℕ) (t : List ℕ) where
  -- fewer than n octets
  short : (j : ℕ) → j < n → j ≤ length t → body_of d n (take j t) ≡ Refuses refusal.cut (6 + j)
  unfolding body_of
  short j h l =
      let z = length-take-le j t l in
      sym (on_false _ _ _ _ (lt-leb n (length (take j t)) (omega (arith, z))) (ap (λ (m : ℕ). Refuses refusal.cut (6 + m)) (sym z)))

  -- n octets decide what the segment is
  all_there : n ≤ length t → {x : Shape} → content_of d n (name_of (take n t) 0) ≡ x → Decided (body_of d n) t x n
  unfolding body_of
  all_there all {x} e = record { there = all; same = more }
    where
      more : (i : ℕ) → n ≤ i → body_of d n (take i t) ≡ x
      more i h =
          let z : n ≤ length (take i t) = simp length-take (omega arith) in
          sym (on_true _ _ _ _ (le-leb n (length (take i t)) z) (sym (ap (λ (xs : List ℕ). content_of d n (name_of xs 0)) (take-take n i t h) ∙ e)))

-- the last of the n octets, or the L where n is 0
at_last : (d n : ℕ) (t : List ℕ) → n ≤ length t → content_of d n (name_of (take n t) 0) ≡ Refuses refusal.bad_segment (5 + n)
    → After 5 (body_of d n) t (Refuses refusal.bad_segment (5 + n))
at_last d zero t h e = here {n = refusal.bad_segment} (omega arith) (all_there d 0 t h e)
at_last d (suc m) t h e =
    let z : 6 + m ≡ 5 + suc m = omega arith in
    later (points {n = refusal.bad_segment} {o = 5 + suc m} m (suc m) (omega arith) (omega arith) (omega arith, λ v. absurd (omega (arith, v)))
    (short d (suc m) t m (omega arith) (omega arith) ∙ ap (Refuses refusal.cut) z) (all_there d (suc m) t h e))

module _ (d n : ℕ) (t : List ℕ) (all : n ≤ length t) where
  content : {name : Name} → Within n name → name_of (take n t) 0 ≡ name → After 5 (body_of d n) t (content_of d n name)
  unfolding content_of
  content (ends {k} h) e =
      pick_by (After 5 (body_of d n) t) (whole_of d (n - k - 1))
      (λ w. later
      (whole {x = Gives (segment_part d n (n - k - 1))} n (omega arith)
      (all_there d n t all (ap (content_of d n) e ∙ sym (on_true _ _ _ _ w refl)))))
      (λ w. at_last d n t all (ap (content_of d n) e ∙ sym (on_false _ _ _ _ w refl)))
  content (bad {k} h) e =
      later (points {n = refusal.bad_segment} {o = 6 + k} k n (omega arith) refl (h, λ v. absurd (omega (arith, v))) (short d n t k h (omega arith))
      (all_there d n t all (ap (content_of d n) e)))
  content endless e = at_last d n t all (ap (content_of d n) e)

body : (d n : ℕ) (t : List ℕ) → After 5 (body_of d n) t (body_of d n t)
unfolding body_of
body d n t =
    pick_by (After 5 (body_of d n) t) (leb n (length t))
    (λ e. let h = leb-true n (length t) e in content d n t h (name_within (take n t) 0 n (omega (arith, length-take-le n t h))) refl)
    (λ _. later (cut {o = 6 + length t} (omega arith)))

lengths : (d : ℕ) (t : List ℕ) → Tells 4 (lengths_of d) t (lengths_of d t)
unfolding lengths_of next
lengths d t =
    onward 4 (lengths_of d) _ (record { at_end = refl; at_octet = λ m u. refl }) t
    (λ m u. either _ (λ _. no refusal.bad_segment (omega arith))
    (λ _. later
    (onward 5 _ _ (record { at_end = refl; at_octet = λ l v. refl }) u
    (λ l v. either _ (λ _. no refusal.bad_segment (omega arith)) (λ _. body d _ v)))))

extended : (t : List ℕ) → Tells 2 extended_of t (extended_of t)
unfolding extended_of next
extended t =
    onward 2 extended_of _ (record { at_end = refl; at_octet = λ b u. refl }) t
    (λ b u. either _
    (λ _. later
    (onward 3 _ _ (record { at_end = refl; at_octet = λ d v. refl }) u
    (λ d v. either _ (λ _. unknown) (λ _. either _ (λ _. later (lengths d v)) (λ _. unknown)))))
    (λ _. unknown))

escape : (t : List ℕ) → Tells 1 escape_of t (escape_of t)
unfolding escape_of next
escape t =
    onward 1 escape_of _ (record { at_end = refl; at_octet = λ b u. refl }) t
    (λ b u.
    either _ (λ _. later (designation 2 _ _ u))
    (λ _. either _ (λ _. later (designation 2 _ _ u))
    (λ _. either _ (λ _. later (designation 2 _ _ u))
    (λ _. either _ (λ _. later (multi_octet_lem u))
    (λ _. either _ (λ _. later (extended u)) (λ _. either _ (λ _. no refusal.version (omega arith)) (λ _. unknown)))))))

-- ---- a shape

begun : (c : Start) (b : ℕ) (t : List ℕ) (s : Sets) → After 0 (λ u. begun_by c b u s) t (begun_by c b t s)
unfolding begun_by
begun start.escape b t s = later (escape t)
begun start.mark b t s = later (csi t)
begun start.tab b t s = gives (omega arith)
begun start.newline b t s = gives (omega arith)
begun start.space b t s = gives (omega arith)
begun (start.one d) b t s = gives (omega arith)
begun (start.two d) b t s = later (second (get d s) b t)
begun start.unused b t s = not_used

data Shaped (t : List ℕ) (s : Sets) : Shape → Type 0 where
  cut : {o : ℕ} → o ≡ length t → Shaped t s (Refuses refusal.cut o)
  octet : {n o : ℕ} (m : ℕ) → Octet n → EndsAt n o m → (o ≡ 0) ⊎ (shape_of (take o t) s ≡ Refuses refusal.cut o)
      → Decided (λ u. shape_of u s) t (Refuses n o) m → Shaped t s (Refuses n o)
  whole : {x : Shape} → 1 ≤ octets_in x → Decided (λ u. shape_of u s) t x (octets_in x) → Shaped t s x

module _ (b : ℕ) (u : List ℕ) (s : Sets) where
  -- with the first octet
  with_first : {x : Shape} {m : ℕ} → Decided (λ v. begun_by (start_in s b) b v s) u x m → Decided (λ v. shape_of v s) (b ∷ u) x (suc m)
  unfolding shape_of
  with_first d = longer b u (λ v. refl) d

  after : {x : Shape} → After 0 (λ v. begun_by (start_in s b) b v s) u x → Shaped (b ∷ u) s x
  unfolding shape_of
  after (here n d) = octet {o = 0} 1 n (omega arith, λ _. omega arith) (inl refl) (with_first d)
  after (later (cut {o} e)) = cut {o = o} (omega arith)
  after (later (points {n} {o} j m a e h q d)) =
      let z : o ≡ suc j = omega arith in
      octet {n = n} {o = o} (suc m) a (omega (arith, h.0), λ v. omega (arith, h.1 v)) (inr (ap (λ (y : ℕ). shape_of (take y (b ∷ u)) s) z ∙ q))
      (with_first d)
  after (later {x} (whole j e d)) =
      let z : suc j ≡ octets_in x = omega arith in
      whole {x = x} (omega arith) (subst (Decided (λ v. shape_of v s) (b ∷ u) x) z (with_first d))

-- ---- an element

-- what a refusal of the element at the start of octets points at; of 3 to 9, and of an element that is passed, how many octets decide it
pub data Pointed (t : List ℕ) (st : State) : Element → Type 0 where
  nothing : t ≡ [] → Pointed t st End
  at_length : {o : ℕ} → o ≡ length t → Pointed t st (Refused refusal.cut o)
  at_octet : {n o : ℕ} (m : ℕ) → Octet n → EndsAt n o m → (o ≡ 0) ⊎ (element_of (take o t) st ≡ Refused refusal.cut o)
      → Decided (λ u. element_of u st) t (Refused n o) m → Pointed t st (Refused n o)
  at_start : {n : ℕ} (m : ℕ) → (refusal.direction ≤ n) × (n ≤ refusal.too_deep) → 1 ≤ m → Decided (λ u. element_of u st) t (Refused n 0) m
      → Pointed t st (Refused n 0)
  passes : {e : Element} {k : ℕ} {next : State} → Passed e k next → Decided (λ u. element_of u st) t e k → Pointed t st e

module _ (t : List ℕ) (st : State) where
  -- what decides the shape decides the element
  under : {x : Shape} {m : ℕ} → Decided (λ u. shape_of u st.sets) t x m → Decided (λ u. element_of u st) t (directed_of x st) m
  under d = record { there = d.there; same = λ i h. ap (λ (x : Shape). directed_of x st) (d.same i h) }

  -- a unit, by the direction rule
  ruled : (p : Part) {x : Step} → Fair st.directions x → 1 ≤ p.skip + p.octets
      → Decided (λ u. element_of u st) t (stepped_of p st x) (p.skip + p.octets) → Pointed t st (stepped_of p st x)
  unfolding stepped_of
  ruled p (goes h) l d = passes found d
  ruled p (stops h) l d = at_start (p.skip + p.octets) h l d

  directed : {x : Shape} → Shaped t st.sets x → Pointed t st (directed_of x st)
  unfolding directed_of
  directed (cut e) = at_length e
  directed (octet m n h e d) =
      at_octet m n h (⊎_elim (λ z. inl z) (λ z. inr (ap (λ (x : Shape). directed_of x st) z)) e) (under d)
  directed {x} (whole n d) = by x n d
    where
      by : (x : Shape) → 1 ≤ octets_in x → Decided (λ u. shape_of u st.sets) t x (octets_in x) → Pointed t st (directed_of x st)
      by Ends n d = absurd (not-suc-le-zero n)
      by (Refuses r o) n d = absurd (not-suc-le-zero n)
      by (Designates k side c) n d = passes silent (under d)
      by (Gives p) n d = ruled p (fair st.directions p.text p.kind) n (under d)

pub element_pointed : (t : List ℕ) (st : State) → Pointed t st (element_of t st)
unfolding shape_of directed_of
element_pointed [] st = nothing refl
element_pointed (b ∷ t) st = directed (b ∷ t) st (after b t st.sets (begun (start_in st.sets b) b t st.sets))

-- no place lies past the octets
pub of_place : {t : List ℕ} {st : State} {n o : ℕ} → Pointed t st (Refused n o) → o ≤ length t
of_place (at_length e) = omega arith
of_place (at_octet m n h e d) = omega (arith, h.0, d.there)
of_place (at_start m n h d) = omega arith
of_place {t = t} {st = st} {n = n} {o = o} (passes {k = k} x3 _) = elim x3 [ ]

-- an element that is passed is the same with fewer octets after it
pub of_passed : {t : List ℕ} {st : State} {e : Element} {k : ℕ} {next : State} → Passed e k next → Pointed t st e → (i : ℕ) → k ≤ i
    → element_of (take i t) st ≡ e
of_passed silent (passes silent d) = d.same
of_passed found (passes found d) = d.same

-- the octets before the place of a refusal are nothing, or an element that is cut
pub of_before : {t : List ℕ} {st : State} {n o : ℕ} → element_of t st ≡ Refused n o → Pointed t st (Refused n o)
    → (o ≡ 0) ⊎ (element_of (take o t) st ≡ Refused refusal.cut o)
of_before {t} {st} {o = o} is (at_length e) =
    inr (ap (λ (u : List ℕ). element_of u st) (take_all o t (omega arith)) ∙ is)
of_before is (at_octet m n h e d) = e
of_before is (at_start m n h d) = inl refl
of_before {t = t} {st = st} {n = n} {o = o} is (passes {k = k} x3 _) = elim x3 [ ]

-- by the number: 2, 3 to 7, 8 and 9
pub of_cut : {t : List ℕ} {st : State} {o : ℕ} → Pointed t st (Refused refusal.cut o) → o ≡ length t
of_cut (at_length e) = e
of_cut (at_octet m n h e d) = absurd (omega (arith, n.0))
of_cut (at_start m n h d) = absurd (omega (arith, n.0))
of_cut {t = t} {st = st} {o = o} (passes {k = k} x3 _) = elim x3 [ ]

pub of_direction : {t : List ℕ} {st : State} {n o : ℕ} → refusal.direction ≤ n → Pointed t st (Refused n o) → o ≡ 0
of_direction k (at_length e) = absurd (omega (arith, k))
of_direction k (at_octet m n h e d) = absurd (omega (arith, k, n.1))
of_direction k (at_start m n h d) = refl
of_direction {t = t} {st = st} {n = n} {o = o} k (passes x3 _) = elim x3 [ ]

-- the octets of the element that decide a refusal of 3 to 9
pub record Extent (t : List ℕ) (st : State) (n o : ℕ) : Type 0 where
  pub octets : ℕ
  pub ends : EndsAt n o octets
  pub decided : Decided (λ u. element_of u st) t (Refused n o) octets

pub of_extent : {t : List ℕ} {st : State} {n o : ℕ} → refusal.unused ≤ n → Pointed t st (Refused n o) → Extent t st n o
of_extent k (at_length e) = absurd (omega (arith, k))
of_extent k (at_octet m n h e d) = record { octets = m; ends = h; decided = d }
of_extent k (at_start m n h d) = record { octets = m; ends = (h, λ v. absurd (omega (arith, v, n.0))); decided = d }
of_extent {t = t} {st = st} {n = n} {o = o} k (passes x3 _) = elim x3 [ ]
