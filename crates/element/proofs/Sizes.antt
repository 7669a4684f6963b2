-- An element has one octet at least, and no more than are there; the fields of its unit that mean nothing are 0; a refused one has a number above 0 (where
-- its place is: Pointed); and a state that is fit stays fit. Of the shape (`Shaped`) it is shown for each definition from the leaves up, with `n` the
-- octets that the element may have; of the element (`Sized`) by its shape and the direction rule. On the way: escape sequences and direction marks are no
-- characters or spaces (`escape_kind`, `mark_kind`).
use Rattle.element.proofs.Names.{ℕ, suc, ◌+◌, ◌-◌, ◌<◌, ◌≤◌, zero-le, arith, ◌≡◌, refl, sym, Bool, true, List, [], ◌∷◌, leb, ltb, length}
use Rattle.element.proofs.Names.{take, leb-true, ltb-true, pick, pick_by, tested, no_set, allowed, set_of, Side, GL, GR, directions, written_of}
use Rattle.element.proofs.Names.{deeper_of, begun_of, reverted_of, step_of, get, put, designated_of, Directions, Step, Goes, Stops, part, next, Sets}
use Rattle.element.proofs.Names.{State, Part, Shape, Refuses, Designates, Gives, Element, End, Refused, Silent, Found}
use Rattle.base.specs.Kind as kind
use Rattle.base.specs.Limit as limit
use Rattle.base.specs.Refusal as refusal
use Rattle.charset.proofs.Laws.{set_named}
use Rattle.text.specs.Text.{second_octet_of}
use Rattle.control.specs.Escape.{intermediates_of, designates_of, final_of, designation_of, multi_octet_of, escape_of}
use Rattle.segment.specs.Segment.{segment_part, name_of, content_of, body_of, lengths_of, extended_of}
use Rattle.control.specs.Mark.{begin_of, csi_of}
use Rattle.element.specs.Meant.{Meant, with_set, with_none, with_code, MeantPart}
use Rattle.element.specs.Start.{Start, start_in, begun_by}
use Rattle.element.specs.Start as start
use Rattle.element.specs.Element.{shape_of, stepped_of, directed_of, element_of}
use Rattle.state.specs.Elements.{Ends}
use Rattle.segment.specs.Segment.{Name, Ends as NameEnds, Bad, Endless}

-- ---- a shape

-- a shape of at least one and at most n octets, and the end only where n is 0; its unit is of no kind below `low`
data Shaped (n low : ℕ) : Shape → Type 0 where
  nothing : n ≡ 0 → Shaped n low Ends
  short : {r o : ℕ} → 1 ≤ r → Shaped n low (Refuses r o)
  designates : {k : ℕ} {d : Side} {c : ℕ} → 1 ≤ k → k ≤ n → allowed d c ≡ true → Shaped n low (Designates k d c)
  gives : {p : Part} → 1 ≤ p.skip + p.octets → p.skip + p.octets ≤ n → low ≤ p.kind → MeantPart p → Shaped n low (Gives p)

module _ {n low : ℕ} where
  no : {r o : ℕ} → Shaped n low (Refuses (suc r) o)
  no {r} = short {r = suc r} (omega arith)

  either : {x y : Shape} (t : Bool) → Shaped n low x → Shaped n low y → Shaped n low (pick t x y)
  either t h k = pick_by (Shaped n low) t (λ _. h) (λ _. k)

  -- of the next octet
  onward : (k : ℕ) (t : List ℕ) (f : ℕ → List ℕ → Shape) → ((b : ℕ) (u : List ℕ) → length t ≡ suc (length u) → Shaped n low (f b u))
      → Shaped n low (next k t f)
  unfolding next
  onward k [] f h = no
  onward k (b ∷ u) f h = h b u refl

  unit : (k set code octets : ℕ) (x : Bool) → Meant k set code → (low ≤ k) × (1 ≤ octets) × (octets ≤ n)
      → Shaped n low (Gives (part k set code 0 octets x))
  unit k set code octets x f h = gives {p = part k set code 0 octets x} (omega arith) (omega arith) h.0 f

  second : low ≤ 0 → (set b : ℕ) (t : List ℕ) → 1 + length t ≤ n → Shaped n low (second_octet_of set b t)
  unfolding second_octet_of
  second l set b t h = onward _ t _ (λ d u e. either _ (either _ (unit 0 set _ 2 _ with_set (omega arith)) no) no)

  intermediates : (k : ℕ) (t : List ℕ) → Shaped n low (intermediates_of k t)
  unfolding intermediates_of
  intermediates k [] = no
  intermediates k (b ∷ t) = either _ no (either _ (intermediates (k + 1) t) (either _ no (either _ no no)))

  placed : (k form : ℕ) (side : Side) (last : ℕ) → k + 1 ≤ n → Shaped n low (final_of k form side last)
  unfolding designates_of allowed
  placed k form side last h =
      pick_by (Shaped n low) (ltb (set_of form side last) no_set)
      (λ e. designates {k = k + 1} (omega arith) h (set_named form side last (ltb-true (set_of form side last) no_set e)).side)
      (λ _. no)

  designation : (k form : ℕ) (side : Side) (t : List ℕ) → k + length t ≤ n → Shaped n low (designation_of k form side t)
  unfolding designation_of
  designation k form side t h =
      onward _ t _
      (λ b u e. either _ no (either _ (intermediates (k + 1) u) (either _ no (either _ (placed k form side b (omega arith)) no))))

  multi_octet_lem : (t : List ℕ) → 2 + length t ≤ n → Shaped n low (multi_octet_of t)
  unfolding multi_octet_of
  multi_octet_lem t h = onward _ t _ (λ b u e. either _ (designation 3 3 GL u (omega arith)) (either _ (designation 3 3 GR u (omega arith)) no))

module _ {n low : ℕ} (few : low ≤ 2) where
  content : (d m : ℕ) (k : Name) → 6 + m ≤ n → Shaped n low (content_of d m k)
  unfolding content_of
  content d m (NameEnds k) h = either _ (gives {p = segment_part d m (m - k - 1)} (omega arith) h (omega arith) with_code) no
  content d m (Bad k) h = no
  content d m Endless h = no

  body : (d m : ℕ) (t : List ℕ) → 6 + length t ≤ n → Shaped n low (body_of d m t)
  unfolding body_of
  body d m t h = pick_by (Shaped n low) (leb m (length t)) (λ e. content d m (name_of (take m t) 0) (omega (arith, leb-true m (length t) e))) (λ _. no)

  lengths : (d : ℕ) (t : List ℕ) → 4 + length t ≤ n → Shaped n low (lengths_of d t)
  unfolding lengths_of
  lengths d t h = onward _ t _ (λ m u e. either _ no (onward _ u _ (λ l v k. either _ no (body d _ v (omega arith)))))

  extended : (t : List ℕ) → 2 + length t ≤ n → Shaped n low (extended_of t)
  unfolding extended_of
  extended t h = onward _ t _ (λ b u e. either _ (onward _ u _ (λ d v k. either _ no (either _ (lengths d v (omega arith)) no))) no)

  escape : (t : List ℕ) → 1 + length t ≤ n → Shaped n low (escape_of t)
  unfolding escape_of
  escape t h =
      onward _ t _
      (λ b u e.
      either _ (designation 2 1 GL u (omega arith))
      (either _ (designation 2 1 GR u (omega arith))
      (either _ (designation 2 2 GR u (omega arith))
      (either _ (multi_octet_lem u (omega arith)) (either _ (extended u (omega arith)) (either _ no no))))))

  begin : (k : ℕ) (t : List ℕ) → (2 ≤ k) × (k < kind.segment) × (2 + length t ≤ n) → Shaped n low (begin_of k t)
  unfolding begin_of
  begin k t h = onward _ t _ (λ b u e. either _ (unit k 0 0 3 _ (with_none h.1) (omega arith)) no)

  csi : (t : List ℕ) → 1 + length t ≤ n → Shaped n low (csi_of t)
  unfolding csi_of
  csi t h =
      onward _ t _
      (λ b u e.
      either _ (unit 6 0 0 2 _ (with_none (omega arith)) (omega arith))
      (either _ (begin 4 u (omega arith)) (either _ (begin 5 u (omega arith)) no)))

module _ {n : ℕ} (s : Sets) where
  begun : (c : Start) (b : ℕ) (t : List ℕ) → 1 + length t ≤ n → Shaped n 0 (begun_by c b t s)
  unfolding begun_by
  begun start.escape b t h = escape zero-le t h
  begun start.mark b t h = csi zero-le t h
  begun start.tab b t h = unit kind.tab 0 0 1 _ (with_none (omega arith)) (omega arith)
  begun start.newline b t h = unit kind.newline 0 0 1 _ (with_none (omega arith)) (omega arith)
  begun start.space b t h = unit kind.space 0 0 1 _ (with_none (omega arith)) (omega arith)
  begun (start.one d) b t h = unit kind.character (get d s) _ 1 _ with_set (omega arith)
  begun (start.two d) b t h = second zero-le (get d s) b t h
  begun start.unused b t h = no

  shape : (t : List ℕ) → length t ≡ n → Shaped n 0 (shape_of t s)
  unfolding shape_of
  shape [] h = nothing (sym h)
  shape (b ∷ t) h = begun (start_in s b) b t (omega arith)

-- the kind of a shape's unit; no other shape is a character or space
abbrev pub kind_in : Shape → ℕ
kind_in Ends = kind.tab
kind_in (Refuses n o) = kind.tab
kind_in (Designates k d c) = kind.tab
kind_in (Gives p) = p.kind

no_character : {n : ℕ} {x : Shape} → Shaped n kind.tab x → kind.tab ≤ kind_in x
no_character (nothing h) = omega arith
no_character (short h) = omega arith
no_character (designates h k a) = omega arith
no_character (gives h k l m) = l

-- escape sequences and direction marks are no characters or spaces
pub escape_kind : (t : List ℕ) → kind.tab ≤ kind_in (escape_of t)
escape_kind t = no_character {n = 1 + length t} (escape (omega arith) t (omega arith))

pub mark_kind : (t : List ℕ) → kind.tab ≤ kind_in (csi_of t)
mark_kind t = no_character {n = 1 + length t} (csi (omega arith) t (omega arith))

-- ---- a refusal by the direction rule is 8 or 9, and what it lets pass stays within the limit

pub data Fair (d : Directions) : Step → Type 0 where
  goes : {next : Directions} → (d.depth ≤ limit.depth → next.depth ≤ limit.depth) → Fair d (Goes next)
  stops : {n : ℕ} → (refusal.direction ≤ n) × (n ≤ refusal.too_deep) → Fair d (Stops n)

module _ (d : Directions) where
  fair_pick : (b : Bool) (x y : Step) → Fair d x → Fair d y → Fair d (pick b x y)
  fair_pick b x y h k = pick_by (Fair d) b (λ _. h) (λ _. k)

  fair_deeper : (way : ℕ) → Fair d (deeper_of way d)
  unfolding deeper_of
  fair_deeper way =
      pick_by (Fair d) (ltb d.depth limit.depth) (λ e. goes (λ _. omega (tested, e))) (λ _. stops {n = refusal.too_deep} (omega arith))

  fair_less : (levels : ℕ) (marked texted : Bool) → Fair d (Goes (directions (d.depth - 1) levels marked texted))
  fair_less levels marked texted = goes {next = directions (d.depth - 1) levels marked texted} (λ h. omega arith)

  stops_eight : Fair d (Stops refusal.direction)
  stops_eight = stops {n = refusal.direction} (omega arith)

  stays : {next : Directions} → next.depth ≡ d.depth → Fair d (Goes next)
  stays {next} e = goes {next = next} (λ h. omega arith)

  pub fair : (x : Bool) (kind : ℕ) → Fair d (step_of x kind d)
  unfolding step_of written_of begun_of reverted_of
  fair x kind = search (fair_pick, fair_deeper, fair_less, stops_eight, stays) depth 9

-- ---- an element

-- a state that a reading may be in: each set stands on a side that it may use, and no more directions are open than the limit
pub record Fit (st : State) : Type 0 where
  pub left : allowed GL st.sets.gl ≡ true
  pub right : allowed GR st.sets.gr ≡ true
  pub depth : st.directions.depth ≤ limit.depth

-- an element that is passed: how many octets it has, and the state after it
pub data Passed : Element → ℕ → State → Type 0 where
  silent : {k : ℕ} {next : State} → Passed (Silent k next) k next
  found : {p : Part} {next : State} → Passed (Found p next) (p.skip + p.octets) next

-- an element of n octets under a state: of at least one and at most n of them, and the end only where n is 0
pub data Sized (n : ℕ) (st : State) : Element → Type 0 where
  of_none : n ≡ 0 → Sized n st End
  of_bad : {r o : ℕ} → 1 ≤ r → Sized n st (Refused r o)
  of_designation : {k : ℕ} {next : State} → 1 ≤ k → k ≤ n → (Fit st → Fit next) → Sized n st (Silent k next)
  of_unit : {p : Part} {next : State} → 1 ≤ p.skip + p.octets → p.skip + p.octets ≤ n → MeantPart p → (Fit st → Fit next)
      → Sized n st (Found p next)

module _ {n : ℕ} {st : State} where
  pub of_end : Sized n st End → n ≡ 0
  of_end (of_none h) = h

  pub of_refused : {r o : ℕ} → Sized n st (Refused r o) → 1 ≤ r
  of_refused (of_bad f) = f

  pub of_passed : {e : Element} {k : ℕ} {next : State} → Passed e k next → Sized n st e → (1 ≤ k) × (k ≤ n) × (Fit st → Fit next)
  of_passed silent (of_designation h k f) = (h, k, f)
  of_passed found (of_unit h k m f) = (h, k, f)

  pub of_meant : {p : Part} {next : State} → Sized n st (Found p next) → MeantPart p
  of_meant (of_unit h k m f) = m

module _ (n : ℕ) (st : State) where
  placed-fit : (side : Side) (set : ℕ) → allowed side set ≡ true → Fit st → Fit (designated_of side set st)
  unfolding put
  placed-fit GL set e f = record { left = e; right = f.right; depth = f.depth }
  placed-fit GR set e f = record { left = f.left; right = e; depth = f.depth }

  -- the direction rule changes the directions alone
  stepped : (p : Part) (x : Step) → Fair st.directions x → Shaped n 0 (Gives p) → Sized n st (stepped_of p st x)
  unfolding stepped_of
  stepped p (Goes d) (goes g) (gives h k l m) = of_unit h k m (λ e. record { left = e.left; right = e.right; depth = g e.depth })
  stepped p (Stops r) (stops g) h = of_bad {r = r} (omega (arith, g.0))

  directed : {x : Shape} → Shaped n 0 x → Sized n st (directed_of x st)
  unfolding directed_of
  directed (nothing h) = of_none h
  directed (short h) = of_bad h
  directed (designates {d = d} {c = c} h k a) = of_designation h k (placed-fit d c a)
  directed (gives {p} h k l m) =
      stepped p (step_of p.text p.kind st.directions) (fair st.directions p.text p.kind) (gives h k l m)

pub element_size : (t : List ℕ) (st : State) → Sized (length t) st (element_of t st)
element_size t st = directed (length t) st (shape st.sets t refl)
