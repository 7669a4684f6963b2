-- What an element does to the directions (`element_leads`): a designation nothing, and a unit a step of the direction rule, which is told whether the
-- unit counts as text by `counts_as_text` of its kind and of so many octets of text. That it is told so is shown for each definition of a shape, from the
-- leaves up (`Told`).
use Rattle.element.proofs.Names.{ℕ, ◌+◌, ◌-◌, ◌≡◌, refl, Bool, List, [], ◌∷◌, pick, pick_by, step_of, Side, next, part, Sets, State, Part, Step, Goes}
use Rattle.element.proofs.Names.{Stops, Shape, Refuses, Designates, Gives, Element, End, Refused, Silent, Found}
use Rattle.state.specs.Directions.{counts_as_text}
use Rattle.state.specs.Elements.{Ends}
use Rattle.text.specs.Text.{second_octet_of}
use Rattle.control.specs.Escape.{intermediates_of, designates_of, designation_of, multi_octet_of, escape_of}
use Rattle.control.specs.Mark.{begin_of, csi_of}
use Rattle.segment.specs.Segment.{content_of, body_of, lengths_of, extended_of}
use Rattle.segment.specs.Segment.{Name, Ends as NameEnds, Bad, Endless}
use Rattle.element.specs.Start.{Start, start_in, begun_by}
use Rattle.element.specs.Start as start
use Rattle.element.specs.Element.{shape_of, stepped_of, directed_of, element_of}

-- a shape whose unit, if it has one, counts as text by its kind and some octets of text
data Told : Shape → Type 0 where
  nothing : Told Ends
  refuses : {n o : ℕ} → Told (Refuses n o)
  designates : {k : ℕ} {d : Side} {c : ℕ} → Told (Designates k d c)
  gives : {k set code skip octets : ℕ} (n : ℕ) → Told (Gives (part k set code skip octets (counts_as_text k n)))

either : {x y : Shape} (t : Bool) → Told x → Told y → Told (pick t x y)
either t h k = pick_by Told t (λ _. h) (λ _. k)

-- of the next octet
onward : (k : ℕ) (t : List ℕ) (f : ℕ → List ℕ → Shape) → ((b : ℕ) (u : List ℕ) → Told (f b u)) → Told (next k t f)
unfolding next
onward k [] f h = refuses
onward k (b ∷ u) f h = h b u

second : (set b : ℕ) (t : List ℕ) → Told (second_octet_of set b t)
unfolding second_octet_of
second set b t = onward _ t _ (λ d u. either _ (either _ (gives 0) refuses) refuses)

intermediates : (k : ℕ) (t : List ℕ) → Told (intermediates_of k t)
unfolding intermediates_of
intermediates k [] = refuses
intermediates k (b ∷ t) = either _ refuses (either _ (intermediates (k + 1) t) (either _ refuses (either _ refuses refuses)))

designation : (k form : ℕ) (side : Side) (t : List ℕ) → Told (designation_of k form side t)
unfolding designation_of designates_of
designation k form side t =
    onward _ t _ (λ b u. either _ refuses (either _ (intermediates _ u) (either _ refuses (either _ (either _ designates refuses) refuses))))

multi_octet_lem : (t : List ℕ) → Told (multi_octet_of t)
unfolding multi_octet_of
multi_octet_lem t = onward _ t _ (λ b u. either _ (designation _ _ _ u) (either _ (designation _ _ _ u) refuses))

content : (d m : ℕ) (k : Name) → Told (content_of d m k)
unfolding content_of
content d m (NameEnds k) = either _ (gives (m - k - 1)) refuses
content d m (Bad k) = refuses
content d m Endless = refuses

extended : (t : List ℕ) → Told (extended_of t)
unfolding extended_of lengths_of body_of
extended t =
    onward _ t _
    (λ b u. either _
    (onward _ u _
    (λ d v. either _ refuses
    (either _ (onward _ v _ (λ m w. either _ refuses (onward _ w _ (λ l x. either _ refuses (either _ (content d _ _) refuses))))) refuses)))
    refuses)

escape : (t : List ℕ) → Told (escape_of t)
unfolding escape_of
escape t =
    onward _ t _
    (λ b u. either _ (designation _ _ _ u)
    (either _ (designation _ _ _ u)
    (either _ (designation _ _ _ u) (either _ (multi_octet_lem u) (either _ (extended u) (either _ refuses refuses))))))

csi : (t : List ℕ) → Told (csi_of t)
unfolding csi_of begin_of
csi t =
    let begin : (k : ℕ) (u : List ℕ) → Told (begin_of k u) = λ k u. onward _ u _ (λ b v. either _ (gives 0) refuses) in
    onward _ t _ (λ b u. either _ (gives 0) (either _ (begin _ u) (either _ (begin _ u) refuses)))

begun : (c : Start) (b : ℕ) (t : List ℕ) (s : Sets) → Told (begun_by c b t s)
unfolding begun_by
begun start.escape b t s = escape t
begun start.mark b t s = csi t
begun start.tab b t s = gives 0
begun start.newline b t s = gives 0
begun start.space b t s = gives 0
begun (start.one d) b t s = gives 0
begun (start.two d) b t s = second _ b t
begun start.unused b t s = refuses

shape : (t : List ℕ) (s : Sets) → Told (shape_of t s)
unfolding shape_of
shape [] s = nothing
shape (b ∷ t) s = begun (start_in s b) b t s

-- an element under a state, by the directions before and after it
pub data Leads (st : State) : Element → Type 0 where
  ends : Leads st End
  stops : {n o : ℕ} → Leads st (Refused n o)
  keeps : {k : ℕ} {next : State} → next.directions ≡ st.directions → Leads st (Silent k next)
  steps : {p : Part} {next : State} (n : ℕ) → step_of (counts_as_text p.kind n) p.kind st.directions ≡ Goes next.directions
      → Leads st (Found p next)

module _ (st : State) where
  stepped : (p : Part) (n : ℕ) (x : Step) → step_of (counts_as_text p.kind n) p.kind st.directions ≡ x → Leads st (stepped_of p st x)
  unfolding stepped_of
  stepped p n (Goes d) e = steps n e
  stepped p n (Stops r) e = stops

  directed : {x : Shape} → Told x → Leads st (directed_of x st)
  unfolding directed_of
  directed nothing = ends
  directed refuses = stops
  directed designates = keeps refl
  directed (gives {k} {set} {code} {skip} {octets} n) = stepped (part k set code skip octets (counts_as_text k n)) n _ refl

pub element_leads : (t : List ℕ) (st : State) → Leads st (element_of t st)
element_leads t st = directed st (shape t st.sets)
