-- An element that is not refused is the same where neither a mark nor text was read before (`same_element`): its shape does not know the
-- directions, and the direction rule then lets every unit pass that it lets pass at all, with the same directions open after it. So a cursor
-- keeps the sets and the open directions alone.
use Rattle.element.proofs.Names.{ℕ, ◌≡◌, refl, Bool, true, false, List, pick, directions, written_of, deeper_of, begun_of, reverted_of, step_of, State}
use Rattle.element.proofs.Names.{Directions, Step, Goes, Stops, Part, Shape, Refuses, Designates, Gives, Element, End, Refused, Silent, Found}
use Rattle.state.specs.State.{directed_to}
use Rattle.state.specs.Elements.{Ends}
use Rattle.element.specs.Element.{shape_of, stepped_of, directed_of, element_of}
use Rattle.cursor.specs.Cursor.{flagged, kept}

-- a state, and what a cursor keeps of it
pub data Like (st : State) : State → Type 0 where
  like : Like st (kept st)

pub same_sets_lem : {st to : State} → Like st to → st.sets ≡ to.sets
same_sets_lem like = refl

-- the state after text
abbrev pub texted : State → State
texted st = directed_to (directions st.directions.depth st.directions.levels st.directions.marked true) st

-- ---- a step

abbrev unread : Directions → Directions
unread d = directions d.depth d.levels false false

-- a step, and one that goes to the same open directions
data Going : Step → Step → Type 0 where
  stops : {n : ℕ} {y : Step} → Going (Stops n) y
  goes : {d : Directions} {marked texted : Bool} → Going (Goes d) (Goes (directions d.depth d.levels marked texted))

both : (b : Bool) {x y z w : Step} → Going x z → Going y w → Going (pick b x y) (pick b z w)
unfolding pick
both true h k = h
both false h k = k

either : (b : Bool) {x y z : Step} → Going x z → Going y z → Going (pick b x y) z
unfolding pick
either true h k = h
either false h k = k

module _ (d : Directions) where
  -- text, a mark that begins, and one that reverts
  written_goes : {marked texted : Bool} → Going (written_of d) (Goes (directions d.depth d.levels marked texted))
  unfolding written_of
  written_goes = either _ (either _ stops goes) goes

  same_written : Going (written_of d) (written_of (unread d))
  unfolding written_of pick
  same_written = written_goes {marked = false} {texted = true}

  same_deeper : (way : ℕ) → Going (deeper_of way d) (deeper_of way (unread d))
  unfolding deeper_of
  same_deeper way = both _ goes stops

  same_begun : (way : ℕ) → Going (begun_of way d) (begun_of way (unread d))
  unfolding begun_of pick
  same_begun way = either d.marked (same_deeper way) (either d.texted stops (same_deeper way))

  same_reverted : Going (reverted_of d) (reverted_of (unread d))
  unfolding reverted_of
  same_reverted = both _ stops goes

  same_step : (x : Bool) (k : ℕ) → Going (step_of x k d) (step_of x k (unread d))
  unfolding step_of
  same_step x k = both _ same_written (both _ (same_begun 0) (both _ (same_begun 1) (both _ same_reverted goes)))

-- ---- an element

-- an element, and the same with other flags
pub data Same : Element → Element → Type 0 where
  refused : {n o : ℕ} {e : Element} → Same (Refused n o) e
  ended : Same End End
  silent : {k : ℕ} {next : State} → Same (Silent k next) (Silent k (kept next))
  found : {p : Part} {next : State} {marked texted : Bool} → Same (Found p next) (Found p (flagged marked texted next))

stepped : (p : Part) (st : State) {x y : Step} → Going x y → Same (stepped_of p st x) (stepped_of p (kept st) y)
unfolding stepped_of
stepped p st stops = refused
stepped p st goes = found

directed : (x : Shape) (st : State) → Same (directed_of x st) (directed_of x (kept st))
unfolding directed_of
directed Ends st = ended
directed (Refuses n o) st = refused
directed (Designates k d c) st = silent
directed (Gives p) st = stepped p st (same_step st.directions p.text p.kind)

pub same_element : (t : List ℕ) (st : State) → Same (element_of t st) (element_of t (kept st))
same_element t st = directed (shape_of t st.sets) st
