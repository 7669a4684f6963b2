-- A turn of the loop of `whole`: what it passes at once leads on (`turn_on`): tabs and newlines, whatever the state (`blanks_lead`), and text that
-- is next, where neither text nor a mark was read, with text marked as read (`begun_leads`). The other turns are those of the first reader's check
-- (check_string/proofs/Turn), under the condition that what is lent is the table (`designates_by`, `goes_by`).
use Rattle.element.proofs.Names.{ℕ, ◌+◌, ◌-◌, ◌≤◌, arith, ◌≡◌, refl, ap, ◌∙◌, true, false, false≢true, List, [], ◌∷◌, leb, length, get_or, le-leb}
use Rattle.element.proofs.Names.{from, from_octet, pick, pick_by, directions, written_of, step_of, next, get, State, Sets, Directions, Part, Shape}
use Rattle.element.proofs.Names.{Side, Step, Refuses, Designates, Gives, Goes, form_94x94, sym, fresh, designated_of}
use Rattle.base.proofs.Bools.{up_to, up_to_where, implies}
use Rattle.state.specs.State.{directed_to}
use Rattle.text.specs.Text.{graphic_of, second_octet_of}
use Rattle.element.specs.Element.{shape_of, stepped_of, directed_of, element_of}
use Rattle.element.proofs.Sizes.{found, silent}
use Rattle.element.specs.Start.{Start, start_of, left_start, character_start, used_in, start_in, begun_by}
use Rattle.element.specs.Start as start
use Rattle.grammar.specs.Reading.{size, elements, onward, answer_of}
use Rattle.grammar.proofs.Places.{refused_within, step_passed}
use Rattle.check_string.proofs.Turn.{Head, head_first, turn_designates, turn_goes}
use Rattle.octet_stretches.specs.Stretched.{Ones}
use Rattle.octet_table.specs.Table.{number_of, rule_of, row_of, table}
use Rattle.stretch.specs.Characters.{gl_octet, gr_octet, single_of, one_at}
use Rattle.stretch.proofs.Starts.{blank_octet}
use Rattle.archive_laws.specs.Passes.{Leads, LeadsBy, Leaves, TextAt, text_class, row_at}
use Rattle.archive_laws.proofs.Passes.{leaves_one, ones_leads, number_is, entry_rule}

-- what is left answers what the whole string does, where t is the table; the bounds hold in any case
pub record HeadBy (t s : List ℕ) (at count : ℕ) (st : State) : Type 0 where
  pub within : at ≤ length s
  pub few : count ≤ at
  pub head : t ≡ table → Head s at count st

pub first_by : (t s : List ℕ) → HeadBy t s 0 0 fresh
first_by t s = record { within = omega arith; few = omega arith; head = λ _. head_first s }

leads_head : (s : List ℕ) (at count : ℕ) (st : State) → Head s at count st → (i n : ℕ) (to : State) → Leads s at st i to n
    → Head s i (count + n) to
leads_head s at count st h i n to l =
    record { within = l.within; few = omega (arith, h.few, l.since); same = l.same count ∙ h.same }

-- the two that a turn passes at once, one after the other
pub turn_on : (t s : List ℕ) (at count : ℕ) (st : State) → HeadBy t s at count st → (to : State) → (t ≡ table → Leads s at st at to 0)
    → (i n : ℕ) (too : State) → LeadsBy t s at to i too n → HeadBy t s i (count + n) too
turn_on t s at count st h to a i n too b =
    let e : count + 0 ≡ count = omega arith in
    record {
      within = b.within;
      few = omega (arith, h.few, b.since);
      head = λ is. leads_head s at count to (rw e at (leads_head s at count st (h.head is) at 0 to (a is))) i n too (b.leads is);
    }

-- ---- an element by itself: what it leads to is that of the first reader's turn, and its bounds are those of any element

-- an element of k octets, after which the count is m
pub record NextBy (t s : List ℕ) (at k m : ℕ) (next : State) : Type 0 where
  pub some : 1 ≤ k
  pub fits : at + k ≤ length s
  pub head : HeadBy t s (at + k) m next

module _ (t s : List ℕ) (at count : ℕ) (st : State) (h : HeadBy t s at count st) (sh : Shape) (is : sh ≡ shape_of (from at s) st.sets) where
  formed : directed_of sh st ≡ element_of (from at s) st
  formed = ap (λ x. directed_of x st) is

  pub refuses_fits : {n o : ℕ} → sh ≡ Refuses n o → at + o ≤ length s
  unfolding directed_of
  refuses_fits k = refused_within s at st _ formed (ap (λ x. directed_of x st) k)

  pub designates_by : {k c : ℕ} {d : Side} → sh ≡ Designates k d c → NextBy t s at k count (designated_of d c st)
  unfolding directed_of
  designates_by k =
      let x = step_passed s at st _ formed silent (ap (λ x. directed_of x st) k) in
      record {
        some = x.some;
        fits = x.fits;
        head =
            record {
              within = x.fits;
              few = omega (arith, h.few);
              head = λ e. (turn_designates s at count st (h.head e) sh is k).head;
            };
      }

  pub goes_by : {p : Part} {step : Step} {d : Directions} → sh ≡ Gives p → step ≡ step_of p.text p.kind st.directions → step ≡ Goes d
      → NextBy t s at (size p) (count + 1) (directed_to d st)
  unfolding directed_of stepped_of
  goes_by {p} k rule goes =
      let x = step_passed s at st _ formed found (ap (λ x. directed_of x st) k ∙ ap (stepped_of p st) (sym rule ∙ goes)) in
      record {
        some = x.some;
        fits = x.fits;
        head =
            record {
              within = x.fits;
              few = omega (arith, h.few, x.some);
              head = λ e. (turn_goes s at count st (h.head e) sh is k rule goes).head;
            };
      }

-- ---- tabs and newlines

-- of the row of two octets in GL and GR they alone are units of one octet: a test that antt computes
blank_rule : up_to 256 (λ b. implies (leb (rule_of (1280 + b)) 4) (single_of form_94x94 0 b)) ≡ true
unfolding rule_of number_of start_of left_start character_start used_in graphic_of single_of gl_octet gr_octet pick
blank_rule = refl

pub blanks_lead : (t : List ℕ) → t ≡ table → (st : State) (s : List ℕ) (at i : ℕ) → at ≤ length s → Ones (row_at 1280 t) s at i
    → Leaves st s at i (i - at)
unfolding one_at
blanks_lead t is st s at i h o =
    ones_leads (row_at 1280 t) st s
    (λ j l b k.
    let r = entry_rule t 1280 s is (omega arith) (get_or s j 0) b in
    let e = up_to_where 256 (λ x. leb (rule_of (1280 + x)) 4) (λ x. single_of form_94x94 0 x) blank_rule (get_or s j 0) b (le-leb _ _ (rw r at k)) in
    leaves_one st s j 1 (rw (from_octet s j l) (blank_octet st (get_or s j 0) (from (j + 1) s) e)))
    at i h o

-- ---- text, where no mark was read

-- the directions after text
abbrev pub texted : Directions → Directions
texted d = directions d.depth d.levels d.marked true

-- a shape that is refused, or gives text
data Textual : Shape → Type 0 where
  refuses : {n o : ℕ} → Textual (Refuses n o)
  gives : {p : Part} → p.text ≡ true → Textual (Gives p)

second_textual : (set b : ℕ) (t : List ℕ) → Textual (second_octet_of set b t)
unfolding second_octet_of next
second_textual set b [] = refuses
second_textual set b (y ∷ t) =
    pick_by Textual _ (λ _. pick_by Textual _ (λ _. gives refl) (λ _. refuses)) (λ _. refuses)

textual : (c : Start) (b : ℕ) (t : List ℕ) (s : Sets) → text_class (number_of c) ≡ true → Textual (begun_by c b t s)
unfolding begun_by number_of text_class pick
textual start.escape b t s h = absurd (false≢true h)
textual start.mark b t s h = absurd (false≢true h)
textual start.tab b t s h = absurd (false≢true h)
textual start.newline b t s h = absurd (false≢true h)
textual start.space b t s h = gives refl
textual start.unused b t s h = absurd (false≢true h)
textual (start.one d) b t s h = gives refl
textual (start.two d) b t s h = second_textual (get d s) b t

-- is the same element with text marked as read
module _ (st : State) (unmarked : st.directions.marked ≡ false) where
  abbrev to : State
  to = directed_to (texted st.directions) st

  goes : written_of st.directions ≡ Goes (texted st.directions)
  unfolding written_of pick
  goes = rw unmarked

  goes_on : written_of to.directions ≡ Goes (texted st.directions)
  unfolding written_of pick
  goes_on = rw unmarked

  same_directed : {x : Shape} → Textual x → directed_of x to ≡ directed_of x st
  unfolding directed_of step_of stepped_of pick
  same_directed refuses = refl
  same_directed (gives {p} e) = rw (e, goes, goes_on)

  pub begun_leads : (s : List ℕ) (at : ℕ) → TextAt st.sets s at → Leads s at st at to 0
  unfolding elements shape_of
  begun_leads s at h =
      let c = h.classed in
      let n = number_is st.sets (get_or s at 0) (row_of st.sets) h.number c.octet refl c.is in
      let e = same_directed (textual (start_in st.sets (get_or s at 0)) (get_or s at 0) (from (at + 1) s) st.sets (rw n h.text)) in
      record {
        since = omega arith;
        within = omega (arith, c.inside);
        same = λ count.
            let z : count + 0 ≡ count = omega arith in
            rw (z, from_octet s at c.inside) (ap (λ x. answer_of count (onward at x (λ m next. elements (from (at + 1) s) m (at + 1) next))) e);
      }
