-- What the archive reader passes at once, as its code finds it. How far it goes is left to the program. That what is passed are as many elements of the
-- reader is what each function ensures, where what it was lent is the table (`Reaches`, `LeadsBy`), so that nothing here has to be believed.
use Rattle.std.specs.Prelude.{ℕ, ◌+◌, ◌-◌, ◌≤◌, ◌<◌, ◌≡◌, Bool, true, false, List, leb, ltb, length, get_or, take, drop}
use Rattle.base.specs.Choice.{pick, from}
use Rattle.grammar.specs.Reading.{elements, answer_of}
use Rattle.octet_table.specs.Table.{rule_of, row_of, table}
use Rattle.state.specs.State.{state}
use Rattle.state.specs.declared.Sets.{Sets}
use Rattle.state.specs.declared.State.{State}
use Rattle.state.specs.declared.directions.Directions.{Directions}
use Rattle.stretch.specs.Characters.{settled_of}

-- from a place under a state to another under a state stand n units: what is answered from the one on is what is answered from the other on
pub record Leads (s : List ℕ) (at : ℕ) (st : State) (i : ℕ) (to : State) (n : ℕ) : Type 0 where
  pub since : at + n ≤ i
  pub within : i ≤ length s
  pub same : (count : ℕ) → answer_of (count + n) (elements (from i s) 0 i to) ≡ answer_of count (elements (from at s) 0 at st)

-- and they leave the state as it is
abbrev pub Leaves : State → List ℕ → ℕ → ℕ → ℕ → Type 0
Leaves st s at i n = Leads s at st i st n

-- nothing but designations stands from a place under sets to another under sets, whatever the directions
pub record Places (s : List ℕ) (at : ℕ) (a : Sets) (i : ℕ) (b : Sets) : Type 0 where
  pub since : at ≤ i
  pub within : i ≤ length s
  pub leads : (d : Directions) → Leads s at (state a d) i (state b d) 0

-- from a place under sets to another under sets, whatever the directions that text leaves as they are, where t is the table
pub record Reaches (t s : List ℕ) (at : ℕ) (a : Sets) (i : ℕ) (b : Sets) (n : ℕ) : Type 0 where
  pub since : at + n ≤ i
  pub within : i ≤ length s
  pub leads : t ≡ table → (d : Directions) → settled_of d ≡ true → Leads s at (state a d) i (state b d) n

-- the same of one state and another
pub record LeadsBy (t s : List ℕ) (at : ℕ) (st : State) (i : ℕ) (to : State) (n : ℕ) : Type 0 where
  pub since : at + n ≤ i
  pub within : i ≤ length s
  pub leads : t ≡ table → Leads s at st i to n

-- the row that starts at an entry
abbrev pub row_at : ℕ → List ℕ → List ℕ
row_at row t = take 256 (drop row t)

-- the octet at a place is of the class of this number
pub record Classed (row : ℕ) (s : List ℕ) (at k : ℕ) : Type 0 where
  pub inside : at < length s
  pub octet : get_or s at 0 < 256
  pub is : k ≡ rule_of (row + get_or s at 0)

-- a class of text, by its number
unfoldable pub text_class : ℕ → Bool
text_class k = pick (leb k 1) true (pick (ltb k 4) false (leb k 6))

-- text is next at a place
pub record TextAt (a : Sets) (s : List ℕ) (at : ℕ) : Type 0 where
  pub number : ℕ
  pub classed : Classed (row_of a) s at number
  pub text : text_class number ≡ true

-- four octets are left at a place, the first of them 1B
pub record EscapeAt (s : List ℕ) (at : ℕ) : Type 0 where
  pub four : 4 ≤ length s - at
  pub escape : get_or s at 0 ≡ 0x1B
