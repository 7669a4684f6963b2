-- A reader that keeps hold of the string: what it hands out, and the whole reader afterwards.
use Rattle.std.specs.Prelude.{ℕ, zero, suc, ◌+◌, ◌≡◌, List, [], ◌∷◌, ltb, length, Result, Ok, Err}
use Rattle.std.specs.Borrow.{Bor}
use Rattle.base.specs.Choice.{pick, from}
use Rattle.base.specs.Limit as limit
use Rattle.base.specs.declared.Answer.{Answer}
use Rattle.base.specs.declared.Unit.{Unit as UnitRecord}
use Rattle.state.specs.State.{fresh}
use Rattle.state.specs.Elements.{Refused}
use Rattle.element.specs.Element.{element_of}
use Rattle.grammar.specs.Reading.{elements_of, stop_of}
use Rattle.units.specs.Records.{records_of}
use Rattle.reader.specs.Step.{step_at}
use Rattle.reader.specs.declared.Reader.{Reader}
use Rattle.reader.specs.declared.Stepped.{Stepped}

-- a reader at the start of a string, in the fresh state (rule S2)
abbrev pub opened : Bor (List ℕ) → Reader
opened s = record { octets = s; place = 0; count = 0; state = fresh }

-- the step of a reader
abbrev pub reader_step : Reader → Stepped
reader_step r = step_at r.octets.now r.place r.count r.state

abbrev pub item_at : Reader → Result UnitRecord Answer
item_at r = (reader_step r).item

-- the reader after it, which holds the same string
abbrev pub moved : Reader → Reader
moved r = record { octets = r.octets; place = (reader_step r).place; count = (reader_step r).count; state = (reader_step r).state }

-- the reader after k steps
unfoldable pub reader_after : ℕ → Reader → Reader
reader_after zero r = r
reader_after (suc k) r = moved (reader_after k r)

-- the reader that has handed out all units of a string, and the answer: it stands where the reading stops (rule U7)
abbrev pub at_stop : Bor (List ℕ) → Reader
at_stop s =
    let z = stop_of fresh (elements_of s.now) in
    record { octets = s; place = z.place; count = length (records_of s.now); state = z.state }

-- a reader stands at the start of an element that is refused with the number of an answer, by the octet at the answer's place
pub record AtRefused (r : Reader) (a : Answer) : Type 0 where
  pub offset : ℕ
  pub refuses : element_of (from r.place r.octets.now) r.state ≡ Refused a.number offset
  pub offends : r.place + offset ≡ a.place

-- item k of units that are handed out one after the other, with the answer from then on
unfoldable pub item_of : ℕ → List UnitRecord → Answer → Result UnitRecord Answer
item_of k [] a = Err a
item_of zero (u ∷ us) a = Ok u
item_of (suc k) (u ∷ us) a = item_of k us a

-- the units that a reader opened on a string hands out: none where the string is too long (rules U7, U8)
unfoldable pub units_before : List ℕ → List UnitRecord
units_before s = pick (ltb limit.octets (length s)) [] (records_of s)
