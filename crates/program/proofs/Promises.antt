-- What is printed (rules P2, P3): of an accepted string of up to 909 units an accepted string of the same reading, and none is
-- shorter (`printed_shortest`); of one of more units 12 at 0 (`printed_more`); of a refused string its refusal (`printed_refused`), which
-- for more than 65,535 octets is 1 at 0 (`printed_too_long`).
use Rattle.element.proofs.Names.{ℕ, ◌≤◌, ◌<◌, arith, ◌≡◌, ap, ap₂, sym, ◌∙◌, subst, List, [], some, length, lt-ltb, refused_at, pick, Answer}
use Rattle.element.proofs.Names.{UnitRecord, fresh}
use Rattle.base.specs.Limit as limit
use Rattle.base.specs.Refusal as refusal
use Rattle.grammar.specs.Reading.{ReadAs, check_of}
use Rattle.grammar.specs.Records.{list_reading}
use Rattle.grammar.specs.Units.{TextUnit}
use Rattle.shortest.specs.Demand.{Least}
use Rattle.shortest.specs.Outcome.{Served, short_work}
use Rattle.shortest.specs.Writing.{cost, writing}
use Rattle.shortest.proofs.Records.{ReadList, read_list, reading_length}
use Rattle.shortest.proofs.Shortest.{shortest}
use Rattle.units.specs.Records.{records_of}
use Rattle.units.proofs.Records.{records_read}
use Rattle.refusal_line.specs.Line.{refusal_line}
use Rattle.program.specs.Printed.{room, printed_of}
use Rattle.program.proofs.Whole.{printed_line, line_of_check, known, form, form_length}

-- an accepted string
module _ (s : List ℕ) (us : List TextUnit) (r : ReadAs s us) where
  abbrev rs : List UnitRecord
  rs = records_of s

  reading_is : list_reading s rs ≡ some us
  reading_is = records_read s ∙ ap (λ (vs : List TextUnit). some vs) r.reading

  counts : length us ≡ length rs
  counts = reading_length s rs us reading_is

  list : ReadList s rs us
  list = read_list s rs us s reading_is r

  pub printed_shortest : length us ≤ 909 → Least us (length (printed_of s)) (printed_of s)
  printed_shortest few =
      let v : Served rs s room us = record { list = list.short; none = list.none; room = omega (arith, counts, few); reading = reading_is } in
      let is : printed_of s ≡ writing us fresh.sets = form s r.accepted us v list.within in
      let n : cost us fresh.sets ≡ length (printed_of s) = form_length s r.accepted us v list.within in
      subst (λ (k : ℕ). Least us k (printed_of s)) n (subst (Least us (cost us fresh.sets)) (sym is) (shortest us s r))

  pub printed_more : 909 < length us → printed_of s ≡ refusal_line refusal.no_work_room 0
  printed_more more =
      printed_line s refusal.no_work_room 0 0 (known s r.accepted (short_work list.short list.none (omega (arith, counts, more)))) (λ e. omega arith)

-- a refused string
pub printed_refused : (s : List ℕ) → ((check_of s).number ≡ refusal.accepted → ⊥) → printed_of s ≡ refusal_line (check_of s).number (check_of s).place
printed_refused s z = (line_of_check s z []).printed

pub printed_too_long : (s : List ℕ) → limit.octets < length s → printed_of s ≡ refusal_line refusal.too_long 0
unfolding check_of pick
printed_too_long s h =
    let is : check_of s ≡ refused_at refusal.too_long 0 = rw (lt-ltb limit.octets (length s) h) in
    let number = ap (λ (a : Answer). a.number) is in
    printed_refused s (λ e. let z : refusal.too_long ≡ refusal.accepted = sym number ∙ e in omega arith)
    ∙ ap₂ refusal_line number (ap (λ (a : Answer). a.place) is)
