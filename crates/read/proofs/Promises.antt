-- What `read` promises where it accepts, of the list after it: the records that it stores are read as the string is (`list_reads`), their fields
-- that mean nothing are 0 (`list_meant`), and the rest stays (`list_rest`). Where it refuses, the whole list stays (`list_stays`).
use Rattle.element.proofs.Names.{ℕ, arith, ◌≡◌, refl, ap, ◌∙◌, List, some, length, take, drop, take-append_seam, Answer, UnitRecord}
use lib.Seq.{drop-append_seam}
use Rattle.base.specs.Refusal as refusal
use Rattle.grammar.specs.Reading.{check_of, reading_of}
use Rattle.grammar.specs.Records.{list_reading}
use Rattle.units.specs.Records.{records_of, AllMeant}
use Rattle.units.proofs.Records.{records_read, records_meant}
use Rattle.read.specs.Listing.{read_answer, list_after}
use Rattle.read.proofs.Cases.{Case, refuses, lacks, accepts, read_cases}

module _ {s : List ℕ} {old : List UnitRecord} where
  stored : {a : Answer} {l : List UnitRecord} → Case s old a l → a.number ≡ refusal.accepted → take a.count l ≡ records_of s
  stored (refuses f) z = absurd (f z)
  stored (lacks g h) z = absurd (let y : ◌≡◌ {A = ℕ} refusal.no_room refusal.accepted = z in omega arith)
  stored (accepts g c h) z = rw c (take-append_seam (records_of s) (drop (length (records_of s)) old))

  string_accepted : {a : Answer} {l : List UnitRecord} → Case s old a l → a.number ≡ refusal.accepted → (check_of s).number ≡ refusal.accepted
  string_accepted (refuses f) z = z
  string_accepted (lacks g h) z = g
  string_accepted (accepts g c h) z = z

  rest : {a : Answer} {l : List UnitRecord} → Case s old a l → a.number ≡ refusal.accepted → drop a.count l ≡ drop a.count old
  rest (refuses f) z = absurd (f z)
  rest (lacks g h) z = absurd (let y : ◌≡◌ {A = ℕ} refusal.no_room refusal.accepted = z in omega arith)
  rest (accepts g c h) z = rw c (drop-append_seam (records_of s) (drop (length (records_of s)) old))

  untouched : {a : Answer} {l : List UnitRecord} → Case s old a l → (a.number ≡ refusal.accepted → ⊥) → l ≡ old
  untouched (refuses f) n = refl
  untouched (lacks g h) n = refl
  untouched (accepts g c h) n = absurd (n g)

module _ (s : List ℕ) (old : List UnitRecord) where
  abbrev a : Answer
  a = read_answer s (length old)

  -- the records that it stores
  abbrev pub stored_records : List UnitRecord
  stored_records = take a.count (list_after s old)

  -- the list starts with the string's records (rule U6)
  pub list_stored : a.number ≡ refusal.accepted → stored_records ≡ records_of s
  list_stored z = stored (read_cases s old) z

  -- what it accepts `check` accepts
  pub checked : a.number ≡ refusal.accepted → (check_of s).number ≡ refusal.accepted
  checked z = string_accepted (read_cases s old) z

  -- they read as the string (rule U4)
  pub list_reads : a.number ≡ refusal.accepted → list_reading s stored_records ≡ some (reading_of s)
  list_reads z = ap (list_reading s) (list_stored z) ∙ records_read s

  -- each has 0 for what its kind does not use (rule U1)
  pub list_meant : a.number ≡ refusal.accepted → AllMeant stored_records
  list_meant z = rw (list_stored z) (records_meant s)

  -- what follows them stays (rule U6)
  pub list_rest : a.number ≡ refusal.accepted → drop a.count (list_after s old) ≡ drop a.count old
  list_rest z = rest (read_cases s old) z

  -- a refusal leaves the list (rule N7)
  pub list_stays : (a.number ≡ refusal.accepted → ⊥) → list_after s old ≡ old
  list_stays n = untouched (read_cases s old) n
