-- What the tests of a good unit say: the bounds of a character's code, by the form of its set, and those of a segment.
use Rattle.element.proofs.Names.{ℕ, ◌/◌, ◌%◌, ◌≤◌, arith, ◌≡◌, Bool, true, false, cond, ◌&&◌, List, eqb, leb, length, from-tests, form_96, form_94x94}
use Rattle.text.specs.Text.{graphic_of}
use Rattle.grammar.specs.Units.{ext, code_used, segment, most_of_segment, good}
use Rattle.element.proofs.Starts.{graphic_low}

pub one_code : (f k : ℕ) → eqb f form_94x94 ≡ false → code_used f k ≡ true → k ≤ 0x7F
unfolding code_used
one_code f k n u = go (eqb f form_96) (rw n at u)
  where
    go : (b : Bool) → cond b (leb 0x20 k && leb k 0x7F) (graphic_of k) ≡ true → k ≤ 0x7F
    go true v = search from-tests
    go false v = let a = graphic_low k v in omega arith

pub two_code : (f k : ℕ) → eqb f form_94x94 ≡ true → code_used f k ≡ true → (k / 256 ≤ 0x7F) × (k % 256 ≤ 0x7F)
unfolding code_used
two_code f k n u =
    let v : (graphic_of (k / 256) && graphic_of (k % 256)) ≡ true = rw n at u in
    let a = graphic_low (k / 256) (search from-tests) in
    let b = graphic_low (k % 256) (search from-tests) in
    (omega arith, omega arith)

pub record GoodSegment (e : ℕ) (xs : List ℕ) : Type 0 where
  pub low : 0x30 ≤ e
  pub high : e ≤ 0x34
  pub few : length xs ≤ most_of_segment
  pub content : segment e 0 xs ≡ true

pub good_segment : (e : ℕ) (xs : List ℕ) → good (ext e xs) ≡ true → GoodSegment e xs
unfolding good
good_segment e xs g = search from-tests
