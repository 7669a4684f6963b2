-- The n octets of a segment: what the reader says of a name and the text after it, octet by octet, is what the grammar says of them.
use Rattle.element.proofs.Names.{ℕ, suc, ◌+◌, ◌-◌, ◌≤◌, arith, add-one, ◌≡◌, List, [], ◌∷◌, eqb, length, eqb-true, le-leb, pick, test, tested, Bool}
use Rattle.element.proofs.Names.{true, false, ◌&&◌, leb, ◌%◌, Shape, Refuses, Gives}
use Rattle.base.specs.Refusal as refusal
use Rattle.segment.specs.Segment.{segment_part, name_octet_of, name_of, text_width_of, whole_of, content_of}
use Rattle.segment.specs.Segment.{Ends}
use Rattle.grammar.specs.Units.{text_octets, segment}

-- a segment of n octets with so many octets of text: the grammar has it, and the reader gives its unit; or neither, and the refusal has some place
pub data Content (d n text : ℕ) : Bool → Shape → Type 0 where
  right : Content d n text true (Gives (segment_part d n text))
  wrong : {o : ℕ} → Content d n text false (Refuses refusal.bad_segment o)

module _ (d n : ℕ) where
  -- the text after the name
  after_name : (k : ℕ) (xs : List ℕ) → 1 ≤ k → n - k - 1 ≡ length xs
      → Content d n (length xs) (leb 1 k && eqb (length xs % text_width_of d) 0) (content_of d n (Ends k))
  unfolding content_of whole_of pick
  after_name k xs h m = rw (le-leb 1 k h, m) (test (eqb (length xs % text_width_of d) 0) (λ e. rw e right) (λ e. rw e wrong))

  pub content : (xs : List ℕ) (k : ℕ) → n ≡ k + length xs → Content d n (text_octets xs) (segment d k xs) (content_of d n (name_of xs k))
  unfolding name_of segment text_octets content_of pick
  content [] k h = wrong
  content (x ∷ xs) k h =
      test (eqb x 2)
      (λ a. test (eqb k 0) (λ e. rw (a, eqb-true k 0 e) wrong) (λ e. rw (a, e) (after_name k xs (omega tested) (omega arith))))
      (λ a. test (name_octet_of x) (λ c. rw (a, c, add-one k) (content xs (suc k) (omega arith))) (λ c. rw (a, c) wrong))
