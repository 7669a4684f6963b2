-- The unit of a row by its tag: a character or space, a segment, a mark; and the octets of a segment's part.
use Rattle.element.proofs.Names.{ℕ, ◌+◌, ◌≤◌, ◌<◌, arith, ◌≡◌, ◌∙◌, false, ◌&&◌, List, length, take, drop, length-take, length-drop, eqb, leb, ltb}
use Rattle.element.proofs.Names.{eq-eqb, lt-ltb, le-ltb, le-leb, lt-leb, ltb-true, ltb-false, ne_eqb, pick, test, tested}
use Rattle.base.proofs.Bools.{and_second}
use Rattle.grammar.specs.Units.{control, revert, ext, control_of}
use Rattle.rows.specs.Rows.{count_of, part_of, text_tagged, mark_tagged, other_tagged, unit_tagged}
use Rattle.rows.specs.Tag as tag

pub part_length : (o : List ℕ) (n s : ℕ) → length (take n (drop s o)) ≡ part_of n s (length o)
part_length o n s = simp (length-take, length-drop) (omega arith)

-- a tag that is no segment's
outside : (t : ℕ) → (tag.segment ≤ t → t < tag.spare → ⊥) → (leb tag.segment t && ltb t tag.spare) ≡ false
outside t n =
    test (ltb t tag.segment) (λ e. rw (lt-leb tag.segment t (ltb-true _ _ e)))
    (λ e. test (ltb t tag.spare) (λ f. absurd (n (ltb-false _ _ e) (ltb-true _ _ f))) (and_second (leb tag.segment t) _))

module _ (o : List ℕ) (t a b s : ℕ) where
  pub other_segment : tag.segment ≤ t → t < tag.spare → other_tagged o t a b s ≡ ext (tag.d + t) (take (count_of a b) (drop s o))
  other_segment h k = rw (le-leb tag.segment t h, lt-ltb t tag.spare k)

  pub other_mark : (tag.segment ≤ t → t < tag.spare → ⊥) → other_tagged o t a b s ≡ mark_tagged t
  other_mark n = rw (outside t n)

  pub unit_other : tag.tab ≤ t → unit_tagged o t a b s ≡ other_tagged o t a b s
  unfolding unit_tagged
  unit_other h = rw (le-ltb t tag.tab h)

  pub unit_text : t < tag.tab → unit_tagged o t a b s ≡ text_tagged t a b
  unfolding unit_tagged
  unit_text h = rw (lt-ltb t tag.tab h)

  pub unit_segment : tag.segment ≤ t → t < tag.spare → unit_tagged o t a b s ≡ ext (tag.d + t) (take (count_of a b) (drop s o))
  unit_segment h k = unit_other (omega arith) ∙ other_segment h k

  pub unit_mark : tag.tab ≤ t → (tag.segment ≤ t → t < tag.spare → ⊥) → unit_tagged o t a b s ≡ mark_tagged t
  unit_mark h n = unit_other h ∙ other_mark n

-- from a revert's tag on, every mark is a revert
pub mark_revert : (t : ℕ) → tag.revert ≤ t → mark_tagged t ≡ control revert
unfolding mark_tagged pick
mark_revert t h =
    rw (
      ne_eqb t tag.tab (λ e. omega arith),
      ne_eqb t tag.newline (λ e. omega arith),
      ne_eqb t tag.left_to_right (λ e. omega arith),
      ne_eqb t tag.right_to_left (λ e. omega arith),
    )

-- the unit of a tag that is a kind's, for the kinds that are neither character, space nor segment
same_test : (k n : ℕ) → eqb (tag.kind + k) (tag.kind + n) ≡ eqb k n
same_test k n =
    test (eqb k n) (λ e. rw e (eq-eqb (tag.kind + k) (tag.kind + n) (omega tested)))
    (λ e. rw e (ne_eqb (tag.kind + k) (tag.kind + n) (λ q. omega tested)))

pub mark_of_kind : (k : ℕ) → mark_tagged (tag.kind + k) ≡ control (control_of k)
unfolding mark_tagged pick
mark_of_kind k =
    rw (same_test k 2, same_test k 3, same_test k 4, same_test k 5)
    (test (eqb k 2) (λ a. rw a)
    (λ a. test (eqb k 3) (λ b. rw (a, b))
    (λ b. test (eqb k 4) (λ c. rw (a, b, c)) (λ c. test (eqb k 5) (λ d. rw (a, b, c, d)) (λ d. rw (a, b, c, d))))))
