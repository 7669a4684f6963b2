-- The ladder's rules for the first octet of an element: down the tests of what it starts, and on to the functions of `text`, whose answers are
-- what a GL or GR octet starts.
use Rattle.element.proofs.Names.{ℕ, ◌+◌, ◌%◌, ◌<◌, ◌≤◌, arith, ◌≡◌, refl, ◌∙◌, ap, Bool, true, false, List, [], ◌∷◌, eqb, length, get_or}
use Rattle.element.proofs.Names.{eqb-true, lt-ltb, le-ltb, ne_eqb, pick, from, test, form_96, form_94x94, form_of, Side, GL, GR, get, Sets, Shape}
use Rattle.element.proofs.Names.{Refuses}
use Rattle.base.specs.Refusal as refusal
use lib.ListN.{take, drop, length-drop}
use lib.Seq.{drop-drop, take_all}
use Prim.Native.Nat.{◌-◌}
use Rattle.base.proofs.Ladder.{octet, ended}
use Rattle.state.proofs.Steps.{steps}
use Rattle.text.specs.Text.{graphic_of}
use Rattle.text.specs.Functions.{character_of, text_of}
use Rattle.element.specs.Element.{shape_of}
use Rattle.element.specs.Start.{Start, one, two, unused, used_in, character_start, left_start, start_of, begun_by}

module _ (s : List ℕ) (at : ℕ) (sets : Sets) (r : Shape) where
  pub on_shape : at < length s → r ≡ shape_of (get_or s at 0 ∷ from (at + 1) s) sets → r ≡ shape_of (from at s) sets
  on_shape h e = octet (λ (t : List ℕ). shape_of t sets) s at r h e

  pub on_shape_end : length s ≤ at → r ≡ shape_of [] sets → r ≡ shape_of (from at s) sets
  on_shape_end h e = ended (λ (t : List ℕ). shape_of t sets) s at r h e

-- the octets from a place on, lent as a part of the string
pub rest : (s : List ℕ) (at k : ℕ) → from k (take (length s - at) (drop at s)) ≡ from (at + k) s
unfolding from
rest s at k = ap (drop k) (take_all (length s - at) (drop at s) (rw (length-drop at s) (omega arith))) ∙ drop-drop k at s

module _ (b : ℕ) (t : List ℕ) (s : Sets) where
  pushed : (q : Bool) (x y : Start) → pick q (begun_by x b t s) (begun_by y b t s) ≡ begun_by (pick q x y) b t s
  unfolding pick
  pushed true x y = refl
  pushed false x y = refl

  character : (d : Side) → character_of (get d s) b t ≡ begun_by (character_start d (form_of (get d s)) b) b t s
  unfolding character_of character_start used_in begun_by pick
  character d =
      test (eqb (form_of (get d s)) form_96) (λ e. rw (eqb-true (form_of (get d s)) form_96 e))
      (λ e. rw e (ap (λ (x : Shape). pick (graphic_of (b % 128)) x (begun_by unused b t s)) (pushed (eqb (form_of (get d s)) form_94x94) (two d) (one d))
      ∙ pushed (graphic_of (b % 128)) _ unused))

  -- 7F
  pub on_delete : b ≡ 0x7F → Refuses refusal.unused 0 ≡ shape_of (b ∷ t) s
  unfolding shape_of start_of left_start begun_by pick
  on_delete e = rw e

  module _ (r : Shape) where
    pub on_test : (q : Bool) (x y : Start) → r ≡ pick q (begun_by x b t s) (begun_by y b t s) → r ≡ begun_by (pick q x y) b t s
    on_test q x y e = e ∙ pushed q x y

    pub on_left : b < 0x80 → (b ≡ 0x7F → ⊥) → r ≡ text_of b t s → r ≡ begun_by (left_start (form_of s.gl) b) b t s
    unfolding text_of left_start begun_by pick
    on_left h n e =
        e ∙ test (eqb b 0x20) (λ q. rw q (pushed (eqb (form_of s.gl) form_94x94) _ _)) (λ q. rw (q, lt-ltb b 0x80 h, ne_eqb b 0x7F n) (character GL))

    pub on_right : 0x80 ≤ b → r ≡ text_of b t s → r ≡ begun_by (character_start GR (form_of s.gr) b) b t s
    unfolding text_of pick
    on_right h e = e ∙ rw (ne_eqb b 0x20 (λ q. omega arith), le-ltb b 0x80 h) (character GR)

pub ruleset shaping = (on_shape, on_shape_end, on_test, on_left, on_right, steps)
