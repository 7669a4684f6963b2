-- Characters and spaces: their octets are all of one side, and they change neither the sets nor the direction in force. By the unit
-- that an element is.
use Rattle.element.proofs.Names.{ℕ, zero, suc, ◌+◌, ◌/◌, ◌%◌, ◌<◌, arith, ◌≡◌, refl, sym, ◌∙◌, Bool, true, false, List, [], ◌∷◌, ◌++◌, eqb, ltb}
use Rattle.element.proofs.Names.{length, get_or, pick, on_lt, on_ge, and_right, form_94x94, no_set, form_of, Side, GL, GR, directions}
use Rattle.element.proofs.Names.{written_of, step_of, clash}
use Rattle.element.proofs.Names.{test, Directions, Goes}
use Rattle.base.specs.Kind as kind
use Rattle.grammar.specs.Units.{Control, tab, newline, ltr, rtl, revert, control_kind, TextUnit, char, space, control, ext, kind_of, wide, top, shown, octets}
use Rattle.grammar.specs.Units.{code_used, good}
use Rattle.grammar.specs.Reading.{direct}
use Rattle.grammar.proofs.Good.{two_code}
use Rattle.state.specs.Directions.{in_force_of}
use Rattle.pieces.specs.PieceKind as piece_kind
use Rattle.pieces.specs.Pieces.{side_kind_of}

-- ---- the side

top_side : (d : Side) (x y : ℕ) → x < 128 → y < 128 → side_kind_of (top d + x) ≡ side_kind_of (top d + y)
unfolding side_kind_of
top_side GL x y h k = sym (on_lt (0 + x) 128 piece_kind.gl_run _ _ (omega arith) refl) ∙ on_lt (0 + y) 128 piece_kind.gl_run _ _ (omega arith) refl
top_side GR x y h k = sym (on_ge (128 + x) 128 piece_kind.gr_run _ _ (omega arith) refl) ∙ on_ge (128 + y) 128 piece_kind.gr_run _ _ (omega arith) refl

-- the octets of a list are of the side of its first
abbrev OneSide : List ℕ → List ℕ → Type 0
OneSide w t = (i : ℕ) → i < length w → side_kind_of (get_or (w ++ t) i 0) ≡ side_kind_of (get_or (w ++ t) 0 0)

one_octet : (x : ℕ) (t : List ℕ) → OneSide (x ∷ []) t
one_octet x t zero h = refl
one_octet x t (suc i) h = absurd (omega arith)

two_octets : (x y : ℕ) (t : List ℕ) → side_kind_of y ≡ side_kind_of x → OneSide (x ∷ y ∷ []) t
two_octets x y t e zero h = refl
two_octets x y t e (suc zero) h = e
two_octets x y t e (suc (suc i)) h = absurd (omega arith)

char_side : (w : Bool) (f : ℕ) (d : Side) (k : ℕ) (t : List ℕ) → eqb f form_94x94 ≡ w → code_used f k ≡ true → OneSide (shown w (top d) k) t
char_side false f d k t e g = one_octet (top d + k) t
char_side true f d k t e g =
    let b = two_code f k e g in
    two_octets (top d + k / 256) (top d + k % 256) t (top_side d (k % 256) (k / 256) (omega (arith, b.1)) (omega (arith, b.0)))

pub no_text : (x : Control) → control_kind x < 2 → ⊥
no_text tab h = omega arith
no_text newline h = omega arith
no_text ltr h = omega arith
no_text rtl h = omega arith
no_text revert h = omega arith

-- the octets of a character or a space
pub text_side : (d : Side) (u : TextUnit) (t : List ℕ) → good u ≡ true → kind_of u < 2 → OneSide (octets d u) t
unfolding octets good wide
text_side d (char c k) t g h = char_side (eqb (form_of c) form_94x94) (form_of c) d k t refl (and_right (ltb c no_set) _ g)
text_side d space t g h = one_octet 0x20 t
text_side d (control x) t g h = absurd (no_text x h)
text_side d (ext e xs) t g h = absurd (omega arith)

-- ---- what is in force

abbrev texted : Directions → Directions
texted d = directions d.depth d.levels d.marked true

-- what the direction rule lets pass, and where
pub written_goes : (d next : Directions) → written_of d ≡ Goes next
    → (texted d ≡ next) × (pick d.marked (pick (eqb d.depth 0) false true) true ≡ true)
unfolding written_of pick
written_goes d next e =
    test d.marked
    (λ m. test (eqb d.depth 0) (λ z. clash (cc (rw (m, z) at e))) (λ z. rw (m, z) (cc (rw (m, z) at e), refl)))
    (λ m. rw m (cc (rw m at e), refl))

written_keeps : (k : ℕ) (d next : Directions) → step_of true k d ≡ Goes next → in_force_of next ≡ in_force_of d
unfolding step_of in_force_of pick
written_keeps k d next e = rw (← (written_goes d next e).0)

-- the step of a character or a space
pub text_keeps : (u : TextUnit) (d next : Directions) → kind_of u < 2 → direct d u ≡ Goes next → in_force_of next ≡ in_force_of d
text_keeps (char c k) d next h e = written_keeps kind.character d next e
text_keeps space d next h e = written_keeps kind.space d next e
text_keeps (control x) d next h e = absurd (no_text x h)
text_keeps (ext x xs) d next h e = absurd (omega arith)
