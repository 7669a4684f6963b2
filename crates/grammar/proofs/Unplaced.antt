-- The reader's definition as it was before request No. 4: a refusal of an element has a number and no offset, so its place is the start of the element.
-- It is kept for the theorem that no number has changed, and that the start of the refused element is the place that was told
-- (`numbers_stay` in grammar/proofs/Numbers).
use Prim.Native.Nat.{ℕ, zero, suc, ◌+◌, ◌*◌, ◌%◌, ◌/◌, ◌-◌}
use mathlib.Core.List.{List, [], ◌∷◌}
use lib.ListN.{length, take}
use lib.Dec.{eqb, leb, ltb}
use Rattle.base.specs.Answers.{refused_at}
use Rattle.base.specs.Choice.{pick}
use Rattle.base.specs.Kind as kind
use Rattle.base.specs.Limit as limit
use Rattle.base.specs.Refusal as refusal
use Rattle.base.specs.declared.Answer.{Answer}
use Rattle.charset.specs.Charsets.{form_94, form_96, form_94x94, no_set, set_of}
use Rattle.charset.specs.declared.Side.{Side, TheVariants.GL, TheVariants.GR}
use Rattle.text.specs.Text.{graphic_of, one_octet_of, two_octets_of, space_of}
use Rattle.segment.specs.Segment.{name_octet_of, text_width_of, segment_part}
use Rattle.segment.specs.Segment.{Name, Ends as NameEnds, Bad, Endless}
use Rattle.state.specs.Elements.{unit}
use Rattle.state.specs.State.{get, fresh}
use Rattle.state.specs.declared.Sets.{Sets}
use Rattle.state.specs.declared.State.{State}
use Rattle.state.specs.Elements.{Shape, Refuses, Designates, Gives}
use Rattle.element.specs.Element.{directed_of}
use Rattle.element.specs.Start.{Start, start_in}
use Rattle.element.specs.Start as start
use Rattle.grammar.specs.Reading.{Elements, end_at, onward, answer_of}

abbrev pub refused : ℕ → Shape
refused n = Refuses n 0

unfoldable pub next : List ℕ → (ℕ → List ℕ → Shape) → Shape
next [] f = refused refusal.cut
next (b ∷ t) f = f b t

-- ---- text

unfoldable pub second : ℕ → ℕ → List ℕ → Shape
second set b t =
    next t
    (λ d _.
    pick (eqb (d / 128) (b / 128)) (pick (graphic_of (d % 128)) (two_octets_of set b d) (refused refusal.unused)) (refused refusal.unused))

-- ---- extended segments

unfoldable pub name : List ℕ → ℕ → Name
name [] k = Bad k
name (b ∷ t) k = pick (eqb b 2) (pick (eqb k 0) (Bad k) (NameEnds k)) (pick (name_octet_of b) (name t (k + 1)) (Bad k))

-- no name was told as endless
unfoldable pub content : ℕ → ℕ → Name → Shape
content d n (NameEnds k) =
    pick (ltb k n)
    (pick (eqb ((n - k - 1) % text_width_of d) 0) (Gives (segment_part d n (n - k - 1))) (refused refusal.bad_segment))
    (refused refusal.bad_segment)
content d n (Bad k) = refused refusal.bad_segment
content d n Endless = refused refusal.bad_segment

unfoldable pub body : ℕ → ℕ → List ℕ → Shape
body d n t = pick (leb n (length t)) (content d n (name (take n t) 0)) (refused refusal.cut)

unfoldable pub lengths : ℕ → List ℕ → Shape
lengths d t =
    next t
    (λ m u.
    pick (ltb m 0x80) (refused refusal.bad_segment)
    (next u (λ l v. pick (ltb l 0x80) (refused refusal.bad_segment) (body d ((m - 128) * 128 + (l - 128)) v))))

unfoldable pub extended : List ℕ → Shape
extended t =
    next t
    (λ b u.
    pick (eqb b 0x2F)
    (next u
    (λ d v. pick (ltb d 0x30) (refused refusal.unknown) (pick (ltb d 0x35) (lengths d v) (refused refusal.unknown))))
    (refused refusal.unknown))

-- ---- control sequences

unfoldable pub intermediates : List ℕ → Shape
intermediates [] = refused refusal.cut
intermediates (b ∷ t) =
    pick (ltb b 0x20) (refused refusal.unknown)
    (pick (ltb b 0x30) (intermediates t)
    (pick (ltb b 0x40) (refused refusal.unknown) (pick (ltb b 0x7F) (refused refusal.not_approved) (refused refusal.unknown))))

unfoldable pub designates : ℕ → Side → ℕ → Shape
designates form side set =
    pick (ltb set no_set)
    (pick (eqb form form_94x94) (Designates 4 side set) (Designates 3 side set))
    (refused refusal.not_approved)

unfoldable pub designation : ℕ → Side → List ℕ → Shape
designation form side t =
    next t
    (λ b u.
    pick (ltb b 0x21) (refused refusal.unknown)
    (pick (ltb b 0x24) (intermediates u)
    (pick (ltb b 0x40) (refused refusal.unknown)
    (pick (ltb b 0x7F) (designates form side (set_of form side b)) (refused refusal.unknown)))))

unfoldable pub multi_octet : List ℕ → Shape
multi_octet t =
    next t
    (λ b u.
    pick (eqb b 0x28) (designation form_94x94 GL u)
    (pick (eqb b 0x29) (designation form_94x94 GR u) (refused refusal.unknown)))

unfoldable pub escape : List ℕ → Shape
escape t =
    next t
    (λ b u.
    pick (eqb b 0x28) (designation form_94 GL u)
    (pick (eqb b 0x29) (designation form_94 GR u)
    (pick (eqb b 0x2D) (designation form_96 GR u)
    (pick (eqb b 0x24) (multi_octet u)
    (pick (eqb b 0x25) (extended u) (pick (eqb b 0x23) (refused refusal.version) (refused refusal.unknown)))))))

unfoldable pub begin : ℕ → List ℕ → Shape
begin k t = next t (λ b _. pick (eqb b 0x5D) (unit k 0 0 3) (refused refusal.unknown))

unfoldable pub csi : List ℕ → Shape
csi t =
    next t
    (λ b u.
    pick (eqb b 0x5D) (unit kind.revert 0 0 2)
    (pick (eqb b 0x31) (begin kind.left_to_right u)
    (pick (eqb b 0x32) (begin kind.right_to_left u) (refused refusal.unknown))))

-- ---- elements, and the string

unfoldable pub begun : Start → ℕ → List ℕ → Sets → Shape
begun start.escape b t s = escape t
begun start.mark b t s = csi t
begun start.tab b t s = unit kind.tab 0 0 1
begun start.newline b t s = unit kind.newline 0 0 1
begun start.space b t s = space_of
begun (start.one d) b t s = one_octet_of (get d s) b
begun (start.two d) b t s = second (get d s) b t
begun start.unused b t s = refused refusal.unused

unfoldable pub elements : List ℕ → ℕ → ℕ → State → Elements
unfolding onward
elements [] k at st = end_at at
elements (b ∷ t) zero at st =
    onward at (directed_of (begun (start_in st.sets b) b t st.sets) st) (λ k next. elements t k (at + 1) next)
elements (b ∷ t) (suc k) at st = elements t k (at + 1) st

unfoldable pub check : List ℕ → Answer
check s = pick (ltb limit.octets (length s)) (refused_at refusal.too_long 0) (answer_of 0 (elements s 0 0 fresh))
