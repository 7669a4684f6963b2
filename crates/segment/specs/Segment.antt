-- Extended segments (rules E1f, E1g, E2, E4): functions of the octets that are left. An offset in an element counts the six octets
-- `1B 25 2F d M L` as 0 to 5, and the n octets from 6 on; what is wrong is refused at the first octet that shows it (rule N2).
use Rattle.std.specs.Prelude.{ℕ, ◌+◌, ◌*◌, ◌%◌, ◌-◌, Bool, true, false, List, [], ◌∷◌, length, take, eqb, leb, ltb, Result, Ok, Err}
use Rattle.base.specs.Choice.{pick}
use Rattle.base.specs.Refusal as refusal
use Rattle.base.specs.Kind as kind
use Rattle.state.specs.Directions.{counts_as_text}
use Rattle.state.specs.Elements.{part, next}
use Rattle.state.specs.declared.elements.Part.{Part}
use Rattle.state.specs.Elements.{Shape, Refuses, Gives}
use Rattle.segment.specs.declared.BadName.{BadName}
use Rattle.segment.specs.declared.BadName.TheVariants.{Octet, Endless as CodeEndless}

-- where a name ends: before the 02 at a place; it is bad by the octet at a place; or there is no 02, and each octet may be a name's
pub data Name : Type 0 where
  Ends : ℕ → Name
  Bad : ℕ → Name
  Endless : Name

-- this as the code answers it
abbrev pub name_seen : Result ℕ BadName → Name
name_seen (Ok k) = Ends k
name_seen (Err (Octet k)) = Bad k
name_seen (Err CodeEndless) = Endless

-- an octet that a name may have (rule E1g)
unfoldable pub name_octet_of : ℕ → Bool
name_octet_of b =
    pick (ltb b 0x21) false (pick (eqb b 0x2A) false (pick (eqb b 0x3F) false (pick (leb b 0x7E) true (leb 0xA1 b))))

-- the name at the start of a segment's octets, k of which are passed: it ends before the first 02, and has an octet at least. What is bad of it
-- is its first octet that no name may have, which for an empty name is the 02; with no 02 all octets are name (rule E1g)
unfoldable pub name_of : List ℕ → ℕ → Name
name_of [] k = Endless
name_of (b ∷ t) k =
    pick (eqb b 2) (pick (eqb k 0) (Bad k) (Ends k)) (pick (name_octet_of b) (name_of t (k + 1)) (Bad k))

-- how many octets a character of the text has, by d, where that is fixed
unfoldable pub text_width_of : ℕ → ℕ
text_width_of d = pick (eqb d 0x32) 2 (pick (eqb d 0x33) 3 (pick (eqb d 0x34) 4 1))

-- whether a text of so many octets has whole characters: a multiple of their width, 0 too (rule E1g)
unfoldable pub whole_of : ℕ → ℕ → Bool
whole_of d text = eqb (text % text_width_of d) 0

-- the unit of a segment of n octets with so many octets of text
abbrev pub segment_part : ℕ → ℕ → ℕ → Part
segment_part d n text = part kind.segment 0 d 6 n (counts_as_text kind.segment text)

-- what only the whole segment shows is refused at the last of its n octets, or at the L where n is 0 (rule N2)
abbrev pub refused_at_end : ℕ → Shape
refused_at_end n = Refuses refusal.bad_segment (5 + n)

-- a segment of n octets, by its name: what follows the name and its 02 is the text, of which the length alone is looked at (rules E1g, E4). A bad octet
-- of the name is refused where it stands, and a wrong length of the text and a missing 02 at the end (rule N2)
unfoldable pub content_of : ℕ → ℕ → Name → Shape
content_of d n (Ends k) = pick (whole_of d (n - k - 1)) (Gives (segment_part d n (n - k - 1))) (refused_at_end n)
content_of d n (Bad k) = Refuses refusal.bad_segment (6 + k)
content_of d n Endless = refused_at_end n

-- the n octets have to be there before they are looked at; else the segment is cut, where the string ends (rules E1f, N2)
unfoldable pub body_of : ℕ → ℕ → List ℕ → Shape
body_of d n t = pick (leb n (length t)) (content_of d n (name_of (take n t) 0)) (Refuses refusal.cut (6 + length t))

-- after 1B 25 2F d: M and L, from which n is computed; each is refused where it stands, and a low M before the L is looked for (rules E1f, E2, N2)
unfoldable pub lengths_of : ℕ → List ℕ → Shape
lengths_of d t =
    next 4 t
    (λ m u.
    pick (ltb m 0x80) (Refuses refusal.bad_segment 4)
    (next 5 u
    (λ l v. pick (ltb l 0x80) (Refuses refusal.bad_segment 5) (body_of d ((m - 128) * 128 + (l - 128)) v))))

-- after 1B 25
unfoldable pub extended_of : List ℕ → Shape
extended_of t =
    next 2 t
    (λ b u.
    pick (eqb b 0x2F)
    (next 3 u
    (λ d v.
    pick (ltb d 0x30) (Refuses refusal.unknown 3)
    (pick (ltb d 0x35) (lengths_of d v) (Refuses refusal.unknown 3))))
    (Refuses refusal.unknown 2))
