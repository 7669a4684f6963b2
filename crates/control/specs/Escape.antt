-- Escape sequences: designations, and what else may follow 1B; functions of the octets that are left, and of k, how many octets of the element stand
-- before these, where that is not fixed. An octet with which a sequence is unknown, and a final that is not approved, are refused where they stand
-- (rule N2).
use Rattle.std.specs.Prelude.{ℕ, ◌+◌, List, [], ◌∷◌, eqb, ltb}
use Rattle.base.specs.Choice.{pick}
use Rattle.base.specs.Refusal as refusal
use Rattle.charset.specs.Charsets.{form_94, form_96, form_94x94, no_set, set_of}
use Rattle.charset.specs.declared.Side.{Side, TheVariants.GL, TheVariants.GR}
use Rattle.segment.specs.Segment.{extended_of}
use Rattle.state.specs.Elements.{next}
use Rattle.state.specs.Elements.{Shape, Refuses, Designates}

-- after the first intermediate: further ones 20 to 2F, and then a final, for which no set is approved (rule E1e)
unfoldable pub intermediates_of : ℕ → List ℕ → Shape
intermediates_of k [] = Refuses refusal.cut k
intermediates_of k (b ∷ t) =
    pick (ltb b 0x20) (Refuses refusal.unknown k)
    (pick (ltb b 0x30) (intermediates_of (k + 1) t)
    (pick (ltb b 0x40) (Refuses refusal.unknown k) (pick (ltb b 0x7F) (Refuses refusal.not_approved k) (Refuses refusal.unknown k))))

-- a designation of a set, whose final stands after k octets; no-set is refused at the final (rule E1e)
unfoldable pub designates_of : ℕ → Side → ℕ → Shape
designates_of k side set = pick (ltb set no_set) (Designates (k + 1) side set) (Refuses refusal.not_approved k)

-- a final octet after k others
abbrev pub final_of : ℕ → ℕ → Side → ℕ → Shape
final_of k form side last = designates_of k side (set_of form side last)

-- after 1B 28, 1B 29, 1B 2D (k is 2), 1B 24 28, 1B 24 29 (k is 3): a first intermediate, 21 to 23, or a final, 40 to 7E (rule E1e)
unfoldable pub designation_of : ℕ → ℕ → Side → List ℕ → Shape
designation_of k form side t =
    next k t
    (λ b u.
    pick (ltb b 0x21) (Refuses refusal.unknown k)
    (pick (ltb b 0x24) (intermediates_of (k + 1) u)
    (pick (ltb b 0x40) (Refuses refusal.unknown k)
    (pick (ltb b 0x7F) (final_of k form side b) (Refuses refusal.unknown k)))))

-- after 1B 24
unfoldable pub multi_octet_of : List ℕ → Shape
multi_octet_of t =
    next 2 t
    (λ b u.
    pick (eqb b 0x28) (designation_of 3 form_94x94 GL u)
    (pick (eqb b 0x29) (designation_of 3 form_94x94 GR u) (Refuses refusal.unknown 2)))

-- after 1B: a designation, an extended segment, a version sequence, refused at its 23 (rule E3), or unknown (rule E1h)
unfoldable pub escape_of : List ℕ → Shape
escape_of t =
    next 1 t
    (λ b u.
    pick (eqb b 0x28) (designation_of 2 form_94 GL u)
    (pick (eqb b 0x29) (designation_of 2 form_94 GR u)
    (pick (eqb b 0x2D) (designation_of 2 form_96 GR u)
    (pick (eqb b 0x24) (multi_octet_of u)
    (pick (eqb b 0x25) (extended_of u) (pick (eqb b 0x23) (Refuses refusal.version 1) (Refuses refusal.unknown 1)))))))
