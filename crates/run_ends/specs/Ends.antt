-- Where a run ends, as the code finds it: the octets from a place on that are of a span, one to a unit or two. That they are the run's, in a state
-- that text leaves as it is, is proved (`text_grows` in run_ends/proofs/Spans), so that nothing here has to be believed.
use Rattle.std.specs.Prelude.{ℕ, ◌+◌, List, [], ◌∷◌, eqb, ltb}
use Rattle.base.specs.Choice.{pick}
use Rattle.charset.specs.Charsets.{form_96, form_94x94, form_of}
use Rattle.pieces.specs.PieceKind as piece_kind
use Rattle.state.specs.declared.Sets.{Sets}

-- the place after the octets of a span at the start of octets, which start at a place
unfoldable pub ones_to : ℕ → ℕ → ℕ → List ℕ → ℕ
ones_to first last at [] = at
ones_to first last at (b ∷ t) = pick (ltb b first) at (pick (ltb last b) at (ones_to first last (at + 1) t))

-- two by two
unfoldable pub twos_to : ℕ → ℕ → ℕ → List ℕ → ℕ
twos_to first last at [] = at
twos_to first last at (b ∷ []) = at
twos_to first last at (b ∷ d ∷ t) =
    pick (ltb b first) at (pick (ltb last b) at (pick (ltb d first) at (pick (ltb last d) at (twos_to first last (at + 2) t))))

-- the span is that of the set on the side
unfoldable pub left_to : Sets → ℕ → List ℕ → ℕ
left_to sets at t = pick (eqb (form_of sets.gl) form_94x94) (twos_to 0x21 0x7E at t) (ones_to 0x20 0x7E at t)

unfoldable pub right_to : Sets → ℕ → List ℕ → ℕ
right_to sets at t =
    pick (eqb (form_of sets.gr) form_96) (ones_to 0xA0 0xFF at t)
    (pick (eqb (form_of sets.gr) form_94x94) (twos_to 0xA1 0xFE at t) (ones_to 0xA1 0xFE at t))

-- by the kind of the run
unfoldable pub text_to : Sets → ℕ → ℕ → List ℕ → ℕ
text_to sets k at t = pick (eqb k piece_kind.gl_run) (left_to sets at t) (right_to sets at t)
