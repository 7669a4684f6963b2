-- What the functions of this crate answer, by their own tests. That it is what the octet starts (element/specs/Start) is proved (`on_left`,
-- `on_right` in element/proofs/Steps), so that nothing here has to be believed.
use Rattle.std.specs.Prelude.{ℕ, ◌%◌, List, eqb, ltb}
use Rattle.base.specs.Choice.{pick}
use Rattle.base.specs.Refusal as refusal
use Rattle.charset.specs.Charsets.{form_96, form_94x94, form_of}
use Rattle.state.specs.declared.Sets.{Sets}
use Rattle.state.specs.Elements.{Shape, Refuses}
use Rattle.text.specs.Text.{graphic_of, one_octet_of, space_of, second_octet_of}

-- a character that begins with b, of the set on the side of b
unfoldable pub character_of : ℕ → ℕ → List ℕ → Shape
character_of set b t =
    pick (eqb (form_of set) form_96) (one_octet_of set b)
    (pick (graphic_of (b % 128))
    (pick (eqb (form_of set) form_94x94) (second_octet_of set b t) (one_octet_of set b))
    (Refuses refusal.unused 0))

-- a GL or GR octet b
unfoldable pub text_of : ℕ → List ℕ → Sets → Shape
text_of b t s =
    pick (eqb b 0x20) (pick (eqb (form_of s.gl) form_94x94) (Refuses refusal.unused 0) (space_of))
    (pick (ltb b 0x80) (character_of s.gl b t) (character_of s.gr b t))
