-- Direction marks (rule E1i): functions of the octets that are left. An octet that fits no mark is refused where it stands (rule N2).
use Rattle.std.specs.Prelude.{ℕ, List, eqb}
use Rattle.base.specs.Choice.{pick}
use Rattle.base.specs.Refusal as refusal
use Rattle.base.specs.Kind as kind
use Rattle.state.specs.Elements.{unit, next}
use Rattle.state.specs.Elements.{Shape, Refuses}

-- after 9B 31 and 9B 32
unfoldable pub begin_of : ℕ → List ℕ → Shape
begin_of k t = next 2 t (λ b _. pick (eqb b 0x5D) (unit k 0 0 3) (Refuses refusal.unknown 2))

-- after 9B
unfoldable pub csi_of : List ℕ → Shape
csi_of t =
    next 1 t
    (λ b u.
    pick (eqb b 0x5D) (unit kind.revert 0 0 2)
    (pick (eqb b 0x31) (begin_of kind.left_to_right u)
    (pick (eqb b 0x32) (begin_of kind.right_to_left u) (Refuses refusal.unknown 1))))
