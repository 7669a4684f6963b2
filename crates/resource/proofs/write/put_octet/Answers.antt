-- `resource::write::put_octet` meets its contract: each arm stores the form of its octet (`put_as`), for which there is room (`room_as`).
use native.Mathlib.Omega.{arith}
use mathlib.Core.List.{[], ◌∷◌}
use Rattle.base.proofs.Ladder.{ladder}
use Rattle.resource_form.specs.Form.{backslash, letter_n, digit_0}
use Rattle.resource.proofs.Writing.{form_as, put_as, room_as}
use Rattle.resource.proofs.write.put_octet.Goals as goal

pub put-requires : goal.put-requires
put-requires c = (omega arith, room_as _ _ _ (backslash ∷ backslash ∷ []) (search (form_as, ladder) depth 9) c.requires)

pub returns-in-92 : goal.returns-in-92
returns-in-92 c = put_as _ _ _ _ _ (backslash ∷ backslash ∷ []) (search (form_as, ladder) depth 9) c.put.ensures

pub put-requires-in-10 : goal.put-requires-in-10
put-requires-in-10 c = (omega arith, room_as _ _ _ (backslash ∷ letter_n ∷ []) (search (form_as, ladder) depth 9) c.requires)

pub returns-in-10 : goal.returns-in-10
returns-in-10 c = put_as _ _ _ _ _ (backslash ∷ letter_n ∷ []) (search (form_as, ladder) depth 9) c.put-in-10.ensures

pub put-requires-in-0 : goal.put-requires-in-0
put-requires-in-0 c = (omega arith, room_as _ _ _ (backslash ∷ digit_0 ∷ digit_0 ∷ digit_0 ∷ []) (search (form_as, ladder) depth 9) c.requires)

pub returns-in-0 : goal.returns-in-0
returns-in-0 c = put_as _ _ _ _ _ (backslash ∷ digit_0 ∷ digit_0 ∷ digit_0 ∷ []) (search (form_as, ladder) depth 9) c.put-in-0.ensures

pub put-requires-in_default : goal.put-requires-in_default
put-requires-in_default c = (omega arith, room_as _ _ _ (c.args.octet ∷ []) (search (form_as, ladder) depth 9) c.requires)

pub returns-in_default : goal.returns-in_default
returns-in_default c = put_as _ _ _ _ _ (c.args.octet ∷ []) (search (form_as, ladder) depth 9) c.put-in_default.ensures
