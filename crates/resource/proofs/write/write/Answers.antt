-- `resource::write::write` meets its contract, by what it calls and the laws of `Conversions`.
use Rattle.resource_form.proofs.Answers.{string_over, string_within}
use Rattle.resource.proofs.Conversions.{converted_refused, converted_short, converted_fits}
use Rattle.resource.proofs.write.write.Goals as goal

pub returns-then-s-gt-OCTETS : goal.returns-then-s-gt-OCTETS
returns-then-s-gt-OCTETS c = converted_refused _ _ _ _ _ _ (string_over _ c.if-s-gt-OCTETS.true) c.at.ensures

pub returns-then-out-n : goal.returns-then-out-n
returns-then-out-n c = let short = string_within _ c.if-s-gt-OCTETS.false in
    converted_short _ _ _ _ _ short _ c.needed-n.ensures c.if-out-n.true c.no_room.ensures

pub returns : goal.returns
returns c = let short = string_within _ c.if-s-gt-OCTETS.false in
    let needed = c.needed-n.ensures in
    converted_fits _ _ _ _ _ short _ needed _ c.if-out-n.false c.accepted.ensures
    c.store.ensures
