-- `resource::read::give` meets its contract, by what it calls and the laws of `Conversions`.
use Rattle.resource.proofs.Conversions.{converted_refused, converted_short, converted_fits, reading_length, reading_over, reading_within}
use Rattle.resource.proofs.read.give.Goals as goal

pub returns-then-octets-gt-OCTETS : goal.returns-then-octets-gt-OCTETS
returns-then-octets-gt-OCTETS c = converted_refused _ _ _ _ _ _ (reading_over _ _ c.requires c.if-octets-gt-OCTETS.true) c.at.ensures

pub returns-then-out-octets : goal.returns-then-out-octets
returns-then-out-octets c = let looked = c.requires in
    converted_short _ _ _ _ _ (reading_within _ _ looked c.if-octets-gt-OCTETS.false) _ (reading_length _ _ looked) c.if-out-octets.true
    c.no_room.ensures

pub returns : goal.returns
returns c = let looked = c.requires in
    converted_fits _ _ _ _ _ (reading_within _ _ looked c.if-octets-gt-OCTETS.false) _ (reading_length _ _ looked) _
    c.if-out-octets.false c.accepted.ensures c.store.ensures
