-- `resource::write::store` meets its contract. The invariant is `StoredUpTo`, and each turn is `stored_up_to_next`.
use Rattle.resource.proofs.Writing.{stored_up_to_first, stored_up_to_room, stored_up_to_next, stored_up_to_last}
use Rattle.resource.proofs.write.store.Goals as goal

pub loop-octet-init : goal.loop-octet-init
loop-octet-init c = stored_up_to_first _ _

pub put_octet-at-requires : goal.put_octet-at-requires
put_octet-at-requires c = stored_up_to_room _ _ _ _ _ c.requires c.loop-octet-test.true
    c.loop-octet.invariant

pub loop-octet-preserved : goal.loop-octet-preserved
loop-octet-preserved c = stored_up_to_next _ _ _ _ _ _ _ c.loop-octet-test.true
    c.loop-octet.invariant
    c.put_octet-at.ensures.0 c.put_octet-at.ensures.1

pub returns : goal.returns
returns c = stored_up_to_last _ _ _ _ _ c.requires c.loop-octet-test.false c.loop-octet.invariant
