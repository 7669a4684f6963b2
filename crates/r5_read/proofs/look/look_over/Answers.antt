-- `r5_read::look::look_over` meets its contract, by what the places of the first stop and of the first 00 tell (`Looks`).
use Rattle.r5_read.proofs.Looks.{look_endless, look_clean, look_refused, look_accepted, null_inside}
use Rattle.r5_read.proofs.look.look_over.Goals as goal

pub returns-then-end-s : goal.returns-then-end-s
returns-then-end-s c = look_endless _ _ _ c.first_stop-at.ensures c.null_from-end.ensures c.if-end-s.true _ c.endless.ensures

pub returns-else-at-end : goal.returns-else-at-end
returns-else-at-end c =
    let n = c.null_from-end.ensures in
    look_clean _ _ _ c.first_stop-at.ensures n (null_inside _ _ _ n c.if-end-s.false) c.if-at-end.false

pub returns-then-a-ne-ACCEPTED : goal.returns-then-a-ne-ACCEPTED
returns-then-a-ne-ACCEPTED c =
    let n = c.null_from-end.ensures in
    look_refused _ _ _ c.first_stop-at.ensures n (null_inside _ _ _ n c.if-end-s.false) _ c.check-a.ensures c.if-a-ne-ACCEPTED.true

pub returns-else-a-ne-ACCEPTED : goal.returns-else-a-ne-ACCEPTED
returns-else-a-ne-ACCEPTED c =
    let n = c.null_from-end.ensures in
    look_accepted _ _ _ c.first_stop-at.ensures n (null_inside _ _ _ n c.if-end-s.false) _ c.check-a.ensures c.if-a-ne-ACCEPTED.false
