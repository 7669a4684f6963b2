-- `segment::body` meets its contract: where the n octets are there, the part that is lent to `name_end` is what `body_of` takes, and a place that is
-- told of the name lies in it.
use native.Mathlib.Omega.{arith}
use mathlib.Core.Path.{◌∙◌, ap, refl, sym}
use Rattle.std.proofs.Common.{Err}
use Rattle.segment.specs.declared.BadName.{BadName}
use Rattle.segment.specs.Segment.{content_of, name_seen}
use Rattle.segment.proofs.Steps.{on_body, on_body_short, ends_within, bad_within}
use Rattle.segment.proofs.body.Goals as goal

pub returns-then-t-n : goal.returns-then-t-n
unfolding content_of
returns-then-t-n c = search on_body_short

pub named-requires : goal.named-requires
unfolding content_of
named-requires c = (ends_within c.args.t.now 6 _ _ c.if-t-n.false c.in-Ok.ensures refl, c.requires.1)

pub returns-in-Ok : goal.returns-in-Ok
unfolding content_of
returns-in-Ok c = on_body c.args.t.now _ _ _ _ c.if-t-n.false c.in-Ok.ensures c.named.ensures

pub overflow_add-result : goal.overflow_add-result
unfolding content_of
overflow_add-result c = let e = sym (ap (λ (x : BadName). name_seen (Err x)) c.in-Err-Octet.field-0-is) ∙ c.in-Err-Octet.ensures in
    let h = bad_within c.args.t.now 6 _ _ c.if-t-n.false e refl in omega (arith, h, c.requires.1)

pub returns-in-Err-Octet : goal.returns-in-Err-Octet
unfolding content_of
returns-in-Err-Octet c = let e = sym (ap (λ (x : BadName). name_seen (Err x)) c.in-Err-Octet.field-0-is) ∙ c.in-Err-Octet.ensures in
    on_body c.args.t.now _ _ _ _ c.if-t-n.false e refl

pub returns-in-Err-Endless : goal.returns-in-Err-Endless
unfolding content_of
returns-in-Err-Endless c = let e = sym (ap (λ (x : BadName). name_seen (Err x)) c.in-Err-Endless.field-0-is) ∙ c.in-Err-Endless.ensures in
    on_body c.args.t.now _ _ _ _ c.if-t-n.false e refl
