-- `units::next_unit` meets its contract: at each turn the elements from the place on give what those from the start do.
use Rattle.element.proofs.Names.{arith, ◌∙◌, ap, refl, on_ge}
use Rattle.base.proofs.Ladder.{after}
use Rattle.element.proofs.Sizes.{silent, found}
use Rattle.grammar.proofs.Places.{refused_within, step_passed}
use Rattle.state.specs.Elements.{element_seen}
use Rattle.std.proofs.Common.{Ok}
use Rattle.units.proofs.Turn.{gives_found, gives_refused}
use Rattle.units.specs.Next.{next_of}
use Rattle.units.proofs.next_unit.Goals as goal

pub overflow_add-at-in-Err : goal.overflow_add-at-in-Err
overflow_add-at-in-Err c = let h = refused_within _ _ _ _ c.in-Err.ensures refl in omega arith

pub overflow_add-at : goal.overflow_add-at
overflow_add-at c = let k = ap (λ x. element_seen (Ok x)) c.in-Ok-Silent.field-0-is in
    let h = step_passed _ _ _ _ c.in-Ok-Silent.ensures silent k in omega arith

pub loop-octets-smaller : goal.loop-octets-smaller
loop-octets-smaller c = let k = ap (λ x. element_seen (Ok x)) c.in-Ok-Silent.field-0-is in
    let h = step_passed _ _ _ _ c.in-Ok-Silent.ensures silent k in omega arith

pub record-requires : goal.record-requires
record-requires c = let k = ap (λ x. element_seen (Ok x)) c.in-Ok-Found.field-0-is in
    let h = step_passed _ _ _ _ c.in-Ok-Found.ensures found k in omega arith

pub returns-in-Ok-Found : goal.returns-in-Ok-Found
unfolding next_of
returns-in-Ok-Found c = let k = ap (λ x. element_seen (Ok x)) c.in-Ok-Found.field-0-is in
    let e = c.in-Ok-Found.ensures in search (on_ge, after, gives_found) depth 6

pub returns-in-Err : goal.returns-in-Err
unfolding next_of
returns-in-Err c = let h = c.no_unit-in-Err.ensures ∙ gives_refused _ _ _ _ c.in-Err.ensures refl in search (on_ge, after, h) depth 6
