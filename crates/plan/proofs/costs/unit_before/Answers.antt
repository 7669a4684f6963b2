-- `costs::unit_before` meets its contract.
use Rattle.element.proofs.Names.{sym, ◌∙◌}
use Rattle.plan.proofs.Turns.{changes_class, turned_moved, turned_lowered, turned_still}
use Rattle.plan.proofs.costs.unit_before.Goals as goal

pub costs_before-requires : goal.costs_before-requires
costs_before-requires c = let pre = c.requires in
    let changed = sym c.changed.ensures ∙ c.if-changed.true in
    (changes_class _ _ changed pre.class_of, pre.smooth)

pub returns-then-cur-le200 : goal.returns-then-cur-le200
returns-then-cur-le200 c = let changed = sym c.changed.ensures ∙ c.if-changed.true in
    turned_moved _ _ c.args.cur.now _ c.requires.long c.costs_before.ensures changed c.if-cur-le200.true

pub returns-then-changed : goal.returns-then-changed
returns-then-changed c = let pre = c.requires in
    let changed = sym c.changed.ensures ∙ c.if-changed.true in
    turned_lowered _ _ c.args.cur.now _ pre.long c.costs_before.ensures pre.near
    c.if-cur-le200.false _ changed (pre.smooth c.args.x pre.class_of).small c.lower.ensures

pub returns : goal.returns
returns c = let pre = c.requires in
    turned_still _ _ _ c.args.cur.now pre.long (sym c.changed.ensures ∙ c.if-changed.false) pre.low
