-- `emit::choose` meets its contract: where a place that serves the class stands, nothing is designated.
use Rattle.element.proofs.Names.{arith, ℕ, ◌+◌, ◌%◌, ap, ◌∙◌, get_or}
use Rattle.numbers.specs.Numbers.{chosen_by}
use Rattle.emit.proofs.Chosen.{gl_stays, gr_stays, slot_below}
use Rattle.emit.proofs.choose.Goals as goal

pub returns-then-k-l : goal.returns-then-k-l
returns-then-k-l c = let pre = c.requires in
    gl_stays _ _ _ _ _ pre.0 pre.1 pre.2 c.if-k-l.true

pub returns-then-k-r : goal.returns-then-k-r
returns-then-k-r c = let pre = c.requires in
    gr_stays _ _ _ _ _ pre.0 pre.1 pre.3 c.if-k-r.true

pub overflow_add-row-2 : goal.overflow_add-row-2
overflow_add-row-2 c = omega (arith, c.second_slot-slot.ensures, slot_below c.args.x c.args.k c.requires.1)

pub bounds-work-row-2 : goal.bounds-work-row-2
bounds-work-row-2 c = omega (arith, c.second_slot-slot.ensures, slot_below c.args.x c.args.k c.requires.1)

pub returns : goal.returns
returns c = let args = c.args in
    let slot = c.second_slot-slot.ensures in
    c.chosen.ensures ∙ ap (λ (q : ℕ). chosen_by args.x args.k (get_or args.work.now (args.row + args.k % 16) 0)
    (get_or args.work.now (args.row + q) 0)) slot
