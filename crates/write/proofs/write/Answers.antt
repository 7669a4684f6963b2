-- `write::write` meets its contract: once the loop is left the whole list is checked, and `finish` answers as the writer does (Whole.antt).
use Rattle.element.proofs.Names.{arith, ◌+◌, ◌-◌, ◌<◌, ◌≡◌, ◌∙◌, sym, ap, subst, ℕ, length, get_or, add-one}
use Rattle.shortest.specs.Offence.{no_record}
use Rattle.check_list.specs.Turn.{Progress, turn_of, room_after, quick_until, looked_at}
use Rattle.check_list.proofs.Turns.{until_most}
use Rattle.write.specs.Stowed.{reached, Stowed, finish_answer, finish_output}
use Rattle.write.proofs.Lists.{looked_most, reached_none, reached_next, stowed_none, stowed_next, run_most}
use Rattle.write.proofs.Whole.{finished, demanded}
use Rattle.write.proofs.write.Goals as goal

-- a place before the last that is looked at lies in the list
inside : (c : goal.In-loop-i) → c.loop-i.i < length c.args.units.now
inside c = omega (arith, c.looked_at-n.ensures, looked_most (length c.args.units.now))

pub loop-i-init : goal.loop-i-init
loop-i-init c =
    let os = c.args.segments.now in
    let us = c.args.units.now in
    (omega arith, c.begin-progress.ensures ∙ reached_none os us, stowed_none os us c.args.work.now)

pub offset_bounds-units-i : goal.offset_bounds-units-i
offset_bounds-units-i c = let h = inside c in search arith

pub bounds-units-i : goal.bounds-units-i
bounds-units-i c = inside c

pub stow_quickly-i-requires : goal.stow_quickly-i-requires
stow_quickly-i-requires c = (
  omega arith,
  omega (arith, c.looked_at-n.ensures, looked_most (length c.args.units.now)),
)

pub loop-i-preserved : goal.loop-i-preserved
loop-i-preserved c =
    let os = c.args.segments.now in
    let us = c.args.units.now in
    let n = c.looked_at-n.result in
    let i = c.loop-i.i in
    let w = c.loop-i.work in
    let known = c.loop-i.invariant in
    let r = get_or us i no_record in
    let p = c.turn-progress.result in
    let turned : p ≡ turn_of os r i (reached os us i) = c.turn-progress.ensures.0 ∙ ap (turn_of os r i) known.1 in
    let at : reached os us (i + 1) ≡ p = rw (add-one i) (sym (turned ∙ reached_next os us i)) in
    let stood : Stowed os us (i + 1) c.args.work.now (room_after (turn_of os r i (reached os us i)) r i w) =
    rw (add-one i) (stowed_next os us i c.args.work.now w known.2) in
    let room : c.turn-progress.new.work ≡ room_after (turn_of os r i (reached os us i)) r i w =
    c.turn-progress.ensures.1 ∙ ap (λ (q : Progress). room_after q r i w) (sym c.turn-progress.ensures.0 ∙ turned) in
    let first : Stowed os us (i + 1) c.args.work.now c.turn-progress.new.work = rw room stood in
    let next = c.stow_quickly-i.ensures in
    let m = quick_until p (i + 1) n in
    rw next.0 (
      omega (arith, run_most us (m - (i + 1)) (i + 1), until_most p (i + 1) n (omega arith)),
      sym (next.1.stays os at),
      next.1.stowed os c.args.work.now at first,
    )

pub returns : goal.returns
returns c =
    let os = c.args.segments.now in
    let us = c.args.units.now in
    let ys = c.args.work.now in
    let zs = c.args.out.now in
    let w = c.loop-i.work in
    let known = c.loop-i.invariant in
    let at_end : c.loop-i.i ≡ looked_at (length us) = omega (arith, c.looked_at-n.ensures, known.0, c.loop-i-test.false) in
    let p : c.loop-i.progress ≡ reached os us (looked_at (length us)) = known.1 ∙ ap (reached os us) at_end in
    let f = finished us os ys w zs (subst (λ (k : ℕ). Stowed os us k ys w) at_end known.2) in
    let done = c.finish.ensures in
    let answer = done.0 ∙ ap (λ (q : Progress). finish_answer q (length us) os w (length zs)) p ∙ f.answers in
    let output = done.1 ∙ ap (λ (q : Progress). finish_output q (length us) os w zs) p ∙ f.output in
    (answer, output, done.2 ∙ known.2.same, rw answer (demanded us os (length ys) zs c.finish.new.out output))
