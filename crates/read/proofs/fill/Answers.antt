-- What each turn stores is what `stored_from` stores there (`Fills`).
use Rattle.std.proofs.Common.{◌≡◌, ◌-◌, suc, true, false, sym, ◌∙◌, add-one, arith}
use Rattle.spans.specs.Spans.{stands_after}
use Rattle.read.proofs.Fills.{count_over, count_stops, count_goes, stored_over_lem, stored_stops, stored_goes}
use Rattle.read.proofs.fill.Goals as goal

pub loop-j-preserved : goal.loop-j-preserved
loop-j-preserved c =
    let m : c.args.r.most - c.loop-j.j ≡ suc (c.args.r.most - suc c.loop-j.j) = omega arith in
    let yes : stands_after c.args.s.now c.args.r c.loop-j.j ≡ true = sym c.if-stands_at.ensures in
    record {
      within = omega arith;
      count = rw (add-one c.loop-j.j) (count_goes _ _ _ _ _ m yes ∙ c.loop-j.invariant.count);
      stored = rw (add-one c.loop-j.j, c.nth.ensures) (stored_goes _ _ _ _ _ _ _ m yes ∙ c.loop-j.invariant.stored);
    }

pub returns-else-stands_at : goal.returns-else-stands_at
returns-else-stands_at c =
    let no : stands_after c.args.s.now c.args.r c.loop-j.j ≡ false = sym c.if-stands_at.ensures in
    (sym (count_stops _ _ _ _ no) ∙ c.loop-j.invariant.count, sym (stored_stops _ _ _ _ _ _ no) ∙ c.loop-j.invariant.stored)

pub returns : goal.returns
returns c =
    let m : c.args.r.most - c.loop-j.j ≡ 0 = omega arith in
    (sym (count_over _ _ _ _ m) ∙ c.loop-j.invariant.count, sym (stored_over_lem _ _ _ _ _ _ m) ∙ c.loop-j.invariant.stored)
