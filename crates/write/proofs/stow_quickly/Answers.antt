-- `write::stow_quickly` meets its contract.
use Rattle.element.proofs.Names.{arith, ◌∙◌, refl, sym, subst, ℕ, suc, ◌-◌, ◌≡◌, true, false, get_or, pick, add-one}
use Rattle.rows.specs.Rows.{with_record}
use Rattle.shortest.specs.Offence.{no_record}
use Rattle.record_rules.specs.Plain.{plain_of}
use Rattle.check_list.proofs.Turns.{until_quick, until_most}
use Rattle.write.specs.Stowed.{Passed}
use Rattle.write.proofs.Lists.{run_over, run_stops, run_goes, passed_none, passed_next}
use Rattle.write.proofs.stow_quickly.Goals as goal

pub loop-i-init : goal.loop-i-init
loop-i-init c =
    let a = c.args in
    rw c.quick_until-end.ensures record {
      most = until_most a.progress a.from a.n c.requires.0;
      quick = until_quick a.progress a.from a.n;
      ends = refl;
      passed = passed_none a.progress a.units.now a.from a.work.now;
    }

pub loop-i-preserved-then-quick_turn : goal.loop-i-preserved-then-quick_turn
unfolding pick
loop-i-preserved-then-quick_turn c =
    let us = c.args.units.now in
    let i = c.loop-i.i in
    let k = c.loop-i.invariant in
    let e : plain_of (get_or us i no_record) ≡ true = sym c.quick_turn.ensures.0 ∙ c.if-quick_turn.true in
    let room : c.quick_turn.new.work ≡ with_record c.loop-i.work i (get_or us i no_record) = rw e at c.quick_turn.ensures.1 in
    rw (add-one i) record {
      most = k.most;
      quick = λ h. k.quick c.loop-i-test.true;
      ends = run_goes us (c.loop-i.end - i) (c.loop-i.end - suc i) i (omega arith) e ∙ k.ends;
      passed = rw room
          (passed_next c.args.progress us c.args.from i c.args.work.now c.loop-i.work (k.quick c.loop-i-test.true) e k.passed);
    }

pub loop-i-preserved : goal.loop-i-preserved
unfolding pick
loop-i-preserved c =
    let us = c.args.units.now in
    let i = c.loop-i.i in
    let k = c.loop-i.invariant in
    let e : plain_of (get_or us i no_record) ≡ false = sym c.quick_turn.ensures.0 ∙ c.if-quick_turn.false in
    let room : c.quick_turn.new.work ≡ c.loop-i.work = rw e at c.quick_turn.ensures.1 in
    record {
      most = omega arith;
      quick = λ h. absurd (omega (arith, h));
      ends = sym (run_over us (i - i) i (omega arith)) ∙ run_stops us (c.loop-i.end - i) i e ∙ k.ends;
      passed = rw room k.passed;
    }

pub returns : goal.returns
returns c =
    let us = c.args.units.now in
    let i = c.loop-i.i in
    let k = c.loop-i.invariant in
    let at_end = run_over us (c.loop-i.end - i) i (omega arith) ∙ k.ends in
    (at_end, subst (λ (j : ℕ). Passed c.args.progress us c.args.from j c.args.work.now c.loop-i.work) at_end k.passed)
