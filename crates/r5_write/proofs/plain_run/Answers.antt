-- `r5_write::plain_run` meets its contract.
use Rattle.element.proofs.Names.{arith, suc, ◌-◌, ◌≡◌, ◌∙◌, sym, true, false, get_or, add-one}
use Rattle.shortest.specs.Offence.{no_record}
use Rattle.record_rules.specs.Plain.{plain_of}
use Rattle.write.proofs.Lists.{run_over, run_stops, run_goes}
use Rattle.r5_write.proofs.plain_run.Goals as goal

pub loop-i-preserved : goal.loop-i-preserved
loop-i-preserved c =
    let us = c.args.units.now in
    let n = c.args.n in
    let i = c.loop-i.i in
    let e : plain_of (get_or us i no_record) ≡ true = sym c.plain.ensures ∙ c.if-plain.true in
    rw (add-one i) (omega arith, run_goes us (n - i) (n - suc i) i (omega arith) e ∙ c.loop-i.invariant.1)

pub returns-else-plain : goal.returns-else-plain
returns-else-plain c =
    let us = c.args.units.now in
    let i = c.loop-i.i in
    let e : plain_of (get_or us i no_record) ≡ false = sym c.plain.ensures ∙ c.if-plain.false in
    run_stops us (c.args.n - i) i e ∙ c.loop-i.invariant.1

pub returns : goal.returns
returns c = run_over c.args.units.now (c.args.n - c.loop-i.i) c.loop-i.i (omega arith) ∙ c.loop-i.invariant.1
