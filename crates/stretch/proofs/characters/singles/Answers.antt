-- `characters::singles` meets its contract. The invariant: only units of one octet stand from `at` to `i`.
use Rattle.element.proofs.Names.{arith, sym, ◌∙◌}
use Rattle.stretch.proofs.Loops.{along_first, along_one, along_last, single_no, single_end}
use Rattle.stretch.proofs.characters.singles.Goals as goal
use Rattle.stretch.proofs.characters.singles.Goals.{then-loop-i-test+else-single, else-loop-i-test}

pub loop-i-init : goal.loop-i-init
loop-i-init c = along_first _ _ _ _ c.requires

pub loop-i-smaller : goal.loop-i-smaller
loop-i-smaller c = omega (arith, c.same_side-i.ensures.since, c.same_side-i.ensures.within)

pub loop-i-preserved : goal.loop-i-preserved
loop-i-preserved c = along_one _ _ _ _ _ _ c.loop-i.invariant c.loop-i-test.true
    (sym c.single.ensures ∙ c.if-single.true) c.same_side-i.ensures

pub returns : goal.returns
returns c =
    along_last _ _ _ _ _ c.loop-i.invariant (elim c.loop-i-test.branch [
      | then-loop-i-test+else-single w ↦ single_no _ _ _ _ w.loop-i-test.true (sym w.single.ensures ∙ w.if-single.false)
      | else-loop-i-test w ↦ single_end _ _ _ _ w.loop-i-test.false
    ])
