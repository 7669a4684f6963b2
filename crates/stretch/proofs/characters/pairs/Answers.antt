-- `characters::pairs` meets its contract. The invariant: only two-octet characters stand from `at` to `i`.
use Rattle.element.proofs.Names.{sym, ◌∙◌}
use Rattle.stretch.proofs.Loops.{along_pair, pairs_last, pair_no, pair_not, pair_end}
use Rattle.stretch.proofs.characters.pairs.Goals as goal
use Rattle.stretch.proofs.characters.pairs.Goals.{then-loop-i-test+then-graphic_on+else-graphic_on-2, then-loop-i-test+else-graphic_on}
use Rattle.stretch.proofs.characters.pairs.Goals.{else-loop-i-test}

pub loop-i-preserved : goal.loop-i-preserved
loop-i-preserved c =
    let first = sym c.graphic_on.ensures ∙ c.if-graphic_on.true in
    let second = sym c.graphic_on-then-graphic_on.ensures ∙ c.if-graphic_on-2.true in
    along_pair _ _ _ _ c.loop-i.invariant c.loop-i-test.true first second

pub returns : goal.returns
returns c =
    pairs_last _ _ _ _ c.loop-i.invariant (elim c.loop-i-test.branch [
      | then-loop-i-test+then-graphic_on+else-graphic_on-2 w ↦
          pair_not _ _ _ w.loop-i-test.true (sym w.graphic_on.ensures ∙ w.if-graphic_on.true)
          (sym w.graphic_on-then-graphic_on.ensures ∙ w.if-graphic_on-2.false)
      | then-loop-i-test+else-graphic_on w ↦ pair_no _ _ _ w.loop-i-test.true (sym w.graphic_on.ensures ∙ w.if-graphic_on.false)
      | else-loop-i-test w ↦ pair_end _ _ _ w.loop-i-test.false
    ])
