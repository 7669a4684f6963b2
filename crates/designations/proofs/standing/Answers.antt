-- `designations::standing` meets its contract: four octets are there and decide, or they are not.
use Rattle.element.proofs.Names.{arith, refl, ◌∙◌, ladder}
use Rattle.designations.proofs.Designations.{on_four_octets, on_few, placing}
use Rattle.designations.proofs.standing.Goals as goal

pub returns-then-s-at : goal.returns-then-s-at
returns-then-s-at c = c.none.ensures ∙ on_few _ _ (omega arith)

pub returns-then-s-at-lt4 : goal.returns-then-s-at-lt4
returns-then-s-at-lt4 c = c.none-then-s-at-lt4.ensures ∙ on_few _ _ (omega arith)

pub returns-then-s-at-ne27 : goal.returns-then-s-at-ne27
returns-then-s-at-ne27 c = search (placing, ladder) depth 9

pub returns : goal.returns
returns c = c.by_sequence.ensures ∙ on_four_octets _ _ _ (omega arith) (omega arith) (omega arith) refl
