-- `table::lower` meets its contract. The invariant: 128 is taken from the costs before the index.
use Rattle.element.proofs.Names.{arith, ℕ, ◌-◌, ap, ◌∙◌}
use Rattle.table.proofs.Filled.{filled_none, filled_more, filled_end}
use Rattle.table.proofs.lower.Goals as goal

pub loop-v-init : goal.loop-v-init
loop-v-init c = filled_none _ _ _

pub loop-v-preserved : goal.loop-v-preserved
loop-v-preserved c = let turn = c.loop-v in
    let held = ap (λ (m : ℕ). m - 128) (turn.invariant.kept turn.v-index (λ q h z. omega arith)) in
    filled_more _ _ _ _ _ _ (λ q h z. omega arith) turn.invariant (omega arith) (c.saturating_sub.ensures ∙ held)

pub returns : goal.returns
returns c = filled_end _ c.loop-v.invariant (search arith) (search arith)
