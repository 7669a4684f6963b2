-- A step more is a step of the reader after i steps.
use Rattle.std.proofs.Common.{ℕ, ◌≡◌, ◌∙◌, ap, refl, add-one}
use native.Mathlib.Nat.{le_antisymm}
use Rattle.reader.specs.Reader.{opened, item_at, moved, reader_after}
use Rattle.reader.proofs.Whole.{opened_items}
use Rattle.by_value.proofs.nth.Goals as goal

pub loop-init : goal.loop-init
unfolding reader_after
loop-init c = refl

pub loop-preserved : goal.loop-preserved
unfolding reader_after
loop-preserved c = rw (add-one c.loop.counter) (c.next.ensures.1 ∙ ap moved c.loop.invariant)

pub returns : goal.returns
returns c =
    let all : c.loop.counter ≡ c.args.k = le_antisymm c.loop.auto.counter-end c.loop-test.false in
    c.next-2.ensures.0
    ∙ ap item_at (c.loop.invariant ∙ ap (reader_after c.loop.counter) c.open-r.ensures ∙ ap (λ (k : ℕ). reader_after k (opened c.args.s)) all)
    ∙ opened_items c.args.s c.args.k
