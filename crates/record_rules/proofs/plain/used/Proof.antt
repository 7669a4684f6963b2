-- `record_rules::plain::used` meets its contract.
use Rattle.element.proofs.Names.{arith, ladder, on_gt}
use Rattle.record_rules.specs.Plain.{used_by}
use Rattle.record_rules.proofs.plain.used.Statement.{statement}
use Rattle.record_rules.proofs.plain.used.Tie as tie

pub used_spec : {M : Type 1} → statement M
unfolding used_by
used_spec =
    tie.close
    (tie.spec
    (λ c. on_gt 0x10000 c.before.args.code _ _ _ (omega (arith, c.before.ranges.code)) (search ladder depth 9))
    (search arith)
    (search arith)
    (search arith)
    (search arith)
    (search arith)
    (search arith)
    (search arith)
    (λ c. on_gt 0x10000 c.before.before.args.code _ _ _ (omega (arith, c.before.before.ranges.code)) (search ladder depth 9))
    (search arith)
    (search arith)
    (search arith)
    (search arith)
    (λ c. on_gt 0x10000 c.before.before.args.code _ _ _ (omega (arith, c.before.before.ranges.code)) (search ladder depth 9)))
