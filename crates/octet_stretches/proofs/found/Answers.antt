-- `octet_stretches::found` meets its contract: near, and then far.
use Rattle.element.proofs.Names.{ℕ, ◌+◌, List, arith, refl}
use Rattle.octet_stretches.specs.Stretched.{Stretched, more}
use Rattle.octet_stretches.proofs.Laws.{fits, by_numbers}
use Rattle.octet_stretches.proofs.found.Goals as goal

-- both, one after the other
both : {row s : List ℕ} {at n m : ℕ} (a b : ℕ) → Stretched row s at (at + a) n → Stretched row s (at + a) (at + a + b) m
    → Stretched row s at (at + (a + b)) (n + m)
both a b h k = by_numbers (omega arith) refl (more h k)

pub overflow_add-next : goal.overflow_add-next
overflow_add-next c = omega (arith, (fits c.near-a.ensures).1 (omega (arith, c.requires)))

pub overflow_add-result : goal.overflow_add-result
overflow_add-result c = omega (arith, (fits c.far-b.ensures).1 (omega (arith, c.if-s-next.false)))

pub overflow_add-result-2 : goal.overflow_add-result-2
overflow_add-result-2 c = let p = fits (both _ _ c.near-a.ensures c.far-b.ensures) in omega (arith, p.0, p.1 (omega (arith, c.requires)))

pub returns : goal.returns
returns c = both _ _ c.near-a.ensures c.far-b.ensures
