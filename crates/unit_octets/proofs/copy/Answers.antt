-- `unit_octets::copy` meets its contract. The invariant: the first k octets are stored.
use Rattle.element.proofs.Names.{ℕ, ◌+◌, ◌≡◌, ◌∙◌, ap, arith, get_or, set, length, length-set}
use Rattle.unit_octets.proofs.Storing.{copy_more}
use Rattle.unit_octets.proofs.copy.Goals as goal

pub loop-k-preserved : goal.loop-k-preserved
loop-k-preserved c = let part = c.args.part.now in
    let zero_more : c.loop-k.k ≡ 0 + c.loop-k.k = omega arith in (
      simp length-set c.loop-k.invariant.0,
      ap (λ (j : ℕ). set c.loop-k.out (c.args.at + c.loop-k.k) (get_or part j 0)) zero_more
          ∙ copy_more c.args.out.now _ part _ 0 _ (length part) c.loop-k-test.true (omega arith) c.loop-k.invariant.1,
    )
