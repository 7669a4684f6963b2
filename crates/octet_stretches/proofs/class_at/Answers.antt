-- `octet_stretches::class_at` meets its contract: the entry, and else the class of an unused octet.
use Rattle.element.proofs.Names.{arith}
use Rattle.octet_stretches.proofs.Laws.{entry_whole}
use Rattle.octet_stretches.proofs.class_at.Goals as goal

pub returns-then-at-s : goal.returns-then-at-s
returns-then-at-s c =
    let first = c.in-Some.ensures.cases in
    record {
      entry = λ h k. entry_whole first.same c.entry_at.ensures;
      short = λ h. absurd (omega (arith, first.enough));
      past = λ h. absurd (omega arith);
    }
