-- `refusal_line::refused` meets its contract: the line is put before the place of its own length (`stored_line`), where there is room for it.
use Rattle.element.proofs.Names.{arith, refl}
use Rattle.base.proofs.Stores.{stored_not}
use Rattle.refusal_line.proofs.Texts.{line_length, stored_line}
use Rattle.refusal_line.proofs.refused.Goals as goal

pub returns-then-n-out : goal.returns-then-n-out
returns-then-n-out c = let put = c.put in
    let make = c.make-start in
    let args = c.args in (
      line_length _ make.new.buffer make.result make.ensures.1 make.ensures.2,
      stored_line _ make.new.buffer args.out.now put.new.buffer make.result put.result make.ensures.1 make.ensures.2
          (omega arith) put.ensures.0 put.ensures.1,
      omega arith,
    )

pub returns-else-n-out : goal.returns-else-n-out
returns-else-n-out c = let make = c.make-start in
    let args = c.args in
    let n = line_length _ make.new.buffer make.result make.ensures.1 make.ensures.2 in
    (n, stored_not _ args.out.now args.out.now (rw n at c.if-n-out.false) refl, omega arith)
