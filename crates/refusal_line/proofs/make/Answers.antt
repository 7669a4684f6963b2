-- `refusal_line::make` meets its contract: each part of the line stands before what stands after it (`line_of`).
use Rattle.element.proofs.Names.{arith}
use lib.ListN.{drop_of_length-le}
use Rattle.refusal_line.proofs.Texts.{line_of}
use Rattle.refusal_line.proofs.make.Goals as goal

pub returns : goal.returns
returns c =
    let ends = drop_of_length-le c.args.buffer.now {i = 64} (omega (arith, c.requires)) in (
      omega (arith, c.put.ensures.0),
      line_of _ _ _ _ _ _ _ _ ends c.put-newline.ensures.1 c.put_decimal-place_at.ensures.1 c.put-at.ensures.1
          c.put_decimal-number_at.ensures.1 c.put.ensures.1,
      omega arith,
    )
