-- `octet_blocks::words::word` meets its contract.
use Rattle.std.proofs.Common.{arith}
use Rattle.octet_blocks.specs.Words.{word_of}
use Rattle.octet_blocks.proofs.words.word.Goals as goal

pub returns : goal.returns
unfolding word_of
returns c = omega arith
