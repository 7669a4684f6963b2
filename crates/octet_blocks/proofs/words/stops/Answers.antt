-- `octet_blocks::words::stops` meets its contract, by a test of its three numbers that antt computes.
use Rattle.std.proofs.Common.{refl, arith}
use Rattle.base.specs.Choice.{pick}
use Rattle.octet_blocks.specs.Words.{graphic}
use Rattle.octet_blocks.proofs.Stops.{led_wrapped}
use Rattle.octet_blocks.proofs.words.stops.Goals as goal

pub returns : goal.returns
unfolding graphic pick
returns c = led_wrapped _ _ _ _ c.ranges.w.fits (omega arith) refl
