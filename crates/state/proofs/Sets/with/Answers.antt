-- `Sets::with` meets its contract, on each side.
use Rattle.state.specs.State.{put}
use Rattle.state.proofs.Sets.with.Goals as goal

pub returns-in-GL : goal.returns-in-GL
unfolding put
returns-in-GL c = rw c.in-GL.is

pub returns-in-GR : goal.returns-in-GR
unfolding put
returns-in-GR c = rw c.in-GR.is
