use Rattle.rational_frames.specs.RationalFrameLaws.{rational_frame}
use Rattle.rational_frames.proofs.frames_take_rational_points.Goals as goal

pub returns : goal.returns
returns c = rational_frame
