use Rattle.equal_frames.proofs.Reading.{frames_read_alike}
use Rattle.equal_frames.proofs.laws.lines_are_read_alike.Goals as goal

pub returns : goal.returns
returns c = frames_read_alike
