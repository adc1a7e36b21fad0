use Rattle.equal_frames.proofs.OneDifference.{difference_is_one}
use Rattle.equal_frames.proofs.laws.difference_is_one.Goals as goal

pub returns : goal.returns
returns c = difference_is_one
