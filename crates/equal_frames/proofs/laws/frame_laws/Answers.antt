use Rattle.equal_frames.proofs.Worlds.{frames_give_worlds, frames_give_members}
use Rattle.equal_frames.proofs.laws.frame_laws.Goals as goal

pub returns-clause-worlds : goal.returns-clause-worlds
returns-clause-worlds c = frames_give_worlds

pub returns-clause-members : goal.returns-clause-members
returns-clause-members c = frames_give_members
