use Rattle.equal_frames.proofs.Moves.{equal_guards_move_runs}
use Rattle.equal_frames.proofs.laws.equal_guards_move_runs.Goals as goal

pub returns : goal.returns
returns c = equal_guards_move_runs
