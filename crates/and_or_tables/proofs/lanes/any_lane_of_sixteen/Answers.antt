use Rattle.std.proofs.Common.{arith}
use Rattle.and_or_tables.proofs.LanesLemmas.{lanes_any}
use Rattle.and_or_tables.proofs.lanes.any_lane_of_sixteen.Goals as goal

pub returns : goal.returns
returns c = lanes_any 16 c.args.bits c.args.care c.args.want c.requires.care c.requires.want (omega arith)
