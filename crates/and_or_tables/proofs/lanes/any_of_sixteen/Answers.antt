use Rattle.std.proofs.Common.{◌∙◌}
use Rattle.and_or_tables.proofs.LanesLemmas.{chunk_holds}
use Rattle.and_or_tables.proofs.lanes.any_of_sixteen.Goals as goal

pub returns : goal.returns
returns c = c.any_lane_of_sixteen.ensures ∙ chunk_holds c.args.bits c.args.care.now c.args.want.now 16 c.args.at c.requires.care c.requires.want
