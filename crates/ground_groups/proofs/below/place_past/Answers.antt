use Rattle.std.proofs.Common.{leb, rules}
use Rattle.std.proofs.lemmas.List.Sorted.{IsPartitionPoint-from_clause, IsPartitionedBy-leb}
use Rattle.ground_groups.proofs.Runs.{owners_rise, past_is}
use Rattle.ground_groups.proofs.below.place_past.Goals as goal

pub returns : goal.returns
returns c =
    let keys = c.args.keys.now in
    let state = c.args.state in
    let parted = IsPartitionedBy-leb (λ q. q.owner) keys state (owners_rise keys c.requires) in
    let point = IsPartitionPoint-from_clause (λ q. leb q.owner state) _ _ c.partition_point.ensures.partitioned parted
    (λ a r q k. search rules) in
    past_is keys state c.partition_point.result c.partition_point.ensures.bound point
