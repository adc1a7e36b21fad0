use Rattle.ground_groups.proofs.Putting.{put_at}
use Rattle.elaborate.proofs.on_events.push_at.Goals as goal

pub returns : goal.returns
returns c = put_at (λ l. l.items) c.args.lists.now.items c.args.at c.args.item c.index_mut.result.now c.push.new.self c.requires c.index_mut.ensures.value c.in_ok-push.ensures.items
