use Rattle.ground_groups.proofs.Events.{put_more}
use Rattle.ground_groups.proofs.below.put.Goals as goal

pub returns : goal.returns
returns c = λ keys are. put_more (λ l. l.items) c.lengthen.new.lists.items c.args.key c.index_mut.result.now c.push.new.self keys
    c.in_ok-lengthen.ensures.long c.index_mut.ensures.value c.in_ok-push.ensures.items (c.in_ok-lengthen.ensures.same keys are)
