use Rattle.std.proofs.Common.{map, take, sym, subst}
use Rattle.std.proofs.lemmas.List.{take_more}
use Rattle.ground_groups.specs.Below.{AreByEvent}
use Rattle.ground_groups.proofs.Rising.{blank}
use Rattle.ground_groups.proofs.below.by_event.Goals as goal

pub loop-key-preserved : goal.loop-key-preserved
loop-key-preserved c =
    let keys = c.args.keys.now in
    let i = c.loop-key.key-index in
    subst (λ ks. AreByEvent ks (map (λ x. x.items) c.put.new.lists.items)) (sym (take_more keys i blank c.loop-key-test.true))
    (c.in_ok-put.ensures (take i keys) c.loop-key.invariant)
