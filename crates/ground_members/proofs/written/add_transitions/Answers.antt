use Rattle.std.proofs.Common.{ap, map}
use Rattle.ground_members.specs.Written.{made_from, made_at}
use Rattle.ground_members.proofs.Adding.{added_as, transition_turn}
use Rattle.ground_members.proofs.written.add_transitions.Goals as goal

pub loop-place-preserved : goal.loop-place-preserved
loop-place-preserved c =
    let owner = c.args.owner in
    let bs = c.args.buses.now in
    let n = c.in_ok-ordinal.ordinal in
    let t = c.index-transitions-place.result in
    let mid = c.loop-place.written.items in
    let new = c.add_transition.new.written.items in
    transition_turn owner (λ g. made_at g owner.path.now bs) c.args.transitions.now c.loop-place.place n t c.args.written.now.items mid new
    c.loop-place.invariant c.loop-place-test.true c.index-transitions-place.is c.in_ok-ordinal.ensures
    (added_as owner (λ g. map (made_from g owner.path.now n t) c.sources_of-sources.result.now) (λ g. made_at g owner.path.now bs (n, t)) mid new c.in_ok-add_transition.ensures
    (λ g. ap (map (made_from g owner.path.now n t)) c.sources_of-sources.ensures))
