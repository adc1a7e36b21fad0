use Rattle.std.proofs.Common.{◌≡◌, ◌+◌, ◌∙◌, subst, arith}
use Rattle.event_graph.proofs.ClashLemmas.{NoneUpTo, none_more, none_at_all, found_clash}
use Rattle.event_graph.proofs.clashes.first_clash.Goals as goal

pub returns-in-Some : goal.returns-in-Some
returns-in-Some c =
    found_clash c.args.graph.now c.loop-round.rounds c.args.event c.loop-round.round c.in-Some.one c.in-Some.two c.args.length
    c.loop-round.invariant.0 c.requires.length c.loop-round.invariant.1 c.loop-round.invariant.2 c.in-Some.ensures.some

pub loop-round-preserved : goal.loop-round-preserved
loop-round-preserved c = (
  c.next.ensures.graph ∙ c.loop-round.invariant.0,
  c.next.ensures.round c.args.event (c.loop-round.round + 1) (omega arith) c.loop-round.invariant.1,
  none_more c.args.graph.now c.loop-round.rounds c.args.event c.loop-round.round c.loop-round.invariant.0 c.loop-round.invariant.1
      (c.meeting.ensures.none c.in_default.is) c.loop-round.invariant.2,
)

pub returns : goal.returns
returns c =
    let all : c.loop-round.round ≡ c.args.length = omega (arith, c.loop-round-test.false, c.loop-round.auto.round-end) in
    none_at_all c.args.graph.now c.args.event c.args.length c.requires.length (subst (λ n. NoneUpTo c.args.graph.now c.args.event n) all c.loop-round.invariant.2)
