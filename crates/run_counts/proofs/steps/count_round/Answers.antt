use Rattle.std.proofs.Common.{◌≡◌, ◌&&◌, true, false, is_some, ◌∙◌, arith}
use Rattle.elaborate.specs.Enabled.{is_enabled}
use Rattle.event_graph.specs.Sets.{has}
use Rattle.micro_step.proofs.LoopLemmas.{places_below}
use Rattle.reactions.proofs.WrittenLemmas.{left_of}
use Rattle.run_counts.proofs.MoveLemmas.{few, taken_few}
use Rattle.run_counts.proofs.RoundLemmas.{round_counted}
use Rattle.run_counts.proofs.steps.count_round.Goals as goal

pub moves_among-moves-requires : goal.moves_among-moves-requires
moves_among-moves-requires c =
    let m = c.args.machine.now in
    places_below (λ x. has c.args.events.now x.event && is_enabled m c.args.progress.now.world x) m.transitions c.taken-taken.result.now (c.taken-taken.ensures ∙ c.micro.ensures.taken)

pub returns-clause-ready : goal.returns-clause-ready
returns-clause-ready c =
    let m = c.args.machine.now in
    let taken = taken_few (λ x. has c.args.events.now x.event && is_enabled m c.args.progress.now.world x) m.transitions c.taken-taken.result.now (c.taken-taken.ensures ∙ c.micro.ensures.taken) in
    let all = few m c.law.ensures in
    let takes = c.requires.ready.takes_fit in
    let moves = c.requires.ready.moves_fit in
    let some = c.moves_among-moves.ensures.few in
    record {
      made = c.micro.ensures.made;
      is_world = c.micro.ensures.world;
      takes_fit = omega (arith, taken, all, takes);
      moves_fit = omega (arith, some, moves);
    }

pub returns-clause-counted : goal.returns-clause-counted
returns-clause-counted c =
    round_counted c.args.machine.now.base.spec c.args.progress.now.world c.micro.new.world c.args.events.now c.micro.new.events c.micro.new.scratch c.args.progress.now.counts
    c.taken-taken.result.now c.moves_among-moves.result c.micro.ensures.micro c.taken-taken.ensures c.moves_among-moves.ensures.moves

pub returns-clause-longer : goal.returns-clause-longer
returns-clause-longer c cert x n ends = (c.micro.ensures.certified cert x n ends).1

pub returns-clause-some : goal.returns-clause-some
returns-clause-some c q =
    let same : is_some c.next.result ≡ true = let told = c.is_some.ensures in cc in
    (left_of c.args.machine.now.base.spec c.micro.new.events c.next.result c.micro.ensures.events c.next.ensures.some c.next.ensures.none).0 same

pub returns-clause-none : goal.returns-clause-none
returns-clause-none c q =
    let same : is_some c.next.result ≡ false = let told = c.is_some.ensures in cc in
    (left_of c.args.machine.now.base.spec c.micro.new.events c.next.result c.micro.ensures.events c.next.ensures.some c.next.ensures.none).1 same
