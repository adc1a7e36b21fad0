use Rattle.std.proofs.Common.{◌≡◌, length, ap, arith}
use Rattle.rsml_meaning.specs.Instances.{events}
use Rattle.rsml_meaning.specs.Scoped.{WellScoped}
use Rattle.rsml_meaning.proofs.rules.Scoped.{rules_give_scopes}
use Rattle.run_counts.specs.declared.counts.Counts.{Counts}
use Rattle.run_counts.proofs.TurnLemmas.{no_turn, next_turn, last_turn, no_more_turns}
use Rattle.run_counts.proofs.steps.count_step.Goals as goal

pub loop-turn-init : goal.loop-turn-init
loop-turn-init c = record {
  ready = c.requires.ready;
  rounds = omega arith;
  turned = no_turn c.args.machine.now c.args.progress.now.world c.args.events c.args.progress.now.counts c.requires.events c.requires.external;
}

pub count_round-requires-clause-ready : goal.count_round-requires-clause-ready
count_round-requires-clause-ready c = c.loop-turn.invariant.ready

pub count_round-requires-clause-room : goal.count_round-requires-clause-room
count_round-requires-clause-room c =
    let rounds = c.loop-turn.invariant.rounds in
    let room = c.requires.room in
    omega (arith, rounds, room, c.loop-turn-test.true, c.events-count.ensures.few)

pub count_round-requires-clause-events : goal.count_round-requires-clause-events
count_round-requires-clause-events c = c.loop-turn.invariant.turned.are

pub loop-turn-preserved : goal.loop-turn-preserved
loop-turn-preserved c =
    let i = c.loop-turn.invariant in
    let more = ap (λ (k : Counts). k.rounds) c.count_round.ensures.counted.counted in
    let rounds = i.rounds in
    record {
      ready = c.count_round.ensures.ready;
      rounds = omega (arith, more, rounds);
      turned = next_turn c.args.machine.now c.args.progress.now.world c.args.events c.loop-turn._turn c.loop-turn.progress.world c.loop-turn.events c.count_round.new.progress.world c.count_round.new.events
          c.args.progress.now.counts c.loop-turn.progress.counts c.count_round.new.progress.counts c.requires.certified i.turned
          (record { counted = c.count_round.ensures.counted; longer = c.count_round.ensures.longer; are = c.count_round.ensures.events })
          (c.count_round.ensures.some c.if-not-count_round.false);
    }

pub returns-then-not-count_round-clause-ready : goal.returns-then-not-count_round-clause-ready
returns-then-not-count_round-clause-ready c = c.count_round.ensures.ready

pub returns-then-not-count_round-clause-counted : goal.returns-then-not-count_round-clause-counted
returns-then-not-count_round-clause-counted c =
    let i = c.loop-turn.invariant in
    last_turn c.args.machine.now c.args.progress.now.world c.args.events c.loop-turn._turn c.loop-turn.progress.world c.loop-turn.events c.count_round.new.progress.world c.count_round.new.events
    c.args.progress.now.counts c.loop-turn.progress.counts c.count_round.new.progress.counts i.turned
    (record { counted = c.count_round.ensures.counted; longer = c.count_round.ensures.longer; are = c.count_round.ensures.events })
    (c.count_round.ensures.none c.if-not-count_round.true)

pub returns-then-not-count_round-clause-few : goal.returns-then-not-count_round-clause-few
returns-then-not-count_round-clause-few c =
    let more = ap (λ (k : Counts). k.rounds) c.count_round.ensures.counted.counted in
    let rounds = c.loop-turn.invariant.rounds in
    omega (arith, more, rounds, c.loop-turn-test.true, c.events-count.ensures.few)

pub returns-clause-ready : goal.returns-clause-ready
returns-clause-ready c = c.loop-turn.invariant.ready

-- there is an end before that
pub returns-clause-counted : goal.returns-clause-counted
returns-clause-counted c =
    let m = c.args.machine.now in
    let scoped : WellScoped m.base.spec = rules_give_scopes m.base.spec c.law.ensures.grounded.checked.keeps.rules in
    let many : c.events-count.result ≡ length (events m.base.spec) = c.events-count.ensures.count in
    absurd (no_more_turns m c.args.progress.now.world c.args.events c.loop-turn._turn c.loop-turn.progress.world c.loop-turn.events c.args.progress.now.counts c.loop-turn.progress.counts
    scoped c.requires.certified c.requires.external (omega (arith, many, c.loop-turn-test.false)) c.loop-turn.invariant.turned)

pub returns-clause-few : goal.returns-clause-few
returns-clause-few c =
    let m = c.args.machine.now in
    let scoped : WellScoped m.base.spec = rules_give_scopes m.base.spec c.law.ensures.grounded.checked.keeps.rules in
    let many : c.events-count.result ≡ length (events m.base.spec) = c.events-count.ensures.count in
    absurd (no_more_turns m c.args.progress.now.world c.args.events c.loop-turn._turn c.loop-turn.progress.world c.loop-turn.events c.args.progress.now.counts c.loop-turn.progress.counts
    scoped c.requires.certified c.requires.external (omega (arith, many, c.loop-turn-test.false)) c.loop-turn.invariant.turned)
