use Rattle.std.proofs.Common.{subst}
use Rattle.std.specs.Prelude.{MatchOption}
use Rattle.event_graph.specs.Sets.{has}
use Rattle.group_verdicts.specs.Least.{IsLeastWorld}
use Rattle.invariants.specs.Asked.{breaks}
use Rattle.invariants.specs.Safe.{IsSafe}
use Rattle.invariants.proofs.SubsetLemmas.{none_broken, none_earlier, one_fits}
use Rattle.invariants.proofs.subsets.present_broken.Goals as goal

pub returns-in-Some-clause-answer : goal.returns-in-Some-clause-answer
returns-in-Some-clause-answer c =
    let m = c.args.machine.now in
    let claims = c.args.claims.now in
    let set = has c.args.events.now in
    let present = has c.args.present.now in
    record {
      passes = one_fits set present c.args.from c.requires.front c.requires.rest;
      world = subst (λ o. MatchOption o (IsSafe m claims present) (IsLeastWorld m.base.spec (breaks m claims present))) c.in-Some.is c.in_ok-least.ensures.answer;
      first = none_earlier set present c.args.from c.requires.front c.requires.rest m claims;
    }

pub returns-in-None-clause-answer : goal.returns-in-None-clause-answer
returns-in-None-clause-answer c =
    let m = c.args.machine.now in
    let claims = c.args.claims.now in
    let present = has c.args.present.now in
    none_broken (has c.args.events.now) present c.args.from c.requires.front c.requires.rest m claims
    (subst (λ o. MatchOption o (IsSafe m claims present) (IsLeastWorld m.base.spec (breaks m claims present))) c.in-None.is c.in_ok-least.ensures.answer)
