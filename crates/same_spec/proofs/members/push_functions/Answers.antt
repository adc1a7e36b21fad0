use Rattle.same_spec.proofs.MemberLemmas.{cases_joined}
use Rattle.same_spec.proofs.members.push_functions.Goals as goal

pub loop-number-preserved : goal.loop-number-preserved
loop-number-preserved c =
    cases_joined c.args.list.now.items c.loop-number.list.items c.push_definition.new.list.items (λ k. k) c.args.macros.now.definitions c.loop-number.number c.definition.result.now c.definition.ensures.is
    c.loop-number.invariant c.in_ok-push_definition.ensures
