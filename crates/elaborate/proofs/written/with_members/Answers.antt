use Rattle.std.proofs.Common.{List, subst}
use Rattle.rsml_ground.specs.declared.definitions.Definition.{Definition}
use Rattle.rsml_ground.specs.Grounded.{IsGrounded}
use Rattle.elaborate.proofs.MemberLemmas.{both_stand}
use Rattle.elaborate.proofs.written.with_members.Goals as goal

pub returns : goal.returns
returns c =
    let s = c.args.lookup.now in
    let qs = c.ground_send_cases.new.phrases in
    both_stand c.ground_transitions.new.phrases qs s c.args.built.definitions.items c.in_ok-transitions.transitions.items c.in_ok-send_cases.send_cases.items c.in_ok-transitions.ensures.are c.in_ok-send_cases.ensures.kept
    (subst (λ (ds : List Definition). IsGrounded (record { spec = s; phrases = qs; definitions = ds })) c.as_slice-2.ensures.value c.in_ok-send_cases.ensures.after) c.in_ok-send_cases.ensures.are
