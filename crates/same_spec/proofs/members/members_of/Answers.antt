use Rattle.std.proofs.Common.{◌++◌, ap, ◌∙◌}
use Rattle.rsml_ground.specs.Truths.{Grounded}
use Rattle.ground_groups.specs.declared.group.Member.TheVariants as variants
use Rattle.same_spec.specs.Members.{all_cases, numbered}
use Rattle.same_spec.proofs.MemberLemmas.{members_are}
use Rattle.same_spec.proofs.members.members_of.Goals as goal

pub returns : goal.returns
returns c =
    let second = c.push_send_cases.new.list.items in
    members_are c.args.machine.now c.push_transitions.new.list.items second c.push_functions.new.list.items c.transitions.result c.send_cases.result c.law.ensures c.transitions.ensures c.send_cases.ensures
    (c.in_ok-push_transitions.ensures ∙ ap (λ xs. xs ++ numbered variants.Transition c.transitions.result) c.new-members.ensures.items) c.in_ok-push_send_cases.ensures
    (c.in_ok-push_functions.ensures ∙ ap (λ (g : Grounded). second ++ all_cases (λ k. k) g.definitions) c.macros.ensures)
