use Rattle.std.proofs.Common.{◌≡◌, ◌<◌, length, ap, ◌∙◌, subst, arith}
use Rattle.std.proofs.lemmas.Result.{IfOk-weaker}
use Rattle.rsml_syntax.specs.declared.syntax.Spec.{Spec}
use Rattle.rsml_meaning.specs.Groups.{groups}
use Rattle.elaborate.specs.Machine.{GroundMachine}
use Rattle.state_tree.proofs.Lists.{within_get}
use Rattle.gap_notes.proofs.Keeping.{there_on}
use Rattle.gap_notes.proofs.failing.condition.Goals as goal

pub condition-requires : goal.condition-requires
condition-requires c =
    let own : c.groups.result.now ≡ c.args.encoder.now.machine.base.spec = c.groups.ensures ∙ ap (λ (m : GroundMachine). m.base.spec) c.machine.ensures in
    let less : c.args.group < length (groups c.groups.result.now) = let count = c.count.ensures in omega (arith, count) in
    subst (λ (s : Spec). c.args.group < length (groups s)) own less

pub returns-clause-is_ref : goal.returns-clause-is_ref
returns-clause-is_ref c =
    let new = c.condition.new.self in
    let own : c.groups.result.now ≡ c.args.encoder.now.machine.base.spec = c.groups.ensures ∙ ap (λ (m : GroundMachine). m.base.spec) c.machine.ensures in
    let first : c.args.group < length (groups c.groups.result.now) = let count = c.count.ensures in omega (arith, count) in
    let before = subst (λ (s : Spec). c.args.group < length (groups s)) own first in
    let less = there_on c.args.encoder.now new c.args.group c.condition.ensures.keeps before in
    let there = within_get (groups new.machine.base.spec) c.args.group less in
    IfOk-weaker c.condition.result _ _ (λ r h. (h there.0 there.1).is_ref) c.condition.ensures.answer
