use Rattle.std.proofs.Common.{◌≡◌, ◌<◌, length, sym, ap, ◌∙◌, subst, arith}
use Rattle.std.proofs.lemmas.Result.{IfOk-weaker}
use Rattle.rsml_syntax.specs.declared.syntax.Spec.{Spec}
use Rattle.rsml_meaning.specs.Groups.{groups}
use Rattle.elaborate.specs.Machine.{GroundMachine}
use Rattle.group_verdicts.proofs.FoundLemmas.{ref_at}
use Rattle.world_columns.specs.Failing.{enables_none, enables_two}
use Rattle.gap_notes.proofs.Keeping.{there_on}
use Rattle.gap_notes.proofs.failing.failing_worlds.Goals as goal

pub none_enabled-requires-clause-group : goal.none_enabled-requires-clause-group
none_enabled-requires-clause-group c =
    let own : c.groups.result.now ≡ c.args.encoder.now.machine.base.spec = c.groups.ensures ∙ ap (λ (m : GroundMachine). m.base.spec) c.machine-machine.ensures in
    let less : c.args.group < length (groups c.groups.result.now) = let count = c.count.ensures in omega (arith, count) in
    subst (λ (s : Spec). c.args.group < length (groups s)) own less

pub none_enabled-requires-clause-counts : goal.none_enabled-requires-clause-counts
none_enabled-requires-clause-counts c = c.in_ok-counts.ensures c.args.encoder.now (sym c.machine-machine.ensures)

pub two_enabled-requires-clause-group : goal.two_enabled-requires-clause-group
two_enabled-requires-clause-group c =
    let own : c.groups.result.now ≡ c.args.encoder.now.machine.base.spec = c.groups.ensures ∙ ap (λ (m : GroundMachine). m.base.spec) c.machine-machine.ensures in
    let less : c.args.group < length (groups c.groups.result.now) = let count = c.count.ensures in omega (arith, count) in
    subst (λ (s : Spec). c.args.group < length (groups s)) own less

pub two_enabled-requires-clause-counts : goal.two_enabled-requires-clause-counts
two_enabled-requires-clause-counts c = c.in_ok-counts.ensures c.args.encoder.now (sym c.machine-machine.ensures)

pub returns-in-Missing-clause-is_ref : goal.returns-in-Missing-clause-is_ref
returns-in-Missing-clause-is_ref c =
    let new = c.none_enabled.new.encoder in
    let own : c.groups.result.now ≡ c.args.encoder.now.machine.base.spec = c.groups.ensures ∙ ap (λ (m : GroundMachine). m.base.spec) c.machine-machine.ensures in
    let first : c.args.group < length (groups c.groups.result.now) = let count = c.count.ensures in omega (arith, count) in
    let before = subst (λ (s : Spec). c.args.group < length (groups s)) own first in
    let less = there_on c.args.encoder.now new c.args.group c.none_enabled.ensures.keeps before in
    IfOk-weaker c.none_enabled.result _ _ (λ r h. ref_at new c.args.group r enables_none less h) c.none_enabled.ensures.answer

pub returns-clause-is_ref : goal.returns-clause-is_ref
returns-clause-is_ref c =
    let new = c.two_enabled.new.encoder in
    let own : c.groups.result.now ≡ c.args.encoder.now.machine.base.spec = c.groups.ensures ∙ ap (λ (m : GroundMachine). m.base.spec) c.machine-machine.ensures in
    let first : c.args.group < length (groups c.groups.result.now) = let count = c.count.ensures in omega (arith, count) in
    let before = subst (λ (s : Spec). c.args.group < length (groups s)) own first in
    let less = there_on c.args.encoder.now new c.args.group c.two_enabled.ensures.keeps before in
    IfOk-weaker c.two_enabled.result _ _ (λ r h. ref_at new c.args.group r enables_two less h) c.two_enabled.ensures.answer
