use Rattle.std.proofs.Common.{List, map, sym, subst}
use Rattle.std.specs.List.{AllZip}
use Rattle.rsml_syntax.specs.declared.syntax.Spec.{Spec}
use Rattle.rsml_meaning.specs.Findings.{IsVerdict}
use Rattle.rsml_meaning.specs.Groups.{groups}
use Rattle.finding_texts.specs.Verdicts.{verdict_of}
use Rattle.finding_texts.specs.declared.verdict.Verdict.{Verdict}
use Rattle.analysis.proofs.analysing.with_chains.Goals as goal

pub report-requires-clause-verdicts : goal.report-requires-clause-verdicts
report-requires-clause-verdicts c =
    let s = c.args.machine.now.base.spec in
    let of_machine = subst (λ (vs : List Verdict). AllZip (IsVerdict s) (groups s) (map verdict_of vs)) (sym c.as_slice.ensures.value) c.in_ok-verdicts.ensures in
    subst (λ (t : Spec). AllZip (IsVerdict t) (groups t) (map verdict_of c.as_slice.result.now)) c.requires.machine of_machine

pub returns-clause-verdicts : goal.returns-clause-verdicts
returns-clause-verdicts c =
    subst (λ (t : Spec). AllZip (IsVerdict t) (groups t) (map verdict_of c.in_ok-verdicts.verdicts.items)) c.requires.machine c.in_ok-verdicts.ensures
