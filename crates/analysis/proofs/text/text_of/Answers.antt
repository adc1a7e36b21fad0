use Rattle.std.proofs.Common.{◌≡◌, ◌++◌, flat_map, length, map, zip, sym, ap, ◌∙◌, subst, codes, decimal}
use Rattle.std.specs.List.{AllZip}
use Rattle.rsml_meaning.specs.Findings.{IsVerdict}
use Rattle.rsml_syntax.specs.declared.syntax.Spec.{Spec}
use Rattle.rsml_meaning.specs.Groups.{groups}
use Rattle.rsml_meaning.specs.Texts.{text_line}
use Rattle.rsml_meaning.specs.Report.{finding, last_line}
use Rattle.elaborate.specs.Machine.{GroundMachine}
use Rattle.finding_texts.specs.Verdicts.{verdict_of}
use Rattle.text_writer.proofs.WritingLemmas.{followed, alike}
use Rattle.analysis.specs.Lines.{chain_part}
use Rattle.analysis.proofs.Drafts.{finished}
use Rattle.analysis.proofs.text.text_of.Goals as goal

pub put_findings-requires-clause-groups : goal.put_findings-requires-clause-groups
put_findings-requires-clause-groups c =
    c.requires.groups ∙ ap (λ (t : Spec). length (groups t)) (sym (ap (λ (m : GroundMachine). m.base.spec) c.in_ok-findings.ensures ∙ c.requires.machine))

pub put_findings-requires-clause-verdicts : goal.put_findings-requires-clause-verdicts
put_findings-requires-clause-verdicts c =
    subst (λ (t : Spec). AllZip (IsVerdict t) (groups t) (map verdict_of c.args.found.now.verdicts.now))
    (sym (ap (λ (m : GroundMachine). m.base.spec) c.in_ok-findings.ensures ∙ c.requires.machine)) c.requires.verdicts

pub returns : goal.returns
returns c =
    let s = c.args.checked.now in
    let found = c.args.found.now in
    let name : c.name.result.now ≡ s.name = c.name.ensures ∙ ap (λ (t : Spec). t.name) c.requires.machine in
    let texts : c.in_ok-texts.texts ≡ s = c.in_ok-texts.ensures in
    let spec : c.in_ok-findings.findings.base.spec ≡ s = ap (λ (m : GroundMachine). m.base.spec) c.in_ok-findings.ensures ∙ c.requires.machine in
    finished (λ v. v.items) c.finish.result c.new-draft.result c.put_last.new.writer _ c.new-draft.ensures
    (alike (λ i. (text_line (codes "specification " ++ name i) ++ text_line (codes "groups " ++ decimal (c.requires.groups i)))
    ++ (chain_part (texts i) found.externals.now found.loops.now found.clashes.now
    ++ (flat_map (finding (spec i)) (zip (groups (spec i)) (map verdict_of found.verdicts.now)) ++ last_line c.args.refusals)))
    (followed c.put_head.ensures (followed c.put_events.ensures (followed c.put_findings.ensures c.put_last.ensures))))
    c.finish.ensures.ok c.finish.ensures.text
