use Rattle.std.proofs.Common.{◌<◌, length, sym, ap, ◌∙◌, subst, slice_get}
use Rattle.rsml_meaning.specs.Findings.{none, two}
use Rattle.rsml_meaning.specs.Groups.{groups}
use Rattle.rsml_meaning.specs.Report.{finding}
use Rattle.rsml_meaning.specs.Worlds.{IsWorld}
use Rattle.rsml_ground.specs.Truths.{Grounded}
use Rattle.rsml_ground.proofs.Alike.{truths_count}
use Rattle.elaborate.specs.Machine.{GroundMachine}
use Rattle.text_writer.proofs.WritingLemmas.{alike}
use Rattle.finding_texts.specs.declared.verdict.Verdict.{Verdict}
use Rattle.finding_texts.specs.Verdicts.{verdict_of, TellsWorld}
use Rattle.finding_texts.proofs.findings.Findings.put.Goals as goal

pub put_missing-requires-clause-group : goal.put_missing-requires-clause-group
put_missing-requires-clause-group g c = subst (λ (m : GroundMachine). c.args.group < length (groups m.base.spec)) (sym c.self.view_is) c.requires.group

pub put_missing-requires-clause-world : goal.put_missing-requires-clause-world
put_missing-requires-clause-world g c =
    subst (λ (m : GroundMachine). IsWorld m.base.spec c.in-Missing.world) (sym c.self.view_is)
    (subst (λ (v : Verdict). TellsWorld c.args.self.now.base.spec v) c.in-Missing.is c.requires.world)

pub fill-requires-clause-world : goal.fill-requires-clause-world
fill-requires-clause-world g c =
    subst (λ (b : Grounded). IsWorld b.spec c.in-Double.world) (sym c.macros.ensures)
    (subst (λ (m : GroundMachine). IsWorld m.base.spec c.in-Double.world) (sym c.self.view_is)
    (subst (λ (v : Verdict). TellsWorld c.args.self.now.base.spec v) c.in-Double.is c.requires.world))

pub put_double-requires-clause-group : goal.put_double-requires-clause-group
put_double-requires-clause-group g c = subst (λ (m : GroundMachine). c.args.group < length (groups m.base.spec)) (sym c.self.view_is) c.requires.group

pub put_double-requires-clause-world : goal.put_double-requires-clause-world
put_double-requires-clause-world g c =
    subst (λ (m : GroundMachine). IsWorld m.base.spec c.in-Double.world) (sym c.self.view_is)
    (subst (λ (v : Verdict). TellsWorld c.args.self.now.base.spec v) c.in-Double.is c.requires.world)

pub invariant_of-self : goal.invariant_of-self
invariant_of-self g c =
    (c.self.invariant.0, ap length c.fill.ensures.truths ∙ truths_count c.macros.result.now c.in-Double.world ∙ ap (λ (b : Grounded). length b.phrases) c.macros.ensures)

pub returns-in-Missing-clause-text : goal.returns-in-Missing-clause-text
returns-in-Missing-clause-text g c = λ x at.
    alike (ap (λ (m : GroundMachine). finding m.base.spec (x, none c.in-Missing.world)) c.self.view_is
    ∙ ap (λ (v : Verdict). finding c.args.self.now.base.spec (x, verdict_of v)) (sym c.in-Missing.is))
    (c.put_missing.ensures x (ap (λ (m : GroundMachine). slice_get (groups m.base.spec) c.args.group) c.self.view_is ∙ at))

pub returns-in-Double-clause-text : goal.returns-in-Double-clause-text
returns-in-Double-clause-text g c = λ x at.
    alike (ap (λ (m : GroundMachine). finding m.base.spec (x, two c.in-Double.world)) c.self.view_is
    ∙ ap (λ (v : Verdict). finding c.args.self.now.base.spec (x, verdict_of v)) (sym c.in-Double.is))
    (c.put_double.ensures x (ap (λ (m : GroundMachine). slice_get (groups m.base.spec) c.args.group) c.self.view_is ∙ at))
