use Rattle.std.proofs.Common.{◌≡◌, flat_map, take, zip, map}
use Rattle.rsml_meaning.specs.Groups.{groups}
use Rattle.rsml_meaning.specs.Report.{finding}
use Rattle.finding_texts.specs.Verdicts.{verdict_of}
use Rattle.text_writer.specs.Writes.{Writes}
use Rattle.analysis.proofs.finding_lines.put_findings.Given as goal

abbrev pub invariant-loop-group : goal.invariant-loop-group
invariant-loop-group g l = record {
  same : l.findings ≡ l.fn.findings;
  text : Writes (g.W.Writer.state l.fn.writer) (g.W.Writer.text l.fn.writer)
      (flat_map (finding l.fn.findings.base.spec) (take l.group (zip (groups l.fn.findings.base.spec) (map verdict_of l.verdicts))))
      (g.W.Writer.state l.writer) (g.W.Writer.text l.writer);
}
