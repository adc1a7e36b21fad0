use Rattle.std.proofs.Common.{◌≡◌, Some, sym, ap, ◌∙◌}
use Rattle.rsml_meaning.specs.Report.{length_text}
use Rattle.text_writer.proofs.WritingLemmas.{alike}
use Rattle.analysis.proofs.chain_lines.put_length.Goals as goal

pub returns-in-Some : goal.returns-in-Some
returns-in-Some g c =
    let read : Some c.from.result ≡ Some c.in-Some.length = cc in
    let is : c.args.length ≡ Some c.in-Some.length = cc in
    alike (ap length_text (read ∙ sym is)) c.put_number.ensures
