use Rattle.std.proofs.Common.{◌≡◌, ℕ, ◌++◌, codes, decimal, ap}
use Rattle.rsml_meaning.specs.Texts.{text_line}
use Rattle.text_writer.proofs.WritingLemmas.{followed, alike}
use Rattle.analysis.specs.Lines.{event_text, two_events}
use Rattle.analysis.proofs.clash_lines.put_clash.Goals as goal

pub returns : goal.returns
returns g c =
    let x = c.args.clash.now in
    let s = c.args.texts.now in
    let same : c.from.result ≡ x.round = cc in
    alike (ap (λ (n : ℕ). text_line (codes "clash " ++ (event_text s x.start ++ (codes " round " ++ (decimal n ++ two_events s x.one x.two))))) same)
    (followed (followed c.put.ensures (followed c.put_event.ensures (followed c.put-2.ensures (followed c.put_number.ensures c.put_two.ensures)))) c.put_line_end.ensures)
