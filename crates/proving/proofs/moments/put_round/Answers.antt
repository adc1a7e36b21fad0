use Rattle.std.proofs.Common.{◌≡◌, ℕ, ◌++◌, codes, decimal, ap}
use Rattle.rsml_meaning.specs.Texts.{text_line}
use Rattle.finding_texts.specs.Numbers.{event_text}
use Rattle.text_writer.proofs.WritingLemmas.{followed, alike}
use Rattle.proving.proofs.moments.put_round.Goals as goal

pub returns : goal.returns
returns g c =
    let same : c.from.result ≡ c.args.round = cc in
    alike (ap (λ (n : ℕ). text_line (codes "  round " ++ (decimal n ++ (codes " of " ++ event_text c.args.texts.now c.args.start)))) same)
    (followed (followed c.put.ensures (followed c.put_number.ensures (followed c.put-2.ensures c.put_event.ensures))) c.put_line_end.ensures)
