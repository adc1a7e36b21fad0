use Rattle.std.proofs.Common.{◌≡◌, ℕ, ◌++◌, codes, decimal, ap}
use Rattle.rsml_meaning.specs.Texts.{text_line}
use Rattle.text_writer.proofs.WritingLemmas.{followed, alike}
use Rattle.analysis.proofs.head.put_groups.Goals as goal

pub returns : goal.returns
returns g c =
    let same : c.from.result ≡ c.args.groups = cc in
    alike (ap (λ (n : ℕ). text_line (codes "groups " ++ decimal n)) same) (followed (followed c.put.ensures c.put_number.ensures) c.put_line_end.ensures)
