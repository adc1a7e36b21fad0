use Rattle.std.proofs.Common.{◌≡◌, ℕ, ◌+◌, ap}
use Rattle.rsml_meaning.specs.Texts.{case_label}
use Rattle.text_writer.proofs.WritingLemmas.{followed, alike}
use Rattle.finding_texts.proofs.members.put_case_at.Goals as goal

pub returns : goal.returns
returns g c =
    let same : c.from.result ≡ c.args.place = cc in
    alike (ap (λ (n : ℕ). case_label (n + 1)) same) (followed c.put.ensures c.put_number.ensures)
