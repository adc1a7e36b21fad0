use Rattle.std.proofs.Common.{◌≡◌, ℕ, ap}
use Rattle.rsml_meaning.specs.Texts.{case_label}
use Rattle.text_writer.proofs.WritingLemmas.{followed, alike}
use Rattle.instance_texts.proofs.labels.put_case_label.Goals as goal

pub returns : goal.returns
returns g c =
    let same : c.from.result ≡ c.args.ordinal = cc in
    alike (ap (λ (n : ℕ). case_label n) same) (followed c.put.ensures c.put_number.ensures)
