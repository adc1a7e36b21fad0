use Rattle.std.proofs.Common.{◌≡◌, ℕ, ◌++◌, codes, decimal, ap}
use Rattle.rsml_meaning.specs.Texts.{path_text}
use Rattle.text_writer.proofs.WritingLemmas.{followed, alike}
use Rattle.instance_texts.proofs.labels.put_start.Goals as goal

pub returns : goal.returns
returns g c =
    let same : c.from.result ≡ c.args.ordinal = cc in
    alike (ap (λ (n : ℕ). path_text c.args.component.now ++ (codes " " ++ decimal n)) same)
    (followed c.put_path.ensures (followed c.put.ensures c.put_number.ensures))
