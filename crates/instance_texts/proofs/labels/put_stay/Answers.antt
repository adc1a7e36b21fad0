use Rattle.std.proofs.Common.{◌≡◌, ◌++◌, codes, ap}
use Rattle.rsml_meaning.specs.Words.{Instance, at}
use Rattle.text_writer.proofs.WritingLemmas.{followed, alike}
use Rattle.instance_texts.proofs.labels.put_stay.Goals as goal

pub returns : goal.returns
returns g c =
    let same : at c.bytes.result.now c.source.inside.index ≡ c.args.source.now = cc in
    alike (ap (λ (x : Instance). codes " stay " ++ x.name) same) (followed c.put.ensures c.put-2.ensures)
