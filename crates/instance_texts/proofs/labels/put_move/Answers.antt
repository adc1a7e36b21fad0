use Rattle.std.proofs.Common.{◌≡◌, ◌++◌, codes, ap}
use Rattle.rsml_meaning.specs.Words.{Instance, at}
use Rattle.rsml_meaning.specs.Texts.{path_text}
use Rattle.text_writer.proofs.WritingLemmas.{followed, alike}
use Rattle.instance_texts.proofs.labels.put_move.Goals as goal

pub returns : goal.returns
returns g c =
    let same : at c.bytes.result.now c.source.inside.index ≡ c.args.source.now = cc in
    alike (ap (λ (x : Instance). codes " move " ++ (x.name ++ (codes " -> " ++ path_text c.args.target.now))) same)
    (followed c.put.ensures (followed c.put-2.ensures (followed c.put-3.ensures c.put_path.ensures)))
