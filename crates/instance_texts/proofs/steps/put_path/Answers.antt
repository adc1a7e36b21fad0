use Rattle.std.proofs.Common.{◌≡◌, ◌∷◌, ◌++◌, flat_map, rules, ap, ◌∙◌}
use Rattle.rsml_meaning.specs.Words.{Instance, Path, at}
use Rattle.rsml_meaning.specs.Texts.{instance_text, path_text}
use Rattle.text_writer.proofs.WritingLemmas.{followed, alike}
use Rattle.instance_texts.specs.Dotted.{dotted}
use Rattle.instance_texts.proofs.PathTexts.{path_steps}
use Rattle.instance_texts.proofs.steps.put_path.Goals as goal

pub returns-in-Some : goal.returns-in-Some
returns-in-Some g c =
    let same : at c.bytes.result.now c.first.inside.index ≡ c.in-Some.first.now = cc in
    let whole : c.in-Some.first.now ∷ c.in-Some.further.now ≡ c.args.steps.now = search rules in
    alike (ap (λ (x : Instance). instance_text x ++ flat_map dotted c.in-Some.further.now) same
    ∙ path_steps c.in-Some.first.now c.in-Some.further.now ∙ ap (λ (p : Path). path_text p) whole)
    (followed c.put_instance.ensures c.put_further.ensures)
