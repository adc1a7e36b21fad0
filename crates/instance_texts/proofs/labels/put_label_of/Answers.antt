use Rattle.std.proofs.Common.{◌≡◌, ◌∷◌, [], ◌++◌, length, rules, ap, sym, ◌∙◌}
use Rattle.rsml_meaning.specs.Words.{Path}
use Rattle.text_writer.proofs.WritingLemmas.{followed, alike}
use Rattle.instance_texts.proofs.LabelLemmas.{component_is, last_is, label_joined}
use Rattle.instance_texts.proofs.labels.put_label_of.Goals as goal

pub returns-in-Some : goal.returns-in-Some
returns-in-Some g c t below n source target =
    let split : c.args.source.now ≡ c.in-Some.component.now ++ (c.in-Some.step.now ∷ []) = search rules in
    let whole : t.source ≡ c.in-Some.component.now ++ (c.in-Some.step.now ∷ []) = source ∙ split in
    let same : c.in-Some.component.now ≡ t.component = component_is t c.in-Some.component.now c.in-Some.step.now below whole in
    alike (label_joined t c.in-Some.component.now c.args.ordinal same (sym n))
    (followed c.put_start.ensures (c.put_action.ensures t (ap (λ (p : Path). length p) (sym same)) (last_is t c.in-Some.component.now c.in-Some.step.now whole) target))
