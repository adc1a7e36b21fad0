use Rattle.std.proofs.Common.{◌++◌, List, ℕ, ap, ◌∙◌}
use Rattle.std.specs.Prelude.{codes}
use Rattle.rsml_syntax.specs.declared.syntax.Spec.{Spec}
use Rattle.rsml_meaning.specs.Texts.{text_line}
use Rattle.text_writer.proofs.WritingLemmas.{followed, alike}
use Rattle.coverage.proofs.texts.put_name.Goals as goal

pub returns : goal.returns
returns g c =
    let same = c.bytes.ensures ∙ ap (λ (z : Spec). z.name) c.spec.ensures.same in
    alike (ap (λ (name : List ℕ). text_line (codes "cover " ++ name)) same) (followed (followed c.put.ensures c.put-2.ensures) c.put_line_end.ensures)
