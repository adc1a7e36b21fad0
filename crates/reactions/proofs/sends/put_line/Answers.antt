use Rattle.std.proofs.Common.{◌++◌, codes, flat_map, ap}
use Rattle.rsml_syntax.specs.declared.syntax.Spec.{Spec}
use Rattle.rsml_meaning.specs.Words.{numbered_from}
use Rattle.rsml_meaning.specs.Interfaces.{sends}
use Rattle.rsml_meaning.specs.Texts.{text_line}
use Rattle.text_writer.proofs.WritingLemmas.{followed, alike}
use Rattle.reactions.specs.Lines.{field_at, name_at}
use Rattle.reactions.proofs.sends.put_line.Goals as goal

pub returns : goal.returns
returns g c =
    let fields = flat_map (field_at c.args.sent.now c.args.case) (numbered_from 0 c.args.numbers.now) in
    alike (ap (λ (s : Spec). text_line (codes "    send " ++ (name_at (sends s) c.args.send ++ fields))) c.requires.same)
    (followed (followed c.put.ensures c.put_fields.ensures) c.put_line_end.ensures)
