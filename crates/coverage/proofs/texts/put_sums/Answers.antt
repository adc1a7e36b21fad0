use Rattle.std.proofs.Common.{◌++◌, sym, append_assoc}
use Rattle.std.specs.Prelude.{codes, decimal}
use Rattle.text_writer.proofs.WritingLemmas.{followed, alike}
use Rattle.coverage.proofs.texts.put_sums.Goals as goal

pub returns : goal.returns
returns g c =
    let first = codes "events " ++ decimal c.args.events in
    let second = codes "uncovered " ++ decimal c.args.zeros in
    alike (sym (append_assoc first (codes "\n") (second ++ codes "\n")))
    (followed (followed c.put.ensures c.put_number.ensures) (followed (followed c.put-2.ensures c.put_number-2.ensures) c.put_line_end.ensures))
