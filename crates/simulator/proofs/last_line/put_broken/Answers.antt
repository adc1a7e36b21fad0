use Rattle.std.proofs.Common.{ℕ, ap}
use Rattle.std.specs.Prelude.{decimal}
use Rattle.text_writer.proofs.WritingLemmas.{followed, alike}
use Rattle.simulator.proofs.last_line.put_broken.Goals as goal

pub returns : goal.returns
returns g c =
    let rule = alike (ap (λ (n : ℕ). decimal n) c.rule_number.ensures) c.put_number-2.ensures in
    followed (followed c.put.ensures (followed c.put_number.ensures (followed c.put-2.ensures rule))) c.put_line_end.ensures
