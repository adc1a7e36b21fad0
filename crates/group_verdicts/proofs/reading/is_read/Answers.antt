use Rattle.std.proofs.Common.{true, sym, ap, ◌∙◌, option_copied}
use Rattle.std.specs.Option.{unwrap_or}
use Rattle.std.proofs.lemmas.Option.{unwrap_or-slice_get}
use Rattle.group_verdicts.proofs.reading.is_read.Goals as goal

pub returns-in-None : goal.returns-in-None
returns-in-None c =
    ap (λ mark. unwrap_or mark true) (sym (ap option_copied c.in-None.is) ∙ c.get.ensures)
    ∙ unwrap_or-slice_get c.args.marks.now c.args.part true
