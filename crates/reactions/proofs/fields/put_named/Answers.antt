use Rattle.std.proofs.Common.{◌++◌, codes, List, ℕ, ℤ, ap, ◌∙◌, rules, w64, FitsSigned}
use Rattle.std.proofs.lemmas.Int.{to_z-of_z}
use Rattle.text_writer.proofs.WritingLemmas.{followed, alike}
use Rattle.reactions.specs.Lines.{number_at}
use Rattle.reactions.proofs.fields.put_named.Goals as goal

pub returns : goal.returns
returns g c =
    let small : FitsSigned w64 c.args.number = search rules in
    alike (ap (λ (n : ℤ). codes " " ++ (c.bytes.result.now ++ (codes "=" ++ number_at c.args.sent.now c.args.case c.args.place n))) (to_z-of_z w64 c.args.number small)
    ∙ ap (λ (name : List ℕ). codes " " ++ (name ++ (codes "=" ++ number_at c.args.sent.now c.args.case c.args.place c.args.number))) c.bytes.ensures)
    (followed c.put.ensures (followed c.put-2.ensures (followed c.put-3.ensures c.put_sent.ensures)))
