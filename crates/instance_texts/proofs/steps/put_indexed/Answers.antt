use Rattle.std.proofs.Common.{◌≡◌, ℕ, [], ◌∷◌, ◌++◌, decimal, ap}
use Rattle.text_writer.proofs.WritingLemmas.{followed, alike}
use Rattle.instance_texts.proofs.steps.put_indexed.Goals as goal

pub returns : goal.returns
returns g c =
    let same : c.from.result ≡ c.args.index = cc in
    alike (ap (λ (n : ℕ). c.args.name.now ++ (91 ∷ (decimal n ++ (93 ∷ [])))) same)
    (followed c.put.ensures (followed c.put-2.ensures (followed c.put_number.ensures c.put-3.ensures)))
