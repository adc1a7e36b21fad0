use Rattle.std.proofs.Common.{◌≡◌, ◌++◌, codes, decimal, ℕ, sym, ap, ◌∙◌, arith}
use Rattle.text_writer.proofs.WritingLemmas.{followed, alike}
use Rattle.reactions.proofs.EventTexts.{small_opening}
use Rattle.reactions.proofs.events.put_opening.Goals as goal

pub returns-in-1 : goal.returns-in-1
returns-in-1 g c = alike (small_opening 1 (omega arith) ∙ ap (λ (n : ℕ). codes "  round " ++ decimal n) (sym c.in-1.is)) c.put.ensures

pub returns-in-2 : goal.returns-in-2
returns-in-2 g c = alike (small_opening 2 (omega arith) ∙ ap (λ (n : ℕ). codes "  round " ++ decimal n) (sym c.in-2.is)) c.put-in-2.ensures

pub returns-in_default : goal.returns-in_default
returns-in_default g c =
    let same : c.from.result ≡ c.args.number = cc in
    alike (ap (λ (n : ℕ). codes "  round " ++ decimal n) same) (followed c.put-in_default.ensures c.put_number.ensures)
