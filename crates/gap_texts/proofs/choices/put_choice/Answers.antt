use Rattle.std.proofs.Common.{ℕ, Option, sym, ap}
use Rattle.text_writer.proofs.WritingLemmas.{alike}
use Rattle.gap_texts.specs.GapText.{choice_row}
use Rattle.gap_texts.proofs.choices.put_choice.Goals as goal

pub returns-in-Some : goal.returns-in-Some
returns-in-Some g c = λ d at. alike (ap (λ (x : Option ℕ). choice_row (d, x)) (sym c.in-Some.is)) (c.put_place.ensures d at)
