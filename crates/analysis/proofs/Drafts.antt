-- What is written to an empty draft is what it gives.
use Rattle.std.proofs.Common.{◌≡◌, ℕ, true, List, ◌++◌, Some, Result, Ok, Err, IfOk, ◌↔◌, refl, ap, ◌∙◌}
use Rattle.std.specs.Result.{IsOk}
use Rattle.std.proofs.lemmas.Option.{same_Some}
use Rattle.text_writer.specs.Writes.{Writes}
use Rattle.text_writer.specs.DraftState.{DraftState, empty, writer_state}

pub finished : {T E : Type 0} (items : T → List ℕ) (r : Result T E) (start end : DraftState) (t : List ℕ) → start ≡ empty → Writes (writer_state start) (Some start.text) t (writer_state end) (Some end.text)
    → IsOk r ↔ (end.whole ≡ true) → IfOk r (λ v. items v ≡ end.text) → IfOk r (λ v. items v ≡ t)
finished items (Ok v) start end t e h ok given =
    let written : end.text ≡ start.text ++ t = same_Some end.text (start.text ++ t) (h.all (ok.0 refl)) in
    given ∙ written ∙ ap (λ (d : DraftState). d.text ++ t) e
finished items (Err x) start end t e h ok given = tt
