use Rattle.std.proofs.Common.{List, ℕ, ◌++◌, refl, ap, ◌∙◌}
use Rattle.comparing.specs.Outputs.{of_first}
use Rattle.pairing.proofs.ShowLemmas.{shown_noted}
use Rattle.pairing.proofs.starting.faulty.Goals as goal

pub returns : goal.returns
returns c =
    let told = of_first c.args.line.items in
    record {
      answer = refl;
      text = shown_noted c.args.action told c.in_ok-notes.notes.items _ c.in_ok-notes.ensures
          (c.in_ok-put.ensures.ok ∙ ap (λ (n : List ℕ). c.in_ok-told.told.items ++ n) c.as_slice-2.ensures.value
          ∙ ap (λ (t : List ℕ). t ++ c.in_ok-notes.notes.items) (c.in_ok-told.ensures ∙ ap of_first c.as_slice.ensures.value));
    }
