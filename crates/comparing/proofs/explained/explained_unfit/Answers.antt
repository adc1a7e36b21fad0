use Rattle.std.proofs.Common.{ℕ, List, ◌++◌, refl, ap, ◌∙◌}
use Rattle.comparing.proofs.explained.explained_unfit.Goals as goal

pub returns : goal.returns
returns c = (
  refl,
  record {
    report = c.in_ok-text.text.items;
    notes = c.in_ok-notes.notes.items;
    split = c.in_ok-put.ensures.ok ∙ ap (λ (ns : List ℕ). c.in_ok-text.text.items ++ ns) c.as_slice.ensures.value;
    reported = c.in_ok-text.ensures;
    comments = c.in_ok-notes.ensures;
  },
)
