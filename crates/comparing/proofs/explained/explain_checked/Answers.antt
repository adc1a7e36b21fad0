use Rattle.std.proofs.Common.{ℕ, List, ◌++◌, ap, ◌∙◌}
use Rattle.comparing.proofs.CompareLemmas.{pair_told}
use Rattle.comparing.proofs.explained.explain_checked.Goals as goal

pub returns : goal.returns
returns c = record {
  report = c.in_ok-text.text.items;
  notes = c.in_ok-notes.notes.items;
  split = c.in_ok-put.ensures.ok ∙ ap (λ (ns : List ℕ). c.in_ok-text.text.items ++ ns) c.as_slice.ensures.value;
  reported = pair_told c.args.one.checked.now c.args.two.checked.now c.in_ok-comparison.comparison _ _ c.in_ok-comparison.ensures c.status_of-status.ensures c.in_ok-text.ensures;
  comments = c.in_ok-notes.ensures;
}
