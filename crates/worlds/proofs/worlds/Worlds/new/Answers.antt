use Rattle.std.proofs.Common.{map, ap, sym, subst, ◌∙◌}
use Rattle.rsml_syntax.specs.declared.syntax.Spec.{Spec}
use Rattle.rsml_syntax.specs.limits.Checked.{IsChecked}
use Rattle.rsml_meaning.specs.Cells.{cells}
use Rattle.worlds.specs.Ends.{ends_of}
use Rattle.worlds.proofs.worlds.Worlds.new.Goals as goal

pub invariant_of-result : goal.invariant_of-result
invariant_of-result c = record {
  checked = subst IsChecked (sym c.in_ok-tree.ensures) c.spec.ensures.checked;
  cells_are = c.in_ok-ends.ensures ∙ ap (λ (s : Spec). map ends_of (cells s)) (sym c.in_ok-tree.ensures);
}
