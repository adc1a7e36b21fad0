use Rattle.std.proofs.Common.{List, map, ap, sym, ◌∙◌, subst}
use Rattle.rsml_syntax.specs.declared.syntax.Spec.{Spec}
use Rattle.rsml_syntax.specs.limits.Checked.{IsChecked}
use Rattle.rsml_meaning.specs.Cells.{cells}
use Rattle.rsml_meaning.specs.Worlds.{IsWorld}
use Rattle.rsml_meaning.specs.Runs.{first_world}
use Rattle.worlds.specs.declared.cell_ends.CellEnds.{CellEnds}
use Rattle.worlds.specs.Ends.{ends_of}
use Rattle.worlds.proofs.Cells.{first_numbers}
use Rattle.worlds.proofs.FirstWorlds.{first_is_world}
use Rattle.worlds.proofs.worlds.Worlds.first.Goals as goal

pub returns-clause-first : goal.returns-clause-first
returns-clause-first c =
    let choices = c.in_ok-choices.ensures ∙ ap (λ (t : Spec). (first_world t).choices) c.self.view_is in
    let numbers = c.in_ok-cells.ensures
    ∙ ap (λ (es : List CellEnds). map (λ (e : CellEnds). e.initial) es) c.as_slice.ensures.value
    ∙ first_numbers (cells c.args.self.now) c.self.inside.ends.items (c.self.invariant.cells_are ∙ ap (λ (s : Spec). map ends_of (cells s)) c.self.view_is) in
    λ i. record { choices = choices i; cells = numbers i }

pub returns-clause-fits : goal.returns-clause-fits
returns-clause-fits c =
    subst (IsWorld c.args.self.now) (sym (returns-clause-first c)) (first_is_world c.args.self.now (subst IsChecked c.self.view_is c.self.invariant.checked))
