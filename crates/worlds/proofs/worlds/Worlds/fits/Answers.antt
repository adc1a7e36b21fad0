use Rattle.std.proofs.Common.{Bool, ◌&&◌, List, ℕ, ℤ, ap, ◌∙◌}
use Rattle.rsml_syntax.specs.declared.syntax.Spec.{Spec}
use Rattle.rsml_meaning.specs.Cells.{cells, is_of}
use Rattle.rsml_meaning.specs.Instances.{components}
use Rattle.rsml_meaning.specs.Worlds.{is_choice, is_world}
use Rattle.std.specs.Cmp.Lexicographic.{pointwise}
use Rattle.worlds.specs.declared.cell_ends.CellEnds.{CellEnds}
use Rattle.worlds.specs.Ends.{is_between, written}
use Rattle.worlds.proofs.Cells.{cells_fit}
use Rattle.worlds.proofs.worlds.Worlds.fits.Goals as goal

-- src/worlds.rt:87:5
pub returns-then-fits : goal.returns-then-fits
returns-then-fits c =
    let held = c.are_between.ensures
    ∙ ap (λ (es : List CellEnds). pointwise (λ e n. is_between (written e) n) es c.as_slice-then-fits-2.result.now) c.as_slice-then-fits.ensures.value
    ∙ ap (λ (ns : List ℤ). pointwise (λ e n. is_between (written e) n) c.self.inside.ends.items ns) c.as_slice-then-fits-2.ensures
    ∙ cells_fit (cells c.self.inside.tree) c.self.inside.ends.items c.args.world.now.cells c.self.invariant.cells_are in
    let chosen = c.if-fits.ensures ∙ ap (λ (ks : List ℕ). pointwise is_choice (components c.self.inside.tree) ks) c.as_slice.ensures in
    held ∙ ap (λ (b : Bool). b && pointwise (λ x n. is_of x.numbers n) (cells c.self.inside.tree) c.args.world.now.cells) chosen
    ∙ ap (λ (s : Spec). is_world s c.args.world.now) c.self.view_is
