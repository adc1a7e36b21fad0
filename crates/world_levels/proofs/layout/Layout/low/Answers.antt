use Rattle.std.proofs.Common.{slice_get, ap, ◌∙◌, rules, w64, FitsSigned}
use Rattle.std.proofs.lemmas.Int.{to_z-of_z}
use Rattle.rsml_meaning.specs.Cells.{cells}
use Rattle.world_levels.specs.Spelling.{WorldLevels}
use Rattle.world_levels.proofs.layout.Layout.low.Goals as goal

pub returns : goal.returns
returns c = λ d at.
    let small : FitsSigned w64 c.low.result = search rules in
    to_z-of_z w64 c.low.result small ∙ c.low.ensures d (ap (λ (l : WorldLevels). slice_get (cells l.spec) c.args.cell) c.self.view_is ∙ at)
