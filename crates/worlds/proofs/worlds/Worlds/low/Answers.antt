use Rattle.std.proofs.Common.{◌≡◌, ◌<◌, map, length, refl, ap, ◌∙◌, arith, rules, w64, FitsSigned}
use Rattle.std.proofs.lemmas.Int.{to_z-of_z}
use Rattle.rsml_syntax.specs.declared.syntax.Spec.{Spec}
use Rattle.rsml_meaning.specs.Cells.{cells}
use Rattle.worlds.specs.Ends.{Ends, ends_of, written}
use Rattle.worlds.proofs.Cells.{as_many, kept_at}
use Rattle.worlds.proofs.worlds.Worlds.low.Goals as goal

pub index-requires : goal.index-requires
index-requires c =
    let es = c.self.inside.ends.items in
    let many = as_many (cells c.args.self.now) es (c.self.invariant.cells_are ∙ ap (λ (s : Spec). map ends_of (cells s)) c.self.view_is) in
    let l : c.args.cell < length es = omega (arith, many, c.requires) in
    omega (arith, l)

pub returns : goal.returns
returns c = λ d at.
    let es = c.self.inside.ends.items in
    let are : map written es ≡ map ends_of (cells c.args.self.now) = c.self.invariant.cells_are ∙ ap (λ (s : Spec). map ends_of (cells s)) c.self.view_is in
    let many = as_many (cells c.args.self.now) es are in
    let l : c.args.cell < length es = omega (arith, many, c.requires) in
    let small : FitsSigned w64 c.index.result.now.low = search rules in
    to_z-of_z w64 c.index.result.now.low small ∙ ap (λ (e : Ends). e.1.0) (kept_at (cells c.args.self.now) es es c.args.cell c.index.result.now d are refl c.index.ensures l at)
