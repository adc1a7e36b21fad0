use Rattle.std.proofs.Common.{◌≡◌, ℕ, zero, suc, List, [], ◌∷◌, Option, Some, None, refl, sym, ◌∙◌, ap, slice_get, slice_index_or, option_copied}
use Rattle.rsml_syntax.specs.declared.syntax.Cell.{Cell}
use Rattle.rsml_syntax.specs.declared.syntax.Cell.TheVariants as cells
use Rattle.ground_claims.proofs.claim.ClaimRow.cell.Goals as goal

none_there : (xs : List Cell) (k : ℕ) (d : Cell) → None ≡ slice_get xs k → d ≡ slice_index_or xs k d
none_there [] k d h = refl
none_there (x ∷ xs) zero d h = absurd (let denied : ⊥ = cc in denied)
none_there (x ∷ xs) (suc k) d h = none_there xs k d h

pub returns-in-None : goal.returns-in-None
returns-in-None c = none_there c.args.self.now.cells c.args.column cells.Dot (sym (ap option_copied c.in-None.is) ∙ c.get.ensures)
