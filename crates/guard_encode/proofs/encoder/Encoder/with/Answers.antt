use Rattle.std.proofs.Common.{All, length, sym, subst}
use Rattle.rsml_meaning.specs.Cells.{cells}
use Rattle.rsml_ground.specs.Truths.{Grounded}
use Rattle.keyed_levels.specs.Keyed.{PhraseFits}
use Rattle.guard_encode.proofs.encoder.Encoder.with.Goals as goal

pub new-requires-clause-beside : goal.new-requires-clause-beside
new-requires-clause-beside c = subst (λ (g : Grounded). All (PhraseFits (length (cells g.spec))) c.args.plan.beside.items) (sym c.macros.ensures) c.requires
