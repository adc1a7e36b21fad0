use Rattle.std.proofs.Common.{Bool, sym, subst, IfOk}
use Rattle.rsml_syntax.specs.declared.world.World.{World}
use Rattle.guard_encode.specs.Encoding.{Encoding, Keeps, Tells}
use Rattle.guard_encode.proofs.BoundLemmas.{keeps_without}
use Rattle.world_columns.specs.Gaps.{AreGaps}
use Rattle.gap_tables.proofs.gaps.columns.Goals as goal

pub returns-clause-keeps : goal.returns-clause-keeps
returns-clause-keeps c =
    subst (λ (e : Encoding). Keeps c.args.encoder.now e) (sym c.without_bounds.ensures) (keeps_without c.args.encoder.now c.columns_by-found.new.encoder c.requires.bounds c.columns_by-found.ensures.keeps)

pub returns-clause-answer : goal.returns-clause-answer
returns-clause-answer c =
    subst (λ (e : Encoding). IfOk c.columns_by-found.result (λ g. (truth : World → Bool) → Tells c.args.encoder.now truth c.args.f → AreGaps e.machine.base.spec truth c.args.most g.columns g.more))
    (sym c.without_bounds.ensures) c.columns_by-found.ensures.answer
