use Rattle.std.proofs.Common.{◌==◌, ◌&&◌, ℕ, Bool, IfOk, Option, sym, subst}
use Rattle.std.proofs.lemmas.Result.{IfOk-weaker}
use Rattle.rsml_syntax.specs.declared.world.World.{World}
use Rattle.guard_encode.specs.Encoding.{Tells}
use Rattle.guard_encode.proofs.StepLemmas.{told_on}
use Rattle.world_columns.specs.Columns.{is_allowed}
use Rattle.gap_tables.specs.Widening.{child_at}
use Rattle.gap_tables.proofs.components.having.Goals as goal

pub returns-in_ok-chosen-in-Some-clause-answer : goal.returns-in_ok-chosen-in-Some-clause-answer
returns-in_ok-chosen-in-Some-clause-answer c =
    let a = c.args.encoder.now in
    let b = c.choice.new.self in
    let d = c.and.new.self in
    let k = c.args.component in
    subst (λ (child : Option ℕ). IfOk c.and.result (λ r. (truth : World → Bool) → Tells a truth c.args.inside → Tells d (λ v. truth v && is_allowed child (child_at k v)) r)) (sym c.in-Some.is)
    (IfOk-weaker c.and.result _ _
    (λ r h truth told. h truth (λ v. child_at k v == c.in-Some.place) (told_on a b truth c.args.inside c.in_ok-chosen-in-Some.ensures.keeps told) c.in_ok-chosen-in-Some.ensures.answer)
    c.and.ensures.answer)
