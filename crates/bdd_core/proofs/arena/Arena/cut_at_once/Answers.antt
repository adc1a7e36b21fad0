-- The simple cases are lemmas on one diagram.
use Rattle.std.proofs.Common.{◌≡◌, sym, subst, arith, if◌then◌else◌}
use Rattle.bdd_core.specs.Diagram.{level_of}
use Rattle.bdd_core.specs.Steps.{IsCut}
use Rattle.bdd_core.proofs.CutLemmas.{cut-constant, cut-itself, cut-child}
use Rattle.bdd_core.proofs.arena.Arena.cut_at_once.Goals as goal
use Rattle.bdd_core.proofs.arena.Arena.cut_at_once.Goals.{then-f-lt2-via-then-f-lt2, then-f-lt2-via-else-f-lt2+then-level-top}

pub returns-then-f-lt2-clause-right : goal.returns-then-f-lt2-clause-right
returns-then-f-lt2-clause-right c = elim c.then-f-lt2.branch [
  | then-f-lt2-via-then-f-lt2 w ↦ cut-constant c.args.self.now c.args.f c.args.level c.args.value c.requires w.if-f-lt2.true
  | then-f-lt2-via-else-f-lt2+then-level-top w ↦
      cut-itself c.args.self.now c.level-top.ensures.reduced c.args.f c.args.level c.args.value c.requires (omega (arith, c.level-top.ensures.level, w.if-level-top.true))
]

pub returns-then-value-clause-right : goal.returns-then-value-clause-right
returns-then-value-clause-right c =
    let here : level_of c.args.self.now c.args.f ≡ c.level-top.result = sym c.level-top.ensures.level in
    subst (λ l. IsCut c.args.self.now c.args.f l c.args.value c.children-low.result.1) c.if-top-level.true
    (subst (λ b. IsCut c.args.self.now c.args.f c.level-top.result c.args.value (if b then c.children-low.result.1 else c.children-low.result.0)) c.if-value.true
    (cut-child c.args.self.now c.level-top.ensures.reduced c.args.f c.level-top.result c.children-low.result.0 c.children-low.result.1 c.args.value here c.children-low.ensures))

pub returns-else-value-clause-right : goal.returns-else-value-clause-right
returns-else-value-clause-right c =
    let here : level_of c.args.self.now c.args.f ≡ c.level-top.result = sym c.level-top.ensures.level in
    subst (λ l. IsCut c.args.self.now c.args.f l c.args.value c.children-low.result.0) c.if-top-level.true
    (subst (λ b. IsCut c.args.self.now c.args.f c.level-top.result c.args.value (if b then c.children-low.result.1 else c.children-low.result.0)) c.if-value.false
    (cut-child c.args.self.now c.level-top.ensures.reduced c.args.f c.level-top.result c.children-low.result.0 c.children-low.result.1 c.args.value here c.children-low.ensures))
