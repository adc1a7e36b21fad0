use Rattle.std.proofs.Common.{subst, sym}
use Rattle.std.specs.Prelude.{Bool, IfOk}
use Rattle.rsml_syntax.specs.declared.world.World.{World}
use Rattle.bdd_core.specs.Diagram.{IsRef}
use Rattle.guard_encode.specs.Encoding.{Encoding, Finds, FindsExactly, Keeps, Tells, TellsExactly}
use Rattle.guard_encode.proofs.encoder.Encoder.decided.Goals as goal

pub decide-requires : goal.decide-requires
decide-requires c = subst (λ (e : Encoding). IsRef e.diagram c.args.f) (sym c.begin.ensures) c.requires

pub returns-clause-keeps : goal.returns-clause-keeps
returns-clause-keeps c = subst (λ (e : Encoding). Keeps e c.decide.new.self) c.begin.ensures c.decide.ensures.keeps

pub returns-clause-answer : goal.returns-clause-answer
returns-clause-answer c =
    subst (λ (e : Encoding). IfOk c.decide.result (λ r. (truth : World → Bool) → Tells e truth c.args.f → TellsExactly c.decide.new.self truth r))
    c.begin.ensures c.decide.ensures.answer

pub returns-clause-found : goal.returns-clause-found
returns-clause-found c =
    subst (λ (e : Encoding). IfOk c.decide.result (λ r. (truth : World → Bool) → Finds e truth c.args.f → FindsExactly c.decide.new.self truth r))
    c.begin.ensures c.decide.ensures.found
