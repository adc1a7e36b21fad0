use Rattle.std.proofs.Common.{◌<◌, length, sym, subst, IfOk}
use Rattle.std.proofs.lemmas.Result.{IfOk-weaker}
use Rattle.rsml_meaning.specs.Cells.{cells}
use Rattle.rsml_ground.specs.Truths.{Grounded}
use Rattle.keyed_levels.specs.Keyed.{AreKeyed}
use Rattle.settled_worlds.specs.Settled.{cell_levels, IsProjected}
use Rattle.guard_encode.specs.Encoding.{Encoding, worlds_of}
use Rattle.guard_encode.proofs.StepLemmas.{own_exact, settled_stay}
use Rattle.guard_encode.proofs.CellLemmas.{own_projected}
use Rattle.guard_encode.proofs.encoder.Encoder.projected.Goals as goal

pub project-requires-clause-room : goal.project-requires-clause-room
project-requires-clause-room c = c.self.invariant.stored.same_levels

pub project-requires-clause-exact : goal.project-requires-clause-exact
project-requires-clause-exact c = own_exact _ _ _ _ c.self.invariant

pub project-requires-clause-cell : goal.project-requires-clause-cell
project-requires-clause-cell c =
    subst (λ (g : Grounded). c.args.cell < length (cells g.spec)) (sym c.self.invariant.same)
    (subst (λ (e : Encoding). c.args.cell < length (cells e.machine.base.spec)) (sym c.self.view_is) c.requires.cell)

pub invariant_of-self : goal.invariant_of-self
invariant_of-self c = settled_stay _ _ _ c.project.new.arena _ c.project.new.exact c.project.ensures.keeps c.project.ensures.exact c.self.invariant

pub returns-clause-keyed : goal.returns-clause-keyed
returns-clause-keyed c = subst (λ (e : Encoding). AreKeyed (worlds_of e)) c.self.view_is c.self.invariant.stored.levels

pub returns-clause-answer : goal.returns-clause-answer
returns-clause-answer c =
    subst (λ (e : Encoding). IfOk c.project.result (IsProjected e.diagram c.project.new.arena (worlds_of e) (cell_levels (worlds_of e) c.args.cell) c.args.f)) c.self.view_is
    (IfOk-weaker c.project.result (IsProjected c.self.inside.arena c.project.new.arena c.self.inside.levels (cell_levels c.self.inside.levels c.args.cell) c.args.f) _
    (λ r h. own_projected c.self.inside.machine.now c.self.inside.levels c.self.inside.arena c.project.new.arena c.args.cell c.args.f r c.self.invariant.same h)
    c.project.ensures.answer)
