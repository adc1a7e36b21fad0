use Rattle.std.proofs.Common.{◌≡◌, ◌+◌, ◌≤◌, ℕ, suc, List, [], ◌∷◌, ◌++◌, length, refl, sym, ap, ◌∙◌, subst, arith}
use Rattle.rsml_syntax.specs.declared.syntax.Spec.{Spec}
use Rattle.rsml_meaning.specs.Words.{Each, Instance}
use Rattle.rsml_meaning.specs.Certified.{Certified}
use Rattle.rsml_meaning.specs.Chains.{Ends}
use Rattle.rsml_meaning.specs.Instances.{events}
use Rattle.rsml_meaning.specs.Scoped.{WellScoped}
use Rattle.rsml_meaning.proofs.rules.Scoped.{rules_give_scopes}
use Rattle.reactions.specs.Stepping.{RoundIsDone}
use Rattle.simulator.specs.Simulation.{Simulation}
use Rattle.simulator.proofs.RoundLemmas.{none_left, some_external}
use Rattle.rsml_meaning.specs.Steps.{Round}
use Rattle.coverage.specs.Coverage.{Coverage, coverage}
use Rattle.coverage.specs.Rounds.{HasAllNumbers, IsLast}
use Rattle.coverage.specs.Steps.{StepIsCounted}
use Rattle.coverage.proofs.StepLemmas.{Turned, all_numbers, no_turn, next_turn, step_of, spec_now, transitions_now, cases_now}
use Rattle.coverage.proofs.counts.Counts.count_step.Goals as goal

pub loop-turn-init : goal.loop-turn-init
loop-turn-init c =
    let m = c.args.simulator.now in
    record { rest = refl; few = omega arith; turned = no_turn m.spec m.world m.present c.args.self.now }

-- there is room for one round more

pub count_round-requires-clause-same : goal.count_round-requires-clause-same
count_round-requires-clause-same c =
    let i = c.loop-turn.invariant in
    let m = c.args.simulator.now in
    let few : c.loop-turn._turn ≤ 1024 = omega (arith, c.loop-turn-test.true, c.events-turn-end.ensures.few) in
    ap (λ (z : Simulation). z.spec) c.round.ensures.rest ∙ ap (λ (z : Simulation). z.spec) i.rest
    ∙ sym (spec_now m.spec m.world m.present c.args.self.now c.loop-turn._turn _ _ c.loop-turn.self i.turned c.requires.same c.requires.room few)

pub count_round-requires-clause-numbers : goal.count_round-requires-clause-numbers
count_round-requires-clause-numbers c =
    let i = c.loop-turn.invariant in
    let start = c.args.simulator.now in
    let m = c.loop-turn.simulator in
    let n = c.round.new.self in
    let few : c.loop-turn._turn ≤ 1024 = omega (arith, c.loop-turn-test.true, c.events-turn-end.ensures.few) in
    let same = ap (λ (z : Simulation). z.spec) i.rest ∙ sym (spec_now start.spec start.world start.present c.args.self.now c.loop-turn._turn _ _ c.loop-turn.self i.turned c.requires.same c.requires.room few) in
    subst (λ (z : Spec). HasAllNumbers z n.last) same (all_numbers m.spec m.world m.present n.last n.world n.present (c.round.ensures.done c.if-not-round.false))

pub count_round-requires-clause-transitions : goal.count_round-requires-clause-transitions
count_round-requires-clause-transitions c =
    let i = c.loop-turn.invariant in
    let m = c.args.simulator.now in
    let few : c.loop-turn._turn ≤ 1024 = omega (arith, c.loop-turn-test.true, c.events-turn-end.ensures.few) in
    transitions_now m.spec m.world m.present c.args.self.now c.loop-turn._turn _ _ c.loop-turn.self i.turned c.requires.same c.requires.room few

pub count_round-requires-clause-send_cases : goal.count_round-requires-clause-send_cases
count_round-requires-clause-send_cases c =
    let i = c.loop-turn.invariant in
    let m = c.args.simulator.now in
    let few : c.loop-turn._turn ≤ 1024 = omega (arith, c.loop-turn-test.true, c.events-turn-end.ensures.few) in
    cases_now m.spec m.world m.present c.args.self.now c.loop-turn._turn _ _ c.loop-turn.self i.turned c.requires.same c.requires.room few

-- one round more
pub loop-turn-preserved : goal.loop-turn-preserved
loop-turn-preserved c =
    let i = c.loop-turn.invariant in
    let start = c.args.simulator.now in
    let m = c.loop-turn.simulator in
    let n = c.round.new.self in
    let last = c.count_round.new.simulator in
    let same : last ≡ n = c.count_round.ensures.unchanged in
    let some = c.if-not-round.false in
    let few : c.loop-turn._turn ≤ 1024 = omega (arith, c.loop-turn-test.true, c.events-turn-end.ensures.few) in
    let spec : m.spec ≡ start.spec = ap (λ (z : Simulation). z.spec) i.rest in
    let counts : c.loop-turn.self.spec ≡ start.spec = spec_now start.spec start.world start.present c.args.self.now c.loop-turn._turn _ _ c.loop-turn.self i.turned c.requires.same c.requires.room few in
    let done = subst (λ (z : Spec). RoundIsDone z m.world m.present n.last n.world n.present) spec (c.round.ensures.done some) in
    let longer = subst (λ (z : Spec). (x : Instance) (k : ℕ) → Each (Ends z x k) m.present → Each (Ends z x (suc k)) n.present) spec (c.round.ensures.longer some) in
    let counted = subst (λ (z : Spec). (rs : List Round) (r : Round) → IsLast n.last r → c.loop-turn.self ≡ coverage z rs → c.count_round.new.self ≡ coverage z (rs ++ r ∷ [])) counts c.count_round.ensures.counted in
    let turned = next_turn start.spec start.world start.present c.args.self.now c.loop-turn._turn m.world m.present c.loop-turn.self i.turned n.last n.world n.present c.count_round.new.self
    (c.round.ensures.some some) done longer counted in
    let rest = c.round.ensures.rest ∙ ap (λ (z : Simulation). record z { world = n.world; present = n.present; last = n.last }) i.rest in
    record {
      rest = subst (λ (z : Simulation). z ≡ record start { world = z.world; present = z.present; last = z.last }) (sym same) rest;
      few = omega (arith, c.loop-turn-test.true, c.events-turn-end.ensures.few);
      turned =
          subst (λ (z : Simulation). Turned start.spec start.world start.present (c.loop-turn._turn + 1) z.world z.present c.args.self.now c.count_round.new.self) (sym same)
          turned;
    }

-- no event is left

pub returns-then-not-round-clause-none : goal.returns-then-not-round-clause-none
returns-then-not-round-clause-none c =
    let idle = c.round.ensures.none c.if-not-round.true in
    ap (λ (z : Simulation). z.present) idle.1 ∙ idle.0

pub returns-then-not-round-clause-counted : goal.returns-then-not-round-clause-counted
returns-then-not-round-clause-counted c =
    let i = c.loop-turn.invariant in
    let start = c.args.simulator.now in
    let m = c.loop-turn.simulator in
    let idle = c.round.ensures.none c.if-not-round.true in
    let few : c.loop-turn._turn ≤ 1024 = omega (arith, c.loop-turn-test.true, c.events-turn-end.ensures.few) in
    subst (λ (z : Simulation). StepIsCounted start.spec start.world start.present z.world c.args.self.now c.loop-turn.self) (sym idle.1)
    (step_of start.spec start.world start.present c.args.self.now c.loop-turn._turn m.world m.present c.loop-turn.self i.turned idle.0
    (some_external start.spec start.present c.requires.external) few)

pub returns-then-not-round-clause-rest : goal.returns-then-not-round-clause-rest
returns-then-not-round-clause-rest c =
    let start = c.args.simulator.now in
    let idle = c.round.ensures.none c.if-not-round.true in
    subst (λ (z : Simulation). z ≡ record start { world = z.world; present = z.present; last = z.last }) (sym idle.1) c.loop-turn.invariant.rest

-- there is none after as many rounds as there are events

pub returns-clause-none : goal.returns-clause-none
returns-clause-none c =
    let i = c.loop-turn.invariant in
    let start = c.args.simulator.now in
    let machine = c.self.inside.machine.now in
    let spec : start.spec ≡ machine.base.spec = c.requires.same ∙ sym (ap (λ (d : Coverage). d.spec) c.self.view_is) in
    let scoped : WellScoped machine.base.spec = rules_give_scopes machine.base.spec c.law.ensures.grounded.checked.keeps.rules in
    let many : c.events-turn-end.result ≡ length (events start.spec) = c.events-turn-end.ensures.count ∙ ap (λ (z : Spec). length (events z)) (sym spec) in
    none_left start.spec start.present c.loop-turn._turn c.loop-turn.simulator.present (subst WellScoped (sym spec) scoped) (subst Certified (sym c.requires.same) c.requires.certified)
    c.requires.external (omega (arith, many, c.loop-turn-test.false)) i.turned.longer

pub returns-clause-counted : goal.returns-clause-counted
returns-clause-counted c =
    let i = c.loop-turn.invariant in
    let start = c.args.simulator.now in
    let machine = c.self.inside.machine.now in
    let m = c.loop-turn.simulator in
    let spec : start.spec ≡ machine.base.spec = c.requires.same ∙ sym (ap (λ (d : Coverage). d.spec) c.self.view_is) in
    let scoped : WellScoped machine.base.spec = rules_give_scopes machine.base.spec c.law.ensures.grounded.checked.keeps.rules in
    let many : c.events-turn-end.result ≡ length (events start.spec) = c.events-turn-end.ensures.count ∙ ap (λ (z : Spec). length (events z)) (sym spec) in
    let none = none_left start.spec start.present c.loop-turn._turn m.present (subst WellScoped (sym spec) scoped) (subst Certified (sym c.requires.same) c.requires.certified)
    c.requires.external (omega (arith, many, c.loop-turn-test.false)) i.turned.longer in
    step_of start.spec start.world start.present c.args.self.now c.loop-turn._turn m.world m.present c.loop-turn.self i.turned none
    (some_external start.spec start.present c.requires.external) i.few
