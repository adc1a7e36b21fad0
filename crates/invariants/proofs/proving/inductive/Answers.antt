use Rattle.std.proofs.Common.{Option, sym, ◌∙◌, subst}
use Rattle.std.specs.List.{All}
use Rattle.std.specs.Prelude.{MatchOption, ℕ}
use Rattle.rsml_syntax.specs.declared.syntax.Spec.{Spec}
use Rattle.rsml_meaning.specs.Runs.{first_world}
use Rattle.state_tree.specs.Numbers.{AreChoices}
use Rattle.ground_claims.specs.StandsFor.{HasStates}
use Rattle.micro_step.proofs.MicroLemmas.{choices_are}
use Rattle.invariants.specs.declared.found.Found.{Found}
use Rattle.invariants.specs.Safe.{IsFound, IsSafeStart}
use Rattle.invariants.proofs.EndLemmas.{break_is, first_holds, first_is, inductive_of, same_truths, states_there}
use Rattle.invariants.proofs.proving.inductive.Goals as goal

pub first_false-requires-clause-choices : goal.first_false-requires-clause-choices
first_false-requires-clause-choices c =
    subst (λ (s : Spec). AreChoices s c.in_ok-first.first.choices) (sym c.tree.ensures) (choices_are c.args.machine.now.base.spec c.in_ok-first.first c.in_ok-first.ensures.world)

pub first_false-requires-clause-there : goal.first_false-requires-clause-there
first_false-requires-clause-there c =
    subst (λ (s : Spec). All (HasStates s) c.args.claims.now) (sym c.tree.ensures) (states_there c.args.machine.now.base.spec c.requires.claims.0 c.args.claims.now c.requires.claims.1)

pub first_found-requires-clause-there : goal.first_found-requires-clause-there
first_found-requires-clause-there c = states_there c.args.machine.now.base.spec c.requires.claims.0 c.args.claims.now c.requires.claims.1

pub break_of-requires-clause-there : goal.break_of-requires-clause-there
break_of-requires-clause-there c = states_there c.args.machine.now.base.spec c.requires.claims.0 c.args.claims.now c.requires.claims.1

pub returns-in-Some : goal.returns-in-Some
returns-in-Some c = λ cs are.
    sym (first_is c.args.machine.now.base.spec cs c.args.claims.now c.in_ok-first.first c.tree.result.now are c.tree.ensures c.in_ok-first.ensures.first) ∙ sym c.in-Some.ensures

pub returns-in-Some-broken : goal.returns-in-Some-broken
returns-in-Some-broken c = λ cs are.
    let m = c.args.machine.now in
    let s = m.base.spec in
    let gs = c.args.claims.now in
    let f = c.in-Some-broken.found in
    let is = subst (λ (o : Option Found). MatchOption o ((k : ℕ) → IsSafeStart m gs k) (IsFound m gs)) c.in-Some-broken.is c.in_ok-broken.ensures in (
      sym (same_truths s cs gs (first_world s) are) ∙ first_holds s c.tree.result.now gs c.in_ok-first.first c.tree.ensures c.in_ok-first.ensures.first (sym c.in_default.ensures),
      break_is m c.law.ensures cs gs are c.requires.certified f is c.in_ok-least-in-Some-broken.least c.in_ok-least-in-Some-broken.ensures,
    )

pub returns : goal.returns
returns c = λ cs are.
    let m = c.args.machine.now in
    let s = m.base.spec in
    let gs = c.args.claims.now in
    inductive_of m c.law.ensures cs gs are c.requires.certified
    (first_holds s c.tree.result.now gs c.in_ok-first.first c.tree.ensures c.in_ok-first.ensures.first (sym c.in_default.ensures))
    (subst (λ (o : Option Found). MatchOption o ((k : ℕ) → IsSafeStart m gs k) (IsFound m gs)) c.in-None.is c.in_ok-broken.ensures)
