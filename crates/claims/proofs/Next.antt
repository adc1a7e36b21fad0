-- In a certified specification a micro-step at a moment that may come leaves the next world.
use Rattle.std.proofs.Common.{List, sym, ap, ◌∙◌, subst}
use Rattle.std.proofs.lemmas.List.Sorted.{IsPermutation-refl}
use Rattle.rsml_syntax.specs.declared.syntax.Spec.{Spec}
use Rattle.rsml_meaning.specs.Truth.{view}
use Rattle.rsml_meaning.specs.Certified.{Certified}
use Rattle.rsml_meaning.specs.Steps.{enabled_transitions, AreOutcomes}
use Rattle.rsml_meaning.specs.Scoped.{WellScoped}
use Rattle.rsml_meaning.proofs.MicroSteps.{rounds_are_determinate}
use Rattle.rsml_meaning.proofs.Sources.{enabled_active}
use Rattle.rsml_meaning.proofs.Turns.{order_does_not_matter}
use Rattle.claim_syntax.specs.declared.claim.Claim.{Claim}
use Rattle.claims.specs.Claims.{all_true}
use Rattle.claims.specs.Inductive.{Moment}
use Rattle.claims.specs.Breaks.{IsBreak}
use Rattle.claims.specs.NextWorlds.{TurnFalse}
use Rattle.claims.specs.Laws.{NextWorldsAreLeft, BreaksTurnFalse}

pub next_worlds_are_left : NextWorldsAreLeft
next_worlds_are_left s m r scoped cert may comes =
    let w = m.world in
    let taken = enabled_transitions s (view s w) m.present in
    let apart = (rounds_are_determinate s w m.start m.round m.present scoped cert may.is_world may.ends).apart in
    let outcomes = subst (λ ts. AreOutcomes s ts w.choices r.world.choices) comes.all_taken comes.children in
    let e = order_does_not_matter s w taken taken r.world.choices (enabled_active s w m.present) apart (IsPermutation-refl taken) outcomes in
    λ t. record { choices = sym e t; cells = comes.numbers t }

breaks_turn : (s : Spec) (cs : List Claim) (m : Moment) → WellScoped s → Certified s → IsBreak s cs m → TurnFalse s cs m
breaks_turn s cs m scoped cert b = record {
  may_come = b.may_come;
  listed = b.listed;
  before = b.before;
  after = ap (all_true s cs) (sym (next_worlds_are_left s m b.result scoped cert b.may_come b.comes_to)) ∙ b.after;
}

turns_break : (s : Spec) (cs : List Claim) (m : Moment) → WellScoped s → Certified s → TurnFalse s cs m → IsBreak s cs m
turns_break s cs m scoped cert f =
    let one = (rounds_are_determinate s m.world m.start m.round m.present scoped cert f.may_come.is_world f.may_come.ends).result in
    record {
      may_come = f.may_come;
      listed = f.listed;
      before = f.before;
      result = one.0;
      comes_to = one.1;
      after = ap (all_true s cs) (next_worlds_are_left s m one.0 scoped cert f.may_come one.1) ∙ f.after;
    }

pub breaks_turn_false : BreaksTurnFalse
breaks_turn_false s cs m scoped cert = (breaks_turn s cs m scoped cert, turns_break s cs m scoped cert)
