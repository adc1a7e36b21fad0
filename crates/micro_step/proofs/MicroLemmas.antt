-- A micro-step over numbers is one of the specification.
use Rattle.std.proofs.Common.{◌≡◌, ℕ, suc, Bool, ◌&&◌, true, List, [], ◌∷◌, fold, ℤ, length, refl, sym, ◌∙◌, subst, arith}
use Rattle.std.specs.Cmp.{first_so, second_so}
use Rattle.std.specs.Cmp.Lexicographic.{pointwise}
use Rattle.rsml_syntax.specs.declared.syntax.Spec.{Spec}
use Rattle.rsml_syntax.specs.declared.world.World.{World}
use Rattle.rsml_meaning.specs.Words.{Each, Instance, has as has_event}
use Rattle.rsml_meaning.specs.Chains.{Ends}
use Rattle.rsml_meaning.specs.Certified.{Certified}
use Rattle.rsml_meaning.proofs.rules.Scoped.{rules_give_scopes}
use Rattle.rsml_meaning.specs.MicroSteps.{IsDeterminate}
use Rattle.rsml_meaning.specs.RunLaws.{MicroStepsLeaveWorlds, RoundsAreDeterminate}
use Rattle.rsml_meaning.specs.Instances.{components}
use Rattle.rsml_meaning.specs.Cells.{cells, is_of}
use Rattle.rsml_meaning.specs.Worlds.{IsWorld, is_choice}
use Rattle.rsml_meaning.specs.Truth.{view}
use Rattle.rsml_meaning.specs.Transitions.{transitions, is_enabled}
use Rattle.rsml_meaning.specs.Interfaces.{SendCaseInstance, send_cases, is_sending}
use Rattle.rsml_meaning.specs.Steps.{AreOutcomes, enabled_transitions, enabled_sends}
use Rattle.elaborate.specs.Machine.{GroundMachine, StandsFor}
use Rattle.event_graph.specs.declared.events.Events.{Events}
use Rattle.event_graph.specs.Sets.{has}
use Rattle.micro_step.specs.Places.{ArePlaces}
use Rattle.micro_step.specs.Micros.{events_in, IsMicro}
use Rattle.micro_step.specs.Numbers.{raised_at, after_number, taken_at, sent_at, of_cases, AreOfCase}
use Rattle.micro_step.proofs.MachineLemmas.{taken_numbers, sent_numbers, raised_are, moves_are}
use Rattle.micro_step.proofs.PlaceLemmas.{passing_places}
use Rattle.micro_step.proofs.TurnLemmas.{turns_are_outcomes}
use Rattle.micro_step.proofs.ValueLemmas.{sent_with}

same_many : {A B : Type 0} (f : A → B → Bool) (xs : List A) (ys : List B) → pointwise f xs ys ≡ true → length ys ≡ length xs
same_many f [] [] p = refl
same_many f [] (y ∷ ys) p = absurd (let no : ⊥ = cc in no)
same_many f (x ∷ xs) [] p = absurd (let no : ⊥ = cc in no)
same_many f (x ∷ xs) (y ∷ ys) p = let l = same_many f xs ys (second_so (f x y) (pointwise f xs ys) p) in omega (arith, l)

pub choices_are : (s : Spec) (w : World) → IsWorld s w → pointwise is_choice (components s) w.choices ≡ true
choices_are s w is = first_so (pointwise is_choice (components s) w.choices) (pointwise (λ c n. is_of c.numbers n) (cells s) w.cells) is

-- a world has a child for each component
pub world_choices : (s : Spec) (w : World) → IsWorld s w → length w.choices ≡ length (components s)
world_choices s w is = same_many is_choice (components s) w.choices (choices_are s w is)

pub is_micro : (m : GroundMachine) (w w' : World) (before after : Events) (taken sent : List ℕ) (values : List (List ℤ)) → StandsFor m → IsWorld m.base.spec w
    → taken ≡ taken_at m w before → sent ≡ sent_at m w before → Each (AreOfCase m w values) sent
    → w'.cells ≡ w.cells → w'.choices ≡ fold (after_number m) w.choices taken → ((q : ℕ) → has after q ≡ raised_at m taken q)
    → IsMicro m.base.spec w before taken sent (of_cases values sent) w' after
is_micro m w w' before after taken sent values stands world t c each numbers choices raised =
    let s = m.base.spec in
    let ts = enabled_transitions s (view s w) (events_in s before) in
    let all_taken = t ∙ taken_numbers m w before stands in
    let there = subst (ArePlaces (transitions s) ts) (sym all_taken) (passing_places (λ x. has_event (events_in s before) x.event && is_enabled (view s w) x) (transitions s)) in
    let cs = enabled_sends s (view s w) (events_in s before) in
    let all_sent = c ∙ sent_numbers m w before stands in
    let sending = subst (ArePlaces (send_cases s) cs) (sym all_sent) (passing_places (λ x. has_event (events_in s before) x.event && is_sending (view s w) x) (send_cases s)) in
    let with_values = sent_with m w values stands cs sent sending each in
    record {
      transitions_taken = ts;
      cases_sent = with_values.sent;
      taken_are = there;
      sent_are = subst (λ (xs : List SendCaseInstance). ArePlaces (send_cases s) xs sent) (sym with_values.cases_are) sending;
      values_are = with_values.numbers_are;
      all_taken = all_taken;
      all_sent = all_sent;
      micro = record {
        all_taken = refl;
        all_sent = with_values.cases_are;
        values = with_values.allowed;
        children = subst (AreOutcomes s ts w.choices) (sym (choices ∙ moves_are m stands ts taken w.choices there)) (turns_are_outcomes s ts w.choices (world_choices s w world));
        numbers = numbers;
        all_raised = raised_are m after ts taken stands there raised;
      };
    }

-- a micro-step leaves a world
pub leaves_world : (m : GroundMachine) (w w' : World) (before after : Events) (taken sent : List ℕ) (values : List (List ℤ)) → MicroStepsLeaveWorlds → StandsFor m → IsWorld m.base.spec w
    → IsMicro m.base.spec w before taken sent values w' after → IsWorld m.base.spec w'
leaves_world m w w' before after taken sent values law stands world micro =
    law m.base.spec w (events_in m.base.spec before) (record { taken = micro.transitions_taken; sent = micro.cases_sent; world = w'; raised = events_in m.base.spec after })
    (rules_give_scopes m.base.spec stands.grounded.checked.keeps.rules) world micro.micro

-- in a certified specification it is determinate, and what is left ends longer chains
pub is_determinate : (m : GroundMachine) (w w' : World) (before after : Events) (taken sent : List ℕ) (values : List (List ℤ)) → RoundsAreDeterminate → StandsFor m → IsWorld m.base.spec w
    → IsMicro m.base.spec w before taken sent values w' after → Certified m.base.spec → (x : Instance) (n : ℕ) → Each (Ends m.base.spec x n) (events_in m.base.spec before)
    → IsDeterminate m.base.spec w x n (events_in m.base.spec before) × Each (Ends m.base.spec x (suc n)) (events_in m.base.spec after)
is_determinate m w w' before after taken sent values law stands world micro cert x n ends =
    let d = law m.base.spec w x n (events_in m.base.spec before) (rules_give_scopes m.base.spec stands.grounded.checked.keeps.rules) cert world ends in
    (d, d.longer (record { taken = micro.transitions_taken; sent = micro.cases_sent; world = w'; raised = events_in m.base.spec after }) micro.micro)
