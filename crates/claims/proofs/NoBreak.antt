-- Claims that are true in the first world are inductive exactly where they have no break.
use Rattle.std.proofs.Common.{◌≡◌, Bool, true, false, ◌&&◌, List, filter, IsTrue, refl, sym, ap, ◌∙◌, subst, true≢false}
use Rattle.rsml_syntax.specs.declared.syntax.Spec.{Spec}
use Rattle.rsml_syntax.specs.declared.world.World.{World}
use Rattle.rsml_meaning.specs.Words.{Instance, same_instance, has, Each, IsOne}
use Rattle.rsml_meaning.specs.Instances.{events}
use Rattle.rsml_meaning.specs.Truth.{view}
use Rattle.rsml_meaning.specs.Transitions.{transitions, is_enabled}
use Rattle.rsml_meaning.specs.Interfaces.{send_cases, is_sending}
use Rattle.rsml_meaning.specs.Chains.{Ends}
use Rattle.rsml_meaning.specs.Steps.{enabled_transitions, enabled_sends}
use Rattle.rsml_meaning.proofs.Same.{instance_same, instance_itself}
use Rattle.rsml_meaning.specs.Scoped.{WellScoped, IsEvent}
use Rattle.rsml_meaning.proofs.Lists.{each_filter, each_more, each_ones, each_one, one_filter, any_one, any_some, filter_same, same_truth}
use Rattle.rsml_meaning.specs.MicroSteps.{Result, IsResult}
use Rattle.rsml_meaning.proofs.Lines.{present_ends}
use Rattle.claims.specs.Claims.{all_true}
use Rattle.claims.specs.Inductive.{Moment, MayCome, ComesTo}
use Rattle.claims.specs.Laws.{InductiveHaveNoBreak, NoBreakIsInductive}

pub inductive_have_no_break : InductiveHaveNoBreak
inductive_have_no_break s cs i m b = true≢false (sym (i.kept m b.result b.may_come b.before b.comes_to) ∙ b.after)

-- The present events in their order, each once.

abbrev listed : Spec → List Instance → List Instance
listed s present = filter (has present) (events s)

-- What is known of an event in that list.
abbrev Listed : Spec → List Instance → Instance → Type 0
Listed s present e = IsOne e (events s) × (has present e ≡ true)

each_listed : (s : Spec) (present : List Instance) → Each (Listed s present) (listed s present)
each_listed s present = each_filter (λ e. IsOne e (events s)) (has present) (events s) (each_ones (λ e. IsOne e (events s)) (events s) (λ e m. m))

-- an event is among them exactly where it is present
same_has : (s : Spec) (present : List Instance) (e : Instance) → IsOne e (events s) → has (listed s present) e ≡ has present e
same_has s present e m = same_truth (has (listed s present) e) (has present e) is_present is_listed
  where
    is_present : has (listed s present) e ≡ true → has present e ≡ true
    is_present h =
        let y = any_some (same_instance e) (listed s present) h in
        subst (λ z. has present z ≡ true) (sym (instance_same e y.0 y.2)) (each_one (Listed s present) (listed s present) y.0 (each_listed s present) y.1).1

    is_listed : has present e ≡ true → has (listed s present) e ≡ true
    is_listed h = any_one (same_instance e) (listed s present) e (one_filter (has present) (events s) e m h) (instance_itself e)

-- a micro-step on present events is one on them in their order
same_result : (s : Spec) → WellScoped s → (w : World) (present : List Instance) (r : Result) → IsResult s w present r → IsResult s w (listed s present) r
same_result s scoped w present r h = record {
  all_taken = h.all_taken ∙ same_taken;
  all_sent = h.all_sent ∙ same_sent;
  values = h.values;
  children = h.children;
  numbers = h.numbers;
  all_raised = h.all_raised;
}
  where
    same_taken : enabled_transitions s (view s w) present ≡ enabled_transitions s (view s w) (listed s present)
    same_taken =
        filter_same (λ t. has present t.event && is_enabled (view s w) t) (λ t. has (listed s present) t.event && is_enabled (view s w) t) (transitions s)
        (λ t m. ap (λ b. b && is_enabled (view s w) t) (sym (same_has s present t.event (each_one (λ t. IsEvent s t.event) (transitions s) t scoped.triggers m))))

    same_sent : enabled_sends s (view s w) present ≡ enabled_sends s (view s w) (listed s present)
    same_sent =
        filter_same (λ c. has present c.event && is_sending (view s w) c) (λ c. has (listed s present) c.event && is_sending (view s w) c) (send_cases s)
        (λ c m. ap (λ b. b && is_sending (view s w) c) (sym (same_has s present c.event (each_one (λ c. IsEvent s c.event) (send_cases s) c scoped.send_triggers m))))

-- the moment with its events in their order
abbrev in_order : Spec → Moment → Moment
in_order s m = record m { present = listed s m.present }

-- it may come as well
still_may_come : (s : Spec) (m : Moment) → MayCome s m → MayCome s (in_order s m)
still_may_come s m h = record {
  external = h.external;
  ends = each_more (Listed s m.present) (Ends s m.start m.round) (λ e p. present_ends s m.start m.round m.present h.ends e p.1) (listed s m.present) (each_listed s m.present);
  is_world = h.is_world;
}

pub no_break_is_inductive : NoBreakIsInductive
no_break_is_inductive s cs scoped first none = record { first = first; kept = λ m r may before comes. by_test m r may before comes (all_true s cs r.world) refl }
  where
    by_test : (m : Moment) (r : Result) → MayCome s m → IsTrue (all_true s cs m.world) → ComesTo s m r → (b : Bool) → all_true s cs r.world ≡ b → IsTrue (all_true s cs r.world)
    by_test m r may before comes true e = e
    by_test m r may before comes false e = absurd (none (in_order s m) (record {
      may_come = still_may_come s m may;
      listed = filter_same (has m.present) (has (listed s m.present)) (events s) (λ f k. sym (same_has s m.present f k));
      before = before;
      result = r;
      comes_to = same_result s scoped m.world m.present r comes;
      after = e;
    }))
