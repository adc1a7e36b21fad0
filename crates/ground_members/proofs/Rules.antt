-- What the rules and limits give of transitions and of cases of sends: what each names is there.
use Rattle.std.proofs.Common.{◌≡◌, ℕ, ◌≤◌, List, map, length, Some, None, sym, ap, ◌∙◌, subst, arith}
use Rattle.rsml_syntax.specs.declared.syntax.Spec.{Spec}
use Rattle.rsml_syntax.specs.declared.syntax.Decl.{Decl}
use Rattle.rsml_syntax.specs.declared.syntax.Decl.TheVariants as decl
use Rattle.rsml_syntax.specs.limits.Checked.{IsChecked}
use Rattle.rsml_syntax.specs.rules.Globals.{indices}
use Rattle.rsml_syntax.specs.rules.Rules.{broken_rule}
use Rattle.rsml_meaning.specs.Words.{Instance, Path, Each, IsOne, at, same_instance, place_in, numbered}
use Rattle.rsml_meaning.specs.Instances.{State, globals_of, states, instances, events_of, events}
use Rattle.rsml_meaning.specs.Truth.{within}
use Rattle.rsml_meaning.specs.Transitions.{TransitionInstance, transitions}
use Rattle.rsml_meaning.specs.Interfaces.{SendCaseInstance, sends_of, sends, new_send_case, send_cases_of, send_cases, definitions}
use Rattle.rsml_meaning.proofs.Same.{instance_itself}
use Rattle.rsml_meaning.specs.Scoped.{IsState, IsEvent}
use Rattle.rsml_meaning.proofs.Lists.{each_ones, each_one, each_more, one_map, one_of_map, one_flat_map}
use Rattle.rsml_meaning.proofs.rules.Scoped.{rules_give_scopes}
use Rattle.state_arrays.specs.Trees.{HasPath}
use Rattle.rsml_ground.specs.Grounded.{IsShort}
use Rattle.rsml_ground.specs.Scoped.{GuardIsScoped, SendCaseIsScoped}
use Rattle.rsml_ground.proofs.Declared.{decl_few}
use Rattle.rsml_ground.proofs.Found.{first_is, made_one}
use Rattle.rsml_ground.proofs.PhraseScopes.{rules_scope_phrases}
use Rattle.rsml_ground.proofs.Reading.{one_few}
use Rattle.ground_members.specs.Scoped.{EventIsScoped, HasSend, TargetIsScoped, TransitionIsScoped, CaseIsScoped}
use Rattle.ground_members.proofs.Reached.{target_scoped, has_path}

-- what is among instances has a place among them
instance_place : (xs : List Instance) (x : Instance) → IsOne x xs → (n : ℕ) × (place_in xs x ≡ Some n)
instance_place xs x m = let f = first_is (same_instance x) 0 xs x m (instance_itself x) in (f.place, f.is ∙ ap (λ n. Some n) (omega arith))

state_has : (s : Spec) (p : Path) → IsState s p → HasPath (states s) p
state_has s p m = let r = one_of_map (λ (x : State). x.path) (states s) p m in subst (HasPath (states s)) (sym r.2) (has_path (states s) r.0 r.1)

module _ (s : Spec) (h : broken_rule s ≡ None) where
  event_few : (e : Instance) → IsEvent s e → e.index ≤ 64
  event_few e m = let r = made_one (events_of (globals_of s)) s.decls e m in by_decl r.0 r.1 r.2
    where
      by_decl : (d : Decl) → IsOne d s.decls → IsOne e (events_of (globals_of s) d) → e.index ≤ 64
      by_decl (decl.Event name size) k l =
          let i = one_of_map (at name) (indices (globals_of s) size) e l in
          subst (λ (z : Instance). z.index ≤ 64) (sym i.2) (one_few (globals_of s) size i.0 (decl_few s h (decl.Event name size) k) i.1)
      by_decl _ k l = absurd l

  event_scoped : (e : Instance) → IsEvent s e → EventIsScoped s e
  event_scoped e m = let p = instance_place (events s) e m in record { number = p.0; place = p.1; fits = event_few e m }

  -- the send of a case is a send instance
  case_sent : (c : SendCaseInstance) → IsOne c (send_cases s) → HasSend s c.send
  case_sent c m =
      let g = globals_of s in
      let r = made_one (send_cases_of g) s.decls c m in
      instance_place (sends s) c.send (one_flat_map (sends_of g) s.decls r.0 c.send r.1 (by_decl r.0 r.2))
    where
      by_decl : (d : Decl) → IsOne c (send_cases_of (globals_of s) d) → IsOne c.send (sends_of (globals_of s) d)
      by_decl (decl.Send name size fields cases) l =
          let i = made_one (λ i. map (new_send_case (globals_of s) name fields i) (numbered cases)) (indices (globals_of s) size) c l in
          let k = one_of_map (new_send_case (globals_of s) name fields i.0) (numbered cases) c i.2 in
          subst (λ (z : SendCaseInstance). IsOne z.send (instances (globals_of s) name size)) (sym k.2) (one_map (at name) (indices (globals_of s) size) i.0 i.1)
      by_decl _ l = absurd l

-- what each transition names is there
pub transitions_scoped : (s : Spec) → IsChecked s → IsShort s → Each (TransitionIsScoped s) (transitions s)
transitions_scoped s checked short =
    let h = checked.keeps.rules in
    let w = rules_give_scopes s h in
    let p = rules_scope_phrases s checked short in
    each_ones (TransitionIsScoped s) (transitions s)
    (λ t m. record {
      source = state_has s t.source (each_one (λ (t : TransitionInstance). IsState s t.source) (transitions s) t w.sources m);
      target = each_one (λ (t : TransitionInstance). TargetIsScoped s t.target) (transitions s) t (target_scoped s h) m;
      event = event_scoped s h t.event (each_one (λ (t : TransitionInstance). IsEvent s t.event) (transitions s) t w.triggers m);
      guard = each_one (λ (t : TransitionInstance). GuardIsScoped s (length (definitions s)) (within t.this) t.guard) (transitions s) t p.transitions_are m;
      raises = each_more (IsEvent s) (EventIsScoped s) (event_scoped s h) t.raises (each_one (λ (t : TransitionInstance). Each (IsEvent s) t.raises) (transitions s) t w.raises m);
    })

-- what each case of a send names is there
pub cases_scoped : (s : Spec) → IsChecked s → IsShort s → Each (CaseIsScoped s) (send_cases s)
cases_scoped s checked short =
    let h = checked.keeps.rules in
    let w = rules_give_scopes s h in
    let p = rules_scope_phrases s checked short in
    each_ones (CaseIsScoped s) (send_cases s)
    (λ c m. record {
      send = case_sent s h c m;
      event = event_scoped s h c.event (each_one (λ (c : SendCaseInstance). IsEvent s c.event) (send_cases s) c w.send_triggers m);
      case = each_one (SendCaseIsScoped s (length (definitions s))) (send_cases s) c p.sends_are m;
    })
