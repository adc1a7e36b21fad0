-- The trigger of a send case is an event, and the functions in its answer are functions.
use Rattle.std.proofs.Common.{◌≡◌, ℕ, List, [], ◌∷◌, ◌++◌, map, length, flat_map, Option, None, refl}
use Rattle.rsml_syntax.specs.declared.syntax.Spec.{Spec}
use Rattle.rsml_syntax.specs.declared.syntax.Amount.{Amount}
use Rattle.rsml_syntax.specs.declared.syntax.Decl.{Decl}
use Rattle.rsml_syntax.specs.declared.syntax.Decl.TheVariants as decl
use Rattle.rsml_syntax.specs.declared.syntax.SendCase.{SendCase}
use Rattle.rsml_syntax.specs.declared.syntax.Value.{Value}
use Rattle.rsml_syntax.specs.declared.syntax.Value.TheVariants as values
use Rattle.rsml_syntax.specs.declared.syntax.Answer.{Answer}
use Rattle.rsml_syntax.specs.declared.syntax.Answer.TheVariants as answers
use Rattle.rsml_syntax.specs.declared.want.Want.TheVariants as want
use Rattle.rsml_syntax.specs.text.Names.{Name}
use Rattle.rsml_syntax.specs.rules.Globals.{indices}
use Rattle.rsml_syntax.specs.grammar.Written.{values_in}
use Rattle.rsml_syntax.specs.rules.Scopes.{Scope}
use Rattle.rsml_syntax.specs.rules.Uses.{mentioned, guard_used}
use Rattle.rsml_syntax.specs.rules.Declarations.{repeats, value_used, send_case_used, scope_at}
use Rattle.rsml_syntax.specs.rules.Rules.{name_tables, broken_rule}
use Rattle.rsml_meaning.specs.Words.{Each, IsOne, numbered}
use Rattle.rsml_meaning.specs.Instances.{globals_of}
use Rattle.rsml_meaning.specs.Truth.{within}
use Rattle.rsml_meaning.specs.Interfaces.{SendCaseInstance, new_send_case, send_cases_of, send_cases}
use Rattle.rsml_meaning.specs.Scoped.{IsEvent, ValueIsScoped, AnswerIsScoped}
use Rattle.rsml_meaning.proofs.Lists.{each_flat_map, each_numbered, each_one}
use Rattle.rsml_syntax.proofs.Clean.{IsPlaced, each_placed, names_in, no_front, no_back, none_each}
use Rattle.rsml_meaning.proofs.rules.Declared.{contents_clean}
use Rattle.rsml_meaning.proofs.rules.Mentions.{mentioned_is}
use Rattle.rsml_meaning.proofs.rules.Used.{decl_sized, Inside, event_is, function_is}

-- What is known of a send case.
pub record IsScopedCase (s : Spec) (c : SendCaseInstance) : Type 0 where
  pub trigger : IsEvent s c.event
  pub answer : AnswerIsScoped s (within c.send.index) c.answer

module _ (s : Spec) (h : broken_rule s ≡ None) (place : Scope) (around : Option Amount) (i : ℕ) (o : Inside s place around i) where
  values_scoped : (vs : List Value) → flat_map (value_used (name_tables s) place) vs ≡ [] → Each (ValueIsScoped s (within i)) vs
  values_scoped [] k = tt
  values_scoped (v ∷ vs) k = (by_value v (no_front (value_used (name_tables s) place v) (flat_map (value_used (name_tables s) place) vs) k), values_scoped vs (no_back (value_used (name_tables s) place v) (flat_map (value_used (name_tables s) place) vs) k))
    where
      by_value : (v : Value) → value_used (name_tables s) place v ≡ [] → ValueIsScoped s (within i) v
      by_value (values.Sum x) k = tt
      by_value (values.Function f) k = function_is s h place around i o f (mentioned_is s place want.Function f k)

  answer_scoped : (a : Answer) → flat_map (value_used (name_tables s) place) (values_in a) ≡ [] → AnswerIsScoped s (within i) a
  answer_scoped answers.Quiet k = tt
  answer_scoped (answers.Values vs) k = values_scoped vs k

  case_scoped : (name : Name) (fields : List Name) (n : ℕ) (c : SendCase) → send_case_used (name_tables s) place c ≡ [] → IsScopedCase s (new_send_case (globals_of s) name fields i (n, c))
  case_scoped name fields n c k =
      let rest = guard_used (name_tables s) place c.guard ++ flat_map (value_used (name_tables s) place) (values_in c.answer) in
      record {
        trigger = event_is s h place around i o c.trigger (mentioned_is s place want.Event c.trigger (no_front (mentioned (name_tables s) place want.Event c.trigger) rest k));
        answer = answer_scoped c.answer (no_back (guard_used (name_tables s) place c.guard) (flat_map (value_used (name_tables s) place) (values_in c.answer)) (no_back (mentioned (name_tables s) place want.Event c.trigger) rest k));
      }

pub each_case_scoped : (s : Spec) → broken_rule s ≡ None → Each (IsScopedCase s) (send_cases s)
each_case_scoped s h = each_flat_map (IsScopedCase s) (send_cases_of (globals_of s)) s.decls of_decl
  where
    of_decl : (d : Decl) → IsOne d s.decls → Each (IsScopedCase s) (send_cases_of (globals_of s) d)
    of_decl (decl.Send name size fields cases) m =
        let p = each_one (IsPlaced s) s.decls (decl.Send name size fields cases) (each_placed s h) m in
        let n = length (names_in p.before) in
        let place = scope_at (name_tables s) n size in
        let used = none_each (send_case_used (name_tables s) place) cases (no_back (repeats 1 [] fields) (flat_map (send_case_used (name_tables s) place) cases) (contents_clean (name_tables s) n (decl.Send name size fields cases) p.clean)) in
        each_flat_map (IsScopedCase s) (λ i. map (new_send_case (globals_of s) name fields i) (numbered cases)) (indices (globals_of s) size)
        (λ i k. each_numbered (IsScopedCase s) (new_send_case (globals_of s) name fields i) 1 cases
        (λ q c l. case_scoped s h place size i (record { this = refl; plain = refl; sized = decl_sized s h (decl.Send name size fields cases) m; among = k }) name fields q c
        (each_one (λ c. send_case_used (name_tables s) place c ≡ []) cases c used l)))
    of_decl _ m = tt
