-- What the guards and the answers of sends name is there.
use Rattle.std.proofs.Common.{◌≡◌, ℕ, ◌+◌, List, [], ◌∷◌, ◌++◌, map, flat_map, length, inl, refl, ap, ◌∙◌, arith, length-append}
use Rattle.std.proofs.lemmas.Grind.{flat_map-append}
use Rattle.rsml_syntax.specs.declared.syntax.Spec.{Spec}
use Rattle.rsml_syntax.specs.declared.syntax.Decl.{Decl}
use Rattle.rsml_syntax.specs.declared.syntax.Decl.TheVariants as decl
use Rattle.rsml_syntax.specs.declared.syntax.Sum.{Sum}
use Rattle.rsml_syntax.specs.declared.syntax.SendCase.{SendCase}
use Rattle.rsml_syntax.specs.declared.syntax.Value.{Value}
use Rattle.rsml_syntax.specs.declared.syntax.Value.TheVariants as values
use Rattle.rsml_syntax.specs.declared.syntax.Answer.{Answer}
use Rattle.rsml_syntax.specs.declared.syntax.Answer.TheVariants as answers
use Rattle.rsml_syntax.specs.declared.want.Want.TheVariants as want
use Rattle.rsml_syntax.specs.grammar.Written.{values_in, sum_of_value, guards_of, sums_of}
use Rattle.rsml_syntax.specs.limits.Checked.{IsChecked}
use Rattle.rsml_syntax.specs.limits.Comparisons.{Indices}
use Rattle.rsml_syntax.specs.rules.Globals.{size_of, indices}
use Rattle.rsml_syntax.specs.rules.Scopes.{Scope}
use Rattle.rsml_syntax.specs.rules.Uses.{mentioned, guard_used}
use Rattle.rsml_syntax.specs.rules.Declarations.{repeats, value_used, send_case_used, scope_at}
use Rattle.rsml_syntax.specs.rules.Rules.{name_tables}
use Rattle.rsml_syntax.proofs.Clean.{names_in, no_front, no_back, none_each}
use Rattle.rsml_meaning.specs.Words.{Each, IsOne, numbered}
use Rattle.rsml_meaning.specs.Instances.{globals_of}
use Rattle.rsml_meaning.specs.Truth.{within}
use Rattle.rsml_meaning.specs.Interfaces.{new_send_case, send_cases_of, send_cases, definitions_of, definitions}
use Rattle.rsml_meaning.proofs.Lists.{each_flat_map, each_numbered, each_one, one_map, one_front, one_back, one_flat_map}
use Rattle.rsml_meaning.proofs.rules.Declared.{contents_clean}
use Rattle.rsml_ground.specs.Scoped.{GuardIsScoped, ValueIsScoped, AnswerIsScoped, SendCaseIsScoped}
use Rattle.rsml_ground.proofs.Declared.{placed, decl_few}
use Rattle.rsml_ground.proofs.DefinitionScopes.{Stands, function_scoped}
use Rattle.rsml_ground.proofs.Guards.{guard_scoped}
use Rattle.rsml_ground.proofs.Operands.{sum_scoped}
use Rattle.rsml_ground.proofs.Owners.{IsOwnSum, own_guard, own_sum}
use Rattle.rsml_ground.proofs.Reading.{Reads, reads_plain, few_sized}
use Rattle.rsml_ground.proofs.Values.{HasFewValues}
use Rattle.rsml_ground.proofs.Written.{ValueWritten, SendCaseWritten, DeclWritten, decls_written}

-- Sends.

module _ (s : Spec) (checked : IsChecked s) (few : HasFewValues s) (place : Scope) (r : Indices) (o : Reads s place r) (n : ℕ) (stands : Stands s place n) where
  value_scoped : (v : Value) → ((x : Sum) → IsOne x (sum_of_value v) → IsOwnSum s x) → ValueWritten v → value_used (name_tables s) place v ≡ [] → ValueIsScoped s n r v
  value_scoped (values.Sum x) own w clean = sum_scoped s checked few place r o x (record { among = (own x (inl refl)).among; small = w }) (own x (inl refl)).short clean
  value_scoped (values.Function f) own w clean = function_scoped s checked.keeps.rules place r o n stands f clean

  values_scoped : (vs : List Value) → ((x : Sum) → IsOne x (flat_map sum_of_value vs) → IsOwnSum s x) → Each ValueWritten vs
      → flat_map (value_used (name_tables s) place) vs ≡ [] → Each (ValueIsScoped s n r) vs
  values_scoped [] own w clean = tt
  values_scoped (v ∷ vs) own w clean =
      let here = value_used (name_tables s) place v in
      let rest = flat_map (value_used (name_tables s) place) vs in (
        value_scoped v (λ x k. own x (one_front x (sum_of_value v) (flat_map sum_of_value vs) k)) w.0 (no_front here rest clean),
        values_scoped vs (λ x k. own x (one_back x (sum_of_value v) (flat_map sum_of_value vs) k)) w.1 (no_back here rest clean),
      )

  answer_scoped : (a : Answer) → ((x : Sum) → IsOne x (flat_map sum_of_value (values_in a)) → IsOwnSum s x) → Each ValueWritten (values_in a)
      → flat_map (value_used (name_tables s) place) (values_in a) ≡ [] → AnswerIsScoped s n r a
  answer_scoped answers.Quiet own w clean = tt
  answer_scoped (answers.Values vs) own w clean = values_scoped vs own w clean

  -- a case of the send d
  case_scoped : (d : Decl) → IsOne d s.decls → (c : SendCase) → IsOne c.guard (guards_of d) → ((x : Sum) → IsOne x (flat_map sum_of_value (values_in c.answer)) → IsOne x (sums_of d)) → SendCaseWritten c
      → send_case_used (name_tables s) place c ≡ [] → GuardIsScoped s n r c.guard × AnswerIsScoped s n r c.answer
  case_scoped d m c is_guard are_sums w clean =
      let given = flat_map (value_used (name_tables s) place) (values_in c.answer) in
      let used = guard_used (name_tables s) place c.guard in
      let later = no_back (mentioned (name_tables s) place want.Event c.trigger) (used ++ given) clean in
      let own = own_guard s checked.keeps.rules d m c.guard is_guard in (
        guard_scoped s checked few place r o n stands c.guard (record { sums = own.sums; small = w.0 }) (no_front used given later) own.table own.short,
        answer_scoped c.answer (λ x k. own_sum s checked.keeps.rules d m x (are_sums x k)) w.1 (no_back used given later),
      )

-- where a declaration stands, after those before it
pub stands_at : (s : Spec) (before : List Decl) (d : Decl) (after : List Decl) → s.decls ≡ before ++ (d ∷ after) → Stands s (scope_at (name_tables s) (length (names_in before)) (size_of d)) (length (definitions s))
stands_at s before d after e =
    let made = definitions_of (globals_of s) in
    let all : length (definitions s) ≡ length (flat_map made before) + length (flat_map made (d ∷ after)) =
    ap (λ ds. length (flat_map made ds)) e ∙ ap length (flat_map-append made before (d ∷ after)) ∙ length-append (flat_map made before) (flat_map made (d ∷ after)) in
    record { before = before; after = d ∷ after; is = e; names = refl; enough = omega (arith, all) }

module _ (s : Spec) (checked : IsChecked s) (few : HasFewValues s) where
  -- what the cases of the send instances name is there
  pub sends_scoped : Each (SendCaseIsScoped s (length (definitions s))) (send_cases s)
  sends_scoped = each_flat_map (SendCaseIsScoped s (length (definitions s))) (send_cases_of (globals_of s)) s.decls of_decl
    where
      of_decl : (d : Decl) → IsOne d s.decls → Each (SendCaseIsScoped s (length (definitions s))) (send_cases_of (globals_of s) d)
      of_decl (decl.Send name size fields cases) m =
          let w = name_tables s in
          let h = checked.keeps.rules in
          let d = decl.Send name size fields cases in
          let p = placed s h d m in
          let n = length (names_in p.before) in
          let place = scope_at w n size in
          let used = none_each (send_case_used w place) cases (no_back (repeats 1 [] fields) (flat_map (send_case_used w place) cases) (contents_clean w n d p.clean)) in
          let written = each_one DeclWritten s.decls d (decls_written s checked.well_formed) m in
          let sized_so = few_sized (globals_of s) size (decl_few s h d m) in
          each_flat_map (SendCaseIsScoped s (length (definitions s))) (λ i. map (new_send_case (globals_of s) name fields i) (numbered cases)) (indices (globals_of s) size)
          (λ i k. each_numbered (SendCaseIsScoped s (length (definitions s))) (new_send_case (globals_of s) name fields i) 1 cases
          (λ q c l. case_scoped s checked few place (within i) (reads_plain s place size i refl refl sized_so k) (length (definitions s)) (stands_at s p.before d p.after p.is) d m c
          (one_map (λ (c : SendCase). c.guard) cases c l)
          (λ x z. one_flat_map (λ (c : SendCase). flat_map sum_of_value (values_in c.answer)) cases c x l z)
          (each_one SendCaseWritten cases c written l)
          (each_one (λ c. send_case_used w place c ≡ []) cases c used l)))
      of_decl _ m = tt
