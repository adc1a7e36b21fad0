-- What a definition names is there: macros and functions before its own place alone.
use Rattle.std.proofs.Common.{◌≡◌, ℕ, suc, ◌≤◌, List, [], ◌∷◌, ◌++◌, flat_map, length, Option, Some, inl, inr, refl, sym, ap, ◌∙◌, subst, slice_get}
use Rattle.rsml_syntax.specs.declared.syntax.Spec.{Spec}
use Rattle.rsml_syntax.specs.declared.syntax.Amount.{Amount}
use Rattle.rsml_syntax.specs.declared.syntax.Case.{Case}
use Rattle.rsml_syntax.specs.declared.syntax.Decl.{Decl}
use Rattle.rsml_syntax.specs.declared.syntax.Decl.TheVariants as decl
use Rattle.rsml_syntax.specs.declared.syntax.Guard.TheVariants as guards
use Rattle.rsml_syntax.specs.declared.syntax.Row.{Row}
use Rattle.rsml_syntax.specs.text.Names.{Name}
use Rattle.rsml_syntax.specs.limits.Checked.{IsChecked}
use Rattle.rsml_syntax.specs.rules.Globals.{size_of, indices}
use Rattle.rsml_syntax.specs.rules.Scopes.{Scope}
use Rattle.rsml_syntax.specs.rules.Uses.{sum_used, guard_used}
use Rattle.rsml_syntax.specs.rules.Declarations.{case_used, contents_used, scope_at}
use Rattle.rsml_syntax.specs.rules.Rules.{name_tables}
use Rattle.rsml_syntax.proofs.Clean.{names_in, no_front, no_back, none_each}
use Rattle.rsml_meaning.specs.Words.{Each, IsOne, at, item_of, numbered_from}
use Rattle.rsml_meaning.specs.Instances.{globals_of}
use Rattle.rsml_meaning.specs.Truth.{within}
use Rattle.rsml_meaning.specs.Interfaces.{Definition, macro_table, function_cases, new_function, functions_of, definitions_of, definitions}
use Rattle.rsml_meaning.proofs.Lists.{each_one, one_map, one_of_map, one_back}
use Rattle.rsml_meaning.proofs.rules.Declared.{contents_clean}
use Rattle.state_arrays.proofs.Distinct.{clean_here}
use Rattle.rsml_ground.specs.Scoped.{CaseIsScoped, DefinitionIsScoped}
use Rattle.rsml_ground.proofs.Declared.{decl_few}
use Rattle.rsml_ground.proofs.DefinitionScopes.{Stands}
use Rattle.rsml_ground.proofs.Found.{made_at}
use Rattle.rsml_ground.proofs.Guards.{guard_scoped}
use Rattle.rsml_ground.proofs.Operands.{sum_scoped}
use Rattle.rsml_ground.proofs.Owners.{own_guard, own_sum}
use Rattle.rsml_ground.proofs.Reading.{Reads, reads_plain, few_sized}
use Rattle.rsml_ground.proofs.Values.{HasFewValues}
use Rattle.rsml_ground.proofs.Written.{CaseWritten, DeclWritten, decls_written}

each_numbered_one : {A : Type 0} (P : A → Type 0) (n : ℕ) (xs : List A) → ((x : A) → IsOne x xs → P x) → Each (λ c. P (item_of c)) (numbered_from n xs)
each_numbered_one P n [] h = tt
each_numbered_one P n (x ∷ xs) h = (h x (inl refl), each_numbered_one P (suc n) xs (λ y m. h y (inr m)))

module _ (s : Spec) (checked : IsChecked s) (few : HasFewValues s) (n : ℕ) where
  -- where a declaration with definitions stands
  abbrev place_of : List Decl → Decl → Scope
  place_of before d = scope_at (name_tables s) (length (names_in before)) (size_of d)

  module _ (before : List Decl) (d : Decl) (after : List Decl) (is : s.decls ≡ before ++ (d ∷ after)) (enough : length (flat_map (definitions_of (globals_of s)) before) ≤ n) where
    among : IsOne d s.decls
    among = subst (λ ds. IsOne d ds) (sym is) (one_back d before (d ∷ after) (inl refl))

    clean : contents_used (name_tables s) (place_of before d) d ≡ []
    clean = contents_clean (name_tables s) (length (names_in before)) d (clean_here s checked.keeps.rules before d after is)

    stands : Stands s (place_of before d) n
    stands = record { before = before; after = d ∷ after; is = is; names = refl; enough = enough }

    reads : (i : ℕ) → IsOne i (indices (globals_of s) (size_of d)) → Reads s (place_of before d) (within i)
    reads i m = reads_plain s (place_of before d) (size_of d) i refl refl (few_sized (globals_of s) (size_of d) (decl_few s checked.keeps.rules d among)) m

    written_here : DeclWritten d
    written_here = each_one DeclWritten s.decls d (decls_written s checked.well_formed) among

  macro_is : (before : List Decl) (name : Name) (size : Option Amount) (rows : List Row) (after : List Decl) → (is : s.decls ≡ before ++ (decl.Macro name size rows ∷ after))
      → length (flat_map (definitions_of (globals_of s)) before) ≤ n → (i : ℕ) → IsOne i (indices (globals_of s) size) → DefinitionIsScoped s n (macro_table (at name i) rows)
  macro_is before name size rows after is enough i m =
      let d = decl.Macro name size rows in
      let g = guards.Table rows in
      let own = own_guard s checked.keeps.rules d (among before d after is enough) g (inl refl) in
      guard_scoped s checked few (place_of before d) (within i) (reads before d after is enough i m) n (stands before d after is enough) g
      (record { sums = own.sums; small = written_here before d after is enough }) (clean before d after is enough) own.table own.short

  function_is : (before : List Decl) (name : Name) (size : Option Amount) (cases : List Case) (after : List Decl) → (is : s.decls ≡ before ++ (decl.Function name size cases ∷ after))
      → length (flat_map (definitions_of (globals_of s)) before) ≤ n → (i : ℕ) → IsOne i (indices (globals_of s) size) → DefinitionIsScoped s n (function_cases (new_function name cases i))
  function_is before name size cases after is enough i m = each_numbered_one (CaseIsScoped s n (within i)) 1 cases of_case
    where
      d : Decl
      d = decl.Function name size cases

      of_case : (c : Case) → IsOne c cases → CaseIsScoped s n (within i) c
      of_case c k =
          let place = place_of before d in
          let mine = among before d after is enough in
          let used = each_one (λ c. case_used (name_tables s) place c ≡ []) cases c (none_each (case_used (name_tables s) place) cases (clean before d after is enough)) k in
          let small = each_one CaseWritten cases c (written_here before d after is enough) k in
          let sum = own_sum s checked.keeps.rules d mine c.value (one_map (λ (c : Case). c.value) cases c k) in
          let own = own_guard s checked.keeps.rules d mine c.guard (one_map (λ (c : Case). c.guard) cases c k) in (
            sum_scoped s checked few place (within i) (reads before d after is enough i m) c.value (record { among = sum.among; small = small.0 }) sum.short (no_front (sum_used (name_tables s) place c.value) (guard_used (name_tables s) place c.guard) used),
            guard_scoped s checked few place (within i) (reads before d after is enough i m) n (stands before d after is enough) c.guard
                (record { sums = own.sums; small = small.1 }) (no_back (sum_used (name_tables s) place c.value) (guard_used (name_tables s) place c.guard) used) own.table own.short,
          )

  made_scoped : (before : List Decl) (d : Decl) (after : List Decl) → s.decls ≡ before ++ (d ∷ after) → length (flat_map (definitions_of (globals_of s)) before) ≤ n → (y : Definition) → IsOne y (definitions_of (globals_of s) d)
      → DefinitionIsScoped s n y
  made_scoped before (decl.Macro name size rows) after is enough y m =
      let r = one_of_map (λ (i : ℕ). macro_table (at name i) rows) (indices (globals_of s) size) y m in
      subst (λ z. DefinitionIsScoped s n z) (sym r.2) (macro_is before name size rows after is enough r.0 r.1)
  made_scoped before (decl.Function name size cases) after is enough y m =
      let f = one_of_map function_cases (functions_of (globals_of s) (decl.Function name size cases)) y m in
      let r = one_of_map (new_function name cases) (indices (globals_of s) size) f.0 f.1 in
      subst (λ z. DefinitionIsScoped s n z) (sym (f.2 ∙ ap function_cases r.2)) (function_is before name size cases after is enough r.0 r.1)
  made_scoped before (decl.Enumeration x names) after is enough y m = absurd m
  made_scoped before (decl.Range x low high) after is enough y m = absurd m
  made_scoped before (decl.Constant x value) after is enough y m = absurd m
  made_scoped before (decl.Input x size kind initial) after is enough y m = absurd m
  made_scoped before (decl.Event x size) after is enough y m = absurd m
  made_scoped before (decl.Receive x size inputs raised) after is enough y m = absurd m
  made_scoped before (decl.Send x size fields cases) after is enough y m = absurd m

  pub definition_scoped : (d : Definition) → slice_get (definitions s) n ≡ Some d → DefinitionIsScoped s n d
  definition_scoped d h = let m = made_at (definitions_of (globals_of s)) s.decls n d h in made_scoped m.before m.item m.after m.is m.start d m.among
