-- What phrases, tables, guards and cases name is there.
use Rattle.std.proofs.Common.{◌≡◌, ℕ, true, false, not, ◌||◌, List, [], ◌∷◌, ◌++◌, flat_map, Some}
use Rattle.std.specs.List.{list_any}
use Rattle.rsml_syntax.specs.declared.syntax.Spec.{Spec}
use Rattle.rsml_syntax.specs.declared.syntax.Amount.{Amount}
use Rattle.rsml_syntax.specs.declared.syntax.Sum.{Sum}
use Rattle.rsml_syntax.specs.declared.syntax.Simple.{Simple}
use Rattle.rsml_syntax.specs.declared.syntax.Simple.TheVariants as simples
use Rattle.rsml_syntax.specs.declared.syntax.Phrase.{Phrase}
use Rattle.rsml_syntax.specs.declared.syntax.Phrase.TheVariants as phrases
use Rattle.rsml_syntax.specs.declared.syntax.Row.{Row}
use Rattle.rsml_syntax.specs.declared.syntax.Guard.{Guard}
use Rattle.rsml_syntax.specs.declared.syntax.Guard.TheVariants as guards
use Rattle.rsml_syntax.specs.declared.want.Want.TheVariants as want
use Rattle.rsml_syntax.specs.text.Names.{Name}
use Rattle.rsml_syntax.specs.grammar.Written.{sums_in, simple_of, sums_of_row}
use Rattle.rsml_syntax.specs.limits.Checked.{IsChecked}
use Rattle.rsml_syntax.specs.limits.Comparisons.{Indices}
use Rattle.rsml_syntax.specs.limits.Previous.{written_sums}
use Rattle.rsml_syntax.specs.rules.Breaches.{breach}
use Rattle.rsml_syntax.specs.rules.Globals.{indices}
use Rattle.rsml_syntax.specs.rules.Scopes.{Scope}
use Rattle.rsml_syntax.specs.rules.Uses.{is_constant, mentioned, sum_used, simple_used, phrase_used, guard_used}
use Rattle.rsml_syntax.specs.rules.Uses as uses
use Rattle.rsml_syntax.specs.rules.Owners.{is_long, guard_is_table, guard_is_long}
use Rattle.rsml_syntax.specs.rules.Rules.{name_tables}
use Rattle.rsml_syntax.proofs.Clean.{no_front, no_back, front_each, back_each, holds}
use Rattle.rsml_meaning.specs.Words.{Each, IsOne}
use Rattle.rsml_meaning.specs.Instances.{globals_of}
use Rattle.rsml_meaning.specs.Truth.{quantified}
use Rattle.rsml_meaning.proofs.Lists.{each_ones, none_first, none_second}
use Rattle.rsml_ground.specs.Scoped.{SumIsScoped, SimpleIsScoped, QuantifiedIsScoped, PhraseIsScoped, GuardIsScoped}
use Rattle.rsml_ground.proofs.DefinitionScopes.{Stands, macro_scoped, function_scoped}
use Rattle.rsml_ground.proofs.Operands.{sum_scoped}
use Rattle.rsml_ground.proofs.Paths.{path_scoped}
use Rattle.rsml_ground.proofs.Reading.{Reads, reads_within, quantified_is, bound_small}
use Rattle.rsml_ground.proofs.Values.{HasFewValues}
use Rattle.rsml_ground.proofs.Written.{SumWritten, SimpleWritten, PhraseWritten, RowsWritten, IsWritten}

-- it is a sum of the specification
abbrev pub Among : Spec → Sum → Type 0
Among s x = IsOne x (written_sums s)

module _ (s : Spec) (checked : IsChecked s) (few : HasFewValues s) where
  -- a sum of the specification
  sum_is : (at : Scope) (r : Indices) → Reads s at r → (x : Sum) → Among s x → SumWritten x → is_long x ≡ false → sum_used (name_tables s) at x ≡ [] → SumIsScoped s r x
  sum_is at r o x among small short clean = sum_scoped s checked few at r o x (record { among = among; small = small }) short clean

  simple_scoped : (at : Scope) (r : Indices) → Reads s at r → (n : ℕ) → Stands s at n → (b : Simple) → Each (Among s) (sums_in b) → SimpleWritten b → list_any is_long (sums_in b) ≡ false
      → simple_used (name_tables s) at b ≡ [] → SimpleIsScoped s n r b
  simple_scoped at r o n t (simples.In path) among w short clean = path_scoped s checked at r o path w clean
  simple_scoped at r o n t (simples.Macro m) among w short clean = macro_scoped s checked.keeps.rules at r o n t m clean
  simple_scoped at r o n t (simples.Compare left relation right) among w short clean = (
    sum_is at r o left among.0 w.0 (none_first (is_long left) (is_long right || false) short) (no_front (sum_used (name_tables s) at left) (sum_used (name_tables s) at right) clean),
    sum_is at r o right among.1.0 w.1 (none_first (is_long right) false (none_second (is_long left) (is_long right || false) short)) (no_back (sum_used (name_tables s) at left) (sum_used (name_tables s) at right) clean),
  )
  simple_scoped at r o n t (simples.Function f relation right) among w short clean =
      let call = mentioned (name_tables s) at want.Function f in
      let fixed = breach 15 f.name (not (is_constant (globals_of s) right)) in
      let later = no_back call (fixed ++ sum_used (name_tables s) at right) clean in (
        function_scoped s checked.keeps.rules at r o n t f (no_front call (fixed ++ sum_used (name_tables s) at right) clean),
        sum_is at r o right among.0 w (none_first (is_long right) false short) (no_back fixed (sum_used (name_tables s) at right) later),
        holds 15 f.name (is_constant (globals_of s) right) (no_front fixed (sum_used (name_tables s) at right) later),
      )

  quantified_scoped : (at : Scope) (r : Indices) → Reads s at r → (n : ℕ) → Stands s at n → (x : Name) (bound : Amount) (b : Simple) → Each (Among s) (sums_in b) → SimpleWritten b → list_any is_long (sums_in b) ≡ false
      → uses.quantified (name_tables s) at x bound b ≡ [] → QuantifiedIsScoped s n (quantified r x) bound b
  quantified_scoped at r o n t x bound b among w short clean =
      let q = quantified_is s at x bound b clean in
      let small = bound_small (globals_of s) bound q.few in
      let inner : Stands s (uses.within (name_tables s) at x bound) n = record { before = t.before; after = t.after; is = t.is; names = t.names; enough = t.enough } in
      record {
        some = small.0;
        few = small.1;
        each = each_ones (λ i. SimpleIsScoped s n (quantified r x i) b) (indices (globals_of s) (Some bound))
            (λ i m. simple_scoped (uses.within (name_tables s) at x bound) (quantified r x i) (reads_within s at r o x bound q.few i m) n inner b among w short q.inner);
      }

  phrase_scoped : (at : Scope) (r : Indices) → Reads s at r → (n : ℕ) → Stands s at n → (p : Phrase) → Each (Among s) (sums_in (simple_of p)) → PhraseWritten p → list_any is_long (sums_in (simple_of p)) ≡ false
      → phrase_used (name_tables s) at p ≡ [] → PhraseIsScoped s n r p
  phrase_scoped at r o n t (phrases.Plain b) among w short clean = simple_scoped at r o n t b among w short clean
  phrase_scoped at r o n t (phrases.Any x bound b) among w short clean = quantified_scoped at r o n t x bound b among w short clean
  phrase_scoped at r o n t (phrases.Every x bound b) among w short clean = quantified_scoped at r o n t x bound b among w short clean

  rows_scoped : (at : Scope) (r : Indices) → Reads s at r → (n : ℕ) → Stands s at n → (rows : List Row) → Each (Among s) (flat_map sums_of_row rows) → RowsWritten rows
      → list_any (λ row. list_any is_long (sums_of_row row)) rows ≡ false → flat_map (λ row. phrase_used (name_tables s) at row.phrase) rows ≡ [] → Each (λ row. PhraseIsScoped s n r row.phrase) rows
  rows_scoped at r o n t [] among w short clean = tt
  rows_scoped at r o n t (row ∷ rows) among w short clean =
      let here = phrase_used (name_tables s) at row.phrase in
      let rest = flat_map (λ (row : Row). phrase_used (name_tables s) at row.phrase) rows in
      let long = list_any is_long (sums_of_row row) in
      let longer = list_any (λ (row : Row). list_any is_long (sums_of_row row)) rows in (
        phrase_scoped at r o n t row.phrase (front_each (Among s) (sums_of_row row) (flat_map sums_of_row rows) among) w.0 (none_first long longer short) (no_front here rest clean),
        rows_scoped at r o n t rows (back_each (Among s) (sums_of_row row) (flat_map sums_of_row rows) among) w.1 (none_second long longer short) (no_back here rest clean),
      )

  -- what a guard of the specification names is there
  pub guard_scoped : (at : Scope) (r : Indices) → Reads s at r → (n : ℕ) → Stands s at n → (g : Guard) → IsWritten s g → guard_used (name_tables s) at g ≡ [] → guard_is_table g ≡ true → guard_is_long g ≡ false
      → GuardIsScoped s n r g
  guard_scoped at r o n t guards.Always w clean table short = tt
  guard_scoped at r o n t (guards.Table rows) w clean table short = record { shape = table; rows_are = rows_scoped at r o n t rows w.sums w.small short clean }
