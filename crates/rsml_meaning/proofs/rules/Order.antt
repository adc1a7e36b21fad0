-- Macros and functions have names of their own and are used after their declaration alone.
use Rattle.std.proofs.Common.{◌≡◌, ℕ, ◌+◌, Bool, true, false, not, List, [], ◌∷◌, ◌++◌, length, flat_map, Option, Some, None, inl, inr, ⊎_elim, refl, sym, ap, ◌∙◌, append_assoc, lt-ltb, true≢false}
use Rattle.std.specs.List.{list_all}
use Rattle.std.specs.Option.{option_map_or}
use Rattle.std.proofs.lemmas.Grind.{flat_map-append}
use Rattle.rsml_syntax.specs.declared.syntax.Spec.{Spec}
use Rattle.rsml_syntax.specs.declared.syntax.Decl.{Decl}
use Rattle.rsml_syntax.specs.declared.syntax.Decl.TheVariants as decl
use Rattle.rsml_syntax.specs.declared.syntax.Simple.{Simple}
use Rattle.rsml_syntax.specs.declared.syntax.Simple.TheVariants as simples
use Rattle.rsml_syntax.specs.declared.syntax.Phrase.{Phrase}
use Rattle.rsml_syntax.specs.declared.syntax.Phrase.TheVariants as phrases
use Rattle.rsml_syntax.specs.declared.syntax.Amount.{Amount}
use Rattle.rsml_syntax.specs.declared.syntax.Row.{Row}
use Rattle.rsml_syntax.specs.declared.syntax.Case.{Case}
use Rattle.rsml_syntax.specs.declared.syntax.Mention.{Mention}
use Rattle.rsml_syntax.specs.declared.want.Want.{Want}
use Rattle.rsml_syntax.specs.declared.want.Want.TheVariants as want
use Rattle.rsml_syntax.specs.text.Names.{Name, same, place_of, is_in}
use Rattle.rsml_syntax.specs.rules.Globals.{Known, name_of, names_of, values_of, meaning}
use Rattle.rsml_syntax.specs.rules.Breaches.{Breach, breach}
use Rattle.rsml_syntax.specs.grammar.Written.{simple_of, rows_of}
use Rattle.rsml_syntax.specs.grammar.Parts.{declared}
use Rattle.rsml_syntax.specs.rules.Scopes.{Scope, first_bound}
use Rattle.rsml_syntax.specs.rules.Uses.{is_definition, is_constant, used, mentioned, is_indexed_for, is_declared_before, is_amount, amount_used, sum_used, simple_used, within, phrase_used, guard_used, fits}
use Rattle.rsml_syntax.specs.rules.Declarations.{is_below, is_taken, declared_again, case_used, scope_at, declaration}
use Rattle.rsml_syntax.specs.rules.Rules.{name_tables, broken_rule}
use Rattle.rsml_meaning.specs.Words.{Each, IsOne}
use Rattle.rsml_meaning.specs.InOrder.{used_by_simple, used_by_rows, used_by_cases, may_declare, in_order, IsInOrder}
use Rattle.rsml_meaning.proofs.Lists.{both, or_left, is_false, one_of_append, all_append}
use Rattle.rsml_syntax.proofs.Clean.{Clean, names_in, no_front, no_back, unbroken, clean_declared, later_clean}
use Rattle.rsml_meaning.proofs.rules.Declared.{again_clean, contents_clean}
use Rattle.rsml_meaning.proofs.rules.Names.{in_front, in_back, in_first, in_more, in_cases}
use Rattle.rsml_meaning.proofs.rules.Earlier.{back_place, used_before}

-- The known names.

-- the declaration of a macro or a function
abbrev defines : Decl → Bool
defines d = is_definition (record { decl = d; value = None })

-- The known names are those of the macros and functions so far.
record Knows (before : List Decl) (known : List Name) : Type 0 where
  all : (d : Decl) → IsOne d before → defines d ≡ true → is_in (name_of d) known ≡ true
  only : (x : Name) → is_in x known ≡ true → is_in x (names_in before) ≡ true

in_later : (x : Name) (before : List Decl) (d : Decl) → is_in x (names_in before) ≡ true → is_in x (names_in (before ++ (d ∷ []))) ≡ true
in_later x before d h = ap (is_in x) (flat_map-append names_of before (d ∷ [])) ∙ in_front x (names_in before) (names_in (d ∷ [])) h

knows_one_more : (before : List Decl) (known : List Name) (d : Decl) → Knows before known → Knows (before ++ (d ∷ [])) (name_of d ∷ known)
knows_one_more before known d k = record {
  all = λ e m h. ⊎_elim (λ old. in_more (name_of e) (name_of d) known (k.all e old h)) (λ new. by_new e new) (one_of_append e before (d ∷ []) m);
  only = λ x h. ⊎_elim
      (λ e. ap (is_in x) (flat_map-append names_of before (d ∷ [])) ∙ in_back x (names_in before) (names_in (d ∷ [])) (ap (λ z. is_in z (names_in (d ∷ []))) e ∙ in_first (name_of d) (values_of d ++ [])))
      (λ old. in_later x before d (k.only x old))
      (in_cases x (name_of d) known h);
}
  where
    by_new : (e : Decl) → IsOne e (d ∷ []) → is_in (name_of e) (name_of d ∷ known) ≡ true
    by_new e (inl same) = ap (λ z. is_in (name_of z) (name_of d ∷ known)) same ∙ in_first (name_of d) known
    by_new e (inr m) = absurd m

knows_still : (before : List Decl) (known : List Name) (d : Decl) → defines d ≡ false → Knows before known → Knows (before ++ (d ∷ [])) known
knows_still before known d n k = record {
  all = λ e m h. ⊎_elim (λ old. k.all e old h) (λ new. by_new e new h) (one_of_append e before (d ∷ []) m);
  only = λ x h. in_later x before d (k.only x h);
}
  where
    by_new : (e : Decl) → IsOne e (d ∷ []) → defines e ≡ true → is_in (name_of e) known ≡ true
    by_new e (inl same) h = absurd (true≢false (sym h ∙ ap defines same ∙ n))
    by_new e (inr m) h = absurd m

-- What fits a macro or a function is a definition.

pub fits_macro : (k : Known) → fits want.Macro k ≡ true → is_definition k ≡ true
fits_macro k h = by_parts k.decl k.value h
  where
    by_parts : (d : Decl) (v : Option ℕ) → fits want.Macro (record { decl = d; value = v }) ≡ true → defines d ≡ true
    by_parts (decl.Macro n size rows) None f = refl
    by_parts (decl.Function n size cases) None f = refl
    by_parts d (Some v) f = absurd (true≢false (sym f))
    by_parts (decl.Enumeration n names) None f = f
    by_parts (decl.Range n low high) None f = f
    by_parts (decl.Constant n value) None f = f
    by_parts (decl.Input n size kind initial) None f = f
    by_parts (decl.Event n size) None f = f
    by_parts (decl.Receive n size inputs raised) None f = f
    by_parts (decl.Send n size names cases) None f = f

pub fits_function : (k : Known) → fits want.Function k ≡ true → is_definition k ≡ true
fits_function k h = by_parts k.decl k.value h
  where
    by_parts : (d : Decl) (v : Option ℕ) → fits want.Function (record { decl = d; value = v }) ≡ true → defines d ≡ true
    by_parts (decl.Macro n size rows) None f = refl
    by_parts (decl.Function n size cases) None f = refl
    by_parts d (Some v) f = absurd (true≢false (sym f))
    by_parts (decl.Enumeration n names) None f = f
    by_parts (decl.Range n low high) None f = f
    by_parts (decl.Constant n value) None f = f
    by_parts (decl.Input n size kind initial) None f = f
    by_parts (decl.Event n size) None f = f
    by_parts (decl.Receive n size inputs raised) None f = f
    by_parts (decl.Send n size names cases) None f = f

-- What is used in the declaration after these is known.

module _ (s : Spec) (before after : List Decl) (is : s.decls ≡ before ++ after) (known : List Name) (knows : Knows before known) where
  abbrev is_known : Name → Bool
  is_known x = is_in x known

  name_known : (at : Scope) (want : Want) (name : Name) → at.before ≡ length (names_in before) → ((k : Known) → fits want k ≡ true → is_definition k ≡ true) → used (name_tables s) at want name ≡ [] → is_known name ≡ true
  name_known at want name b f h =
      let d = used_before s before after at want name is b f h in
      ap is_known (sym d.3) ∙ knows.all d.0 d.1 d.2

  abbrev wrong_index : Scope → Mention → List Breach
  wrong_index at m = breach 6 m.name (not (option_map_or (is_indexed_for (name_tables s) at m) (meaning (name_tables s).globals m.name) true))

  simple_known : (at : Scope) (b : Simple) → at.before ≡ length (names_in before) → simple_used (name_tables s) at b ≡ [] → list_all is_known (used_by_simple b) ≡ true
  simple_known at (simples.In path) e h = refl
  simple_known at (simples.Macro m) e h = both (is_known m.name) true (name_known at want.Macro m.name e fits_macro (no_front (used (name_tables s) at want.Macro m.name) (wrong_index at m) h)) refl
  simple_known at (simples.Compare left relation right) e h = refl
  simple_known at (simples.Function f relation right) e h =
      let rest = breach 15 f.name (not (is_constant (name_tables s).globals right)) ++ sum_used (name_tables s) at right in
      both (is_known f.name) true (name_known at want.Function f.name e fits_function (no_front (used (name_tables s) at want.Function f.name) (wrong_index at f) (no_front (mentioned (name_tables s) at want.Function f) rest h))) refl

  quantified_known : (at : Scope) (x : Name) (n : Amount) (b : Simple) → at.before ≡ length (names_in before)
      → breach 1 x (is_declared_before (name_tables s) at x) ++ (breach 5 x (not (is_amount (name_tables s) n)) ++ (amount_used (name_tables s) at n ++ simple_used (name_tables s) (within (name_tables s) at x n) b)) ≡ [] → list_all is_known (used_by_simple b) ≡ true
  quantified_known at x n b e h =
      let body = simple_used (name_tables s) (within (name_tables s) at x n) b in
      let rest = amount_used (name_tables s) at n ++ body in
      simple_known (within (name_tables s) at x n) b e
      (no_back (amount_used (name_tables s) at n) body (no_back (breach 5 x (not (is_amount (name_tables s) n))) rest (no_back (breach 1 x (is_declared_before (name_tables s) at x)) (breach 5 x (not (is_amount (name_tables s) n)) ++ rest) h)))

  phrase_known : (at : Scope) (p : Phrase) → at.before ≡ length (names_in before) → phrase_used (name_tables s) at p ≡ [] → list_all is_known (used_by_simple (simple_of p)) ≡ true
  phrase_known at (phrases.Plain b) e h = simple_known at b e h
  phrase_known at (phrases.Any x n b) e h = quantified_known at x n b e h
  phrase_known at (phrases.Every x n b) e h = quantified_known at x n b e h

  rows_known : (at : Scope) (rows : List Row) → at.before ≡ length (names_in before) → flat_map (λ (row : Row). phrase_used (name_tables s) at row.phrase) rows ≡ [] → list_all is_known (used_by_rows rows) ≡ true
  rows_known at [] e h = refl
  rows_known at (row ∷ rows) e h =
      let here = phrase_used (name_tables s) at row.phrase in
      let rest = flat_map (λ (row : Row). phrase_used (name_tables s) at row.phrase) rows in
      all_append is_known (used_by_simple (simple_of row.phrase)) (used_by_rows rows) (phrase_known at row.phrase e (no_front here rest h)) (rows_known at rows e (no_back here rest h))

  cases_known : (at : Scope) (cases : List Case) → at.before ≡ length (names_in before) → flat_map (case_used (name_tables s) at) cases ≡ [] → list_all is_known (used_by_cases cases) ≡ true
  cases_known at [] e h = refl
  cases_known at (c ∷ cases) e h =
      let here = case_used (name_tables s) at c in
      let rest = flat_map (case_used (name_tables s) at) cases in
      all_append is_known (used_by_rows (rows_of c.guard)) (used_by_cases cases)
      (rows_known at (rows_of c.guard) e (no_back (sum_used (name_tables s) at c.value) (guard_used (name_tables s) at c.guard) (no_front here rest h))) (cases_known at cases e (no_back here rest h))

  -- a name that is declared here is not known
  name_new : (d : Decl) → declaration (name_tables s) (length (names_in before)) d ≡ [] → not (is_known (name_of d)) ≡ true
  name_new d h = ap not (is_false (is_known (name_of d)) not_known)
    where
      fresh : is_taken (name_tables s) (length (names_in before)) (name_of d) ≡ false
      fresh = unbroken 1 (name_of d) (is_taken (name_tables s) (length (names_in before)) (name_of d))
          (no_front (breach 1 (name_of d) (is_taken (name_tables s) (length (names_in before)) (name_of d))) (declared_again (name_tables s) (length (names_in before) + 1) (values_of d)) (again_clean (name_tables s) (length (names_in before)) d h))

      not_known : is_known (name_of d) ≡ true → ⊥
      not_known k =
          let p = back_place (name_of d) (names_in before) (names_in after) (knows.only (name_of d) k) in
          let place : place_of (name_of d) (names_in s.decls) ≡ Some p.0 = ap (place_of (name_of d)) (ap names_in is ∙ flat_map-append names_of before after) ∙ p.1 in
          let below : is_below (place_of (name_of d) (names_in s.decls)) (length (names_in before)) ≡ true = ap (λ o. is_below o (length (names_in before))) place ∙ lt-ltb p.0 (length (names_in before)) p.2 in
          true≢false (sym (or_left (is_below (place_of (name_of d) (names_in s.decls)) (length (names_in before))) (is_below (first_bound (name_tables s) (name_of d)) (length (names_in before))) below) ∙ fresh)

-- The rule, for the declarations that are still to come.

shifted : (s : Spec) (before ds : List Decl) (d : Decl) → s.decls ≡ before ++ (d ∷ ds) → s.decls ≡ (before ++ (d ∷ [])) ++ ds
shifted s before ds d e = e ∙ sym (append_assoc before (d ∷ []) ds)

in_order_from : (s : Spec) (before after : List Decl) (known : List Name) → s.decls ≡ before ++ after → Knows before known → Each (Clean s) (declared (length (names_in before)) after) → in_order known after ≡ true
in_order_from s before [] known e k c = refl
in_order_from s before (decl.Macro name size rows ∷ ds) known e k c =
    let d = decl.Macro name size rows in
    let place = length (names_in before) in
    both (may_declare known name (used_by_rows rows)) (in_order (name ∷ known) ds)
    (both (list_all (λ x. is_in x known) (used_by_rows rows)) (not (is_in name known))
    (rows_known s before (d ∷ ds) e known k (scope_at (name_tables s) place size) rows refl (contents_clean (name_tables s) place d c.0)) (name_new s before (d ∷ ds) e known k d c.0))
    (in_order_from s (before ++ (d ∷ [])) ds (name ∷ known) (shifted s before ds d e) (knows_one_more before known d k) (later_clean s before d ds c.1))
in_order_from s before (decl.Function name size cases ∷ ds) known e k c =
    let d = decl.Function name size cases in
    let place = length (names_in before) in
    both (may_declare known name (used_by_cases cases)) (in_order (name ∷ known) ds)
    (both (list_all (λ x. is_in x known) (used_by_cases cases)) (not (is_in name known))
    (cases_known s before (d ∷ ds) e known k (scope_at (name_tables s) place size) cases refl (contents_clean (name_tables s) place d c.0)) (name_new s before (d ∷ ds) e known k d c.0))
    (in_order_from s (before ++ (d ∷ [])) ds (name ∷ known) (shifted s before ds d e) (knows_one_more before known d k) (later_clean s before d ds c.1))
in_order_from s before (decl.Enumeration n names ∷ ds) known e k c =
    let d = decl.Enumeration n names in
    in_order_from s (before ++ (d ∷ [])) ds known (shifted s before ds d e) (knows_still before known d refl k) (later_clean s before d ds c.1)
in_order_from s before (decl.Range n low high ∷ ds) known e k c =
    let d = decl.Range n low high in
    in_order_from s (before ++ (d ∷ [])) ds known (shifted s before ds d e) (knows_still before known d refl k) (later_clean s before d ds c.1)
in_order_from s before (decl.Constant n value ∷ ds) known e k c =
    let d = decl.Constant n value in
    in_order_from s (before ++ (d ∷ [])) ds known (shifted s before ds d e) (knows_still before known d refl k) (later_clean s before d ds c.1)
in_order_from s before (decl.Input n size kind initial ∷ ds) known e k c =
    let d = decl.Input n size kind initial in
    in_order_from s (before ++ (d ∷ [])) ds known (shifted s before ds d e) (knows_still before known d refl k) (later_clean s before d ds c.1)
in_order_from s before (decl.Event n size ∷ ds) known e k c =
    let d = decl.Event n size in
    in_order_from s (before ++ (d ∷ [])) ds known (shifted s before ds d e) (knows_still before known d refl k) (later_clean s before d ds c.1)
in_order_from s before (decl.Receive n size inputs raised ∷ ds) known e k c =
    let d = decl.Receive n size inputs raised in
    in_order_from s (before ++ (d ∷ [])) ds known (shifted s before ds d e) (knows_still before known d refl k) (later_clean s before d ds c.1)
in_order_from s before (decl.Send n size names cases ∷ ds) known e k c =
    let d = decl.Send n size names cases in
    in_order_from s (before ++ (d ∷ [])) ds known (shifted s before ds d e) (knows_still before known d refl k) (later_clean s before d ds c.1)

pub is_in_order : (s : Spec) → broken_rule s ≡ None → IsInOrder s
is_in_order s h = in_order_from s [] s.decls [] refl (record { all = λ d m k. absurd m; only = λ x k. absurd (true≢false (sym k)) }) (clean_declared s h)
