-- A mention of a macro or of a function has a number: that of a definition before the place of use.
use Rattle.std.proofs.Common.{◌≡◌, ℕ, ◌<◌, ◌≤◌, true, List, [], ◌++◌, flat_map, length, Option, Some, None, refl, sym, ap, ◌∙◌, subst, arith, slice_get, true≢false}
use Rattle.std.specs.List.{position_from}
use Rattle.std.proofs.lemmas.Grind.{flat_map-append}
use Rattle.rsml_syntax.specs.declared.syntax.Spec.{Spec}
use Rattle.rsml_syntax.specs.declared.syntax.Mention.{Mention}
use Rattle.rsml_syntax.specs.declared.syntax.Decl.{Decl}
use Rattle.rsml_syntax.specs.declared.syntax.Decl.TheVariants as decl
use Rattle.rsml_syntax.specs.declared.want.Want.{Want}
use Rattle.rsml_syntax.specs.declared.want.Want.TheVariants as want
use Rattle.rsml_syntax.specs.text.Names.{Name}
use Rattle.rsml_syntax.specs.limits.Comparisons.{Indices, index_number}
use Rattle.rsml_syntax.specs.rules.Globals.{Known, name_of, size_of, indices}
use Rattle.rsml_syntax.specs.rules.Scopes.{Scope, size_number, is_indexed}
use Rattle.rsml_syntax.specs.rules.Uses.{is_definition, fits, used, mentioned}
use Rattle.rsml_syntax.specs.rules.Rules.{name_tables, broken_rule}
use Rattle.rsml_syntax.proofs.Clean.{names_in, no_front}
use Rattle.rsml_meaning.specs.Words.{Instance, IsOne, at as new, same_instance}
use Rattle.rsml_meaning.specs.Instances.{globals_of}
use Rattle.rsml_meaning.specs.Truth.{instance}
use Rattle.rsml_meaning.specs.Interfaces.{Definition, macro_table, function_cases, new_function, functions_of, definitions_of, definitions}
use Rattle.rsml_meaning.proofs.Same.{instance_same, instance_itself}
use Rattle.rsml_meaning.proofs.Lists.{one_map, one_of_map, one_front, one_flat_map}
use Rattle.rsml_meaning.proofs.Globals.{Means}
use Rattle.rsml_meaning.proofs.rules.Declared.{own_meaning}
use Rattle.rsml_meaning.proofs.rules.Mentions.{IsMentioned, mentioned_is}
use Rattle.rsml_meaning.proofs.rules.Earlier.{used_before}
use Rattle.rsml_meaning.proofs.rules.Order.{fits_macro, fits_function}
use Rattle.state_arrays.specs.Places.{defined, definition_place}
use Rattle.rsml_ground.specs.Scoped.{MacroIsScoped, FunctionIsScoped}
use Rattle.rsml_ground.proofs.Reading.{Reads, index_is, index_few, few_sized}
use Rattle.rsml_ground.proofs.Found.{first_is, first_in_front, get_in_front, first_of_map, made_one}
use Rattle.rsml_ground.proofs.Declared.{placed, decl_few, is_meant, made_named}

-- The definition at the first place of an instance: it stands before a place of use, and the same declaration makes it.
record IsFound (s : Spec) (before : List Decl) (d : Decl) (x : Instance) : Type 0 where
  number : ℕ
  place : definition_place s x ≡ Some number
  below : number < length (flat_map (definitions_of (globals_of s)) before)
  item : Definition
  there : slice_get (definitions s) number ≡ Some item
  among : IsOne item (definitions_of (globals_of s) d)
  defines : defined item ≡ x

-- Where a macro or a function is used: the declarations before it, and how many definitions there are at least before it.
pub record Stands (s : Spec) (at : Scope) (n : ℕ) : Type 0 where
  pub before : List Decl
  pub after : List Decl
  pub is : s.decls ≡ before ++ after
  pub names : at.before ≡ length (names_in before)
  pub enough : length (flat_map (definitions_of (globals_of s)) before) ≤ n

module _ (s : Spec) (h : broken_rule s ≡ None) where
  abbrev made_by : Decl → List Definition
  made_by = definitions_of (globals_of s)

  found : (before after : List Decl) → s.decls ≡ before ++ after → (d : Decl) → IsOne d before → (y : Definition) → IsOne y (made_by d) → IsFound s before d (defined y)
  found before after e d m y k =
      let all : definitions s ≡ flat_map made_by before ++ flat_map made_by after = ap (flat_map made_by) e ∙ flat_map-append made_by before after in
      let f = first_is (λ z. same_instance (defined y) (defined z)) 0 (flat_map made_by before) y (one_flat_map made_by before d y m k) (instance_itself (defined y)) in
      let same : defined y ≡ defined f.item = instance_same (defined y) (defined f.item) f.passes in
      let r = made_one made_by before f.item f.among in
      let there : IsOne r.0 s.decls = subst (λ ds. IsOne r.0 ds) (sym e) (one_front r.0 before after r.1) in
      let mine : IsOne d s.decls = subst (λ ds. IsOne d ds) (sym e) (one_front d before after m) in
      let named : name_of r.0 ≡ name_of d = made_named s r.0 f.item r.2 ∙ ap (λ i. i.name) (sym same) ∙ sym (made_named s d y k) in
      let one : r.0 ≡ d = is_meant s h r.0 there (name_of d) (record { decl = d; value = None }) named (own_meaning s d (placed s h d mine)) in
      record {
        number = f.place;
        place = first_of_map (same_instance (defined y)) defined 0 (definitions s)
            ∙ ap (position_from (λ z. same_instance (defined y) (defined z)) 0) all
            ∙ first_in_front (λ z. same_instance (defined y) (defined z)) 0 (flat_map made_by before) (flat_map made_by after) f.place f.is
            ∙ ap (λ n. Some n) (omega arith);
        below = f.below;
        item = f.item;
        there = ap (λ ds. slice_get ds f.place) all ∙ get_in_front (flat_map made_by before) (flat_map made_by after) f.place f.item f.there;
        among = subst (λ z. IsOne f.item (made_by z)) one r.2;
        defines = sym same;
      }

  -- the declaration of what is used is before the place of use
  declared_before : (at : Scope) (want : Want) (m : Mention) (n : ℕ) → (o : Stands s at n) → ((k : Known) → fits want k ≡ true → is_definition k ≡ true) → (u : IsMentioned s at want m) → used (name_tables s) at want m.name ≡ []
      → IsOne u.names.known.decl o.before
  declared_before at want m n o f u k =
      let b = used_before s o.before o.after at want m.name o.is o.names f k in
      let mine : IsOne b.0 s.decls = subst (λ ds. IsOne b.0 ds) (sym o.is) (one_front b.0 o.before o.after b.1) in
      subst (λ d. IsOne d o.before) (is_meant s h b.0 mine m.name u.names.known b.3 u.names.is) b.1

  module _ (at : Scope) (r : Indices) (o : Reads s at r) (n : ℕ) (stands : Stands s at n) (m : Mention) where
    abbrev x : Instance
    x = instance (globals_of s) r m

    abbrev k : ℕ
    k = index_number (globals_of s) r m.index

    pub macro_scoped : mentioned (name_tables s) at want.Macro m ≡ [] → MacroIsScoped s n r m
    macro_scoped clean =
        let u = mentioned_is s at want.Macro m clean in
        by_parts u.names.known.decl u.names.known.value u.names.fit (declared_before at want.Macro m n stands fits_macro u (no_front (used (name_tables s) at want.Macro m.name) _ clean)) u.names.means u.indexed
      where
        by_parts : (d : Decl) (v : Option ℕ) → fits want.Macro (record { decl = d; value = v }) ≡ true → IsOne d stands.before → Means s.decls m.name (record { decl = d; value = v })
            → is_indexed (globals_of s) at (size_number (globals_of s) (size_of d)) m.index ≡ true → MacroIsScoped s n r m
        by_parts (decl.Macro name size rows) None f early means q =
            let d = decl.Macro name size rows in
            let few = decl_few s h d means.among in
            let in_size = index_is s at r o size (few_sized (globals_of s) size few) m.index q in
            let made_of : ℕ → Definition = λ i. macro_table (new name i) rows in
            let z = found stands.before stands.after stands.is d early (made_of k) (one_map made_of (indices (globals_of s) size) k in_size) in
            let same : new name k ≡ x = ap (λ (y : Name). new y k) (means.named refl) in
            let one = one_of_map made_of (indices (globals_of s) size) z.item z.among in
            let is : z.item ≡ macro_table x rows = one.2 ∙ ap (λ i. macro_table i rows) (sym (ap defined one.2) ∙ z.defines ∙ same) in
            let below = z.below in
            let enough = stands.enough in
            record {
              number = z.number;
              place = ap (definition_place s) (sym same) ∙ z.place;
              before = omega (arith, below, enough);
              stands = (rows, z.there ∙ ap (λ (y : Definition). Some y) is);
              fits = index_few s at r o size few m.index q;
            }
        by_parts d (Some v) f early means q = absurd (true≢false (sym f))
        by_parts (decl.Enumeration y names) None f early means q = absurd (true≢false (sym f))
        by_parts (decl.Range y low high) None f early means q = absurd (true≢false (sym f))
        by_parts (decl.Constant y value) None f early means q = absurd (true≢false (sym f))
        by_parts (decl.Input y size kind initial) None f early means q = absurd (true≢false (sym f))
        by_parts (decl.Event y size) None f early means q = absurd (true≢false (sym f))
        by_parts (decl.Function y size cases) None f early means q = absurd (true≢false (sym f))
        by_parts (decl.Receive y size inputs raised) None f early means q = absurd (true≢false (sym f))
        by_parts (decl.Send y size names cases) None f early means q = absurd (true≢false (sym f))

    pub function_scoped : mentioned (name_tables s) at want.Function m ≡ [] → FunctionIsScoped s n r m
    function_scoped clean =
        let u = mentioned_is s at want.Function m clean in
        by_parts u.names.known.decl u.names.known.value u.names.fit (declared_before at want.Function m n stands fits_function u (no_front (used (name_tables s) at want.Function m.name) _ clean)) u.names.means u.indexed
      where
        by_parts : (d : Decl) (v : Option ℕ) → fits want.Function (record { decl = d; value = v }) ≡ true → IsOne d stands.before → Means s.decls m.name (record { decl = d; value = v })
            → is_indexed (globals_of s) at (size_number (globals_of s) (size_of d)) m.index ≡ true → FunctionIsScoped s n r m
        by_parts (decl.Function name size cases) None f early means q =
            let d = decl.Function name size cases in
            let few = decl_few s h d means.among in
            let in_size = index_is s at r o size (few_sized (globals_of s) size few) m.index q in
            let z = found stands.before stands.after stands.is d early (function_cases (new_function name cases k))
            (one_map function_cases (functions_of (globals_of s) d) (new_function name cases k) (one_map (new_function name cases) (indices (globals_of s) size) k in_size)) in
            let same : new name k ≡ x = ap (λ (y : Name). new y k) (means.named refl) in
            let one = one_of_map function_cases (functions_of (globals_of s) d) z.item z.among in
            let below = z.below in
            let enough = stands.enough in
            record {
              number = z.number;
              place = ap (definition_place s) (sym same) ∙ z.place;
              before = omega (arith, below, enough);
              stands = (one.0, z.there ∙ ap (λ (y : Definition). Some y) one.2, sym (ap defined one.2) ∙ z.defines ∙ same);
              fits = index_few s at r o size few m.index q;
            }
        by_parts d (Some v) f early means q = absurd (true≢false (sym f))
        by_parts (decl.Enumeration y names) None f early means q = absurd (true≢false (sym f))
        by_parts (decl.Range y low high) None f early means q = absurd (true≢false (sym f))
        by_parts (decl.Constant y value) None f early means q = absurd (true≢false (sym f))
        by_parts (decl.Input y size kind initial) None f early means q = absurd (true≢false (sym f))
        by_parts (decl.Event y size) None f early means q = absurd (true≢false (sym f))
        by_parts (decl.Macro y size rows) None f early means q = absurd (true≢false (sym f))
        by_parts (decl.Receive y size inputs raised) None f early means q = absurd (true≢false (sym f))
        by_parts (decl.Send y size names cases) None f early means q = absurd (true≢false (sym f))
