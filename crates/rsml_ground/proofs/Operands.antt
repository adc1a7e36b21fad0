-- What an operand stands for is there: a small number, or a cell.
use Rattle.std.proofs.Common.{◌≡◌, ℕ, ◌<◌, ◌≤◌, Bool, true, false, not, ◌&&◌, List, [], ◌∷◌, map, flat_map, filter, length, Option, Some, None, inl, inr, ⊎_elim, pos, neg_ℤ, refl, sym, ap, ◌∙◌, subst, arith, true≢false, nat_le, if◌then◌else◌}
use Rattle.std.specs.List.{list_any, position_from}
use Rattle.std.specs.Option.{option_map_or}
use Rattle.std.proofs.lemmas.Int.{ints}
use Rattle.std.proofs.lemmas.Bool.Decides.{nat_tests}
use Rattle.rsml_syntax.specs.declared.syntax.Spec.{Spec}
use Rattle.rsml_syntax.specs.declared.syntax.Mention.{Mention}
use Rattle.rsml_syntax.specs.declared.syntax.Operand.{Operand}
use Rattle.rsml_syntax.specs.declared.syntax.Operand.TheVariants as written
use Rattle.rsml_syntax.specs.declared.syntax.Signed.{Signed}
use Rattle.rsml_syntax.specs.declared.syntax.Sum.{Sum}
use Rattle.rsml_syntax.specs.declared.syntax.Term.{Term}
use Rattle.rsml_syntax.specs.declared.syntax.Decl.{Decl}
use Rattle.rsml_syntax.specs.declared.syntax.Decl.TheVariants as decl
use Rattle.rsml_syntax.specs.declared.want.Want.TheVariants as want
use Rattle.rsml_syntax.specs.text.Names.{Name}
use Rattle.rsml_syntax.specs.limits.Checked.{IsChecked}
use Rattle.rsml_syntax.specs.limits.Comparisons.{Indices, index_number}
use Rattle.rsml_syntax.specs.limits.Previous.{is_previous, names_previous, written_sums}
use Rattle.rsml_syntax.specs.rules.Globals.{Known, signed, values_of, size_of, meaning, number_of, number, indices}
use Rattle.rsml_syntax.specs.rules.Scopes.{Scope, size_number, is_indexed}
use Rattle.rsml_syntax.specs.rules.Uses.{fits, is_input, mentioned, operand_used, sum_used}
use Rattle.rsml_syntax.specs.rules.Owners.{is_long}
use Rattle.rsml_syntax.specs.rules.Rules.{name_tables}
use Rattle.rsml_syntax.proofs.Clean.{no_front, no_back}
use Rattle.rsml_meaning.specs.Words.{Each, IsOne, Instance, same_instance}
use Rattle.rsml_meaning.specs.Words as word
use Rattle.rsml_meaning.specs.Instances.{globals_of}
use Rattle.rsml_meaning.specs.Truth.{instance}
use Rattle.rsml_meaning.specs.Cells.{InputCell, type_named, initial_number, new_cell, cells_of, own_cells, as_previous, previous_cells, cells}
use Rattle.rsml_meaning.proofs.Same.{name_itself, instance_itself}
use Rattle.rsml_meaning.proofs.Globals.{Means}
use Rattle.rsml_meaning.proofs.Lists.{each_one, list_all_one, one_map, one_filter, one_front, one_back, one_flat_map, any_one}
use Rattle.rsml_meaning.proofs.rules.Mentions.{mentioned_is}
use Rattle.state_arrays.specs.Places.{cell_place, previous_place}
use Rattle.rsml_ground.specs.declared.sums.GroundOperand.TheVariants as operands
use Rattle.rsml_ground.specs.Rests.{IsSmall}
use Rattle.rsml_ground.specs.StandsFor.{MentionIs}
use Rattle.rsml_ground.specs.Scoped.{OperandIsScoped, SumIsScoped}
use Rattle.rsml_ground.proofs.Declared.{decl_few}
use Rattle.rsml_ground.proofs.Found.{first_is}
use Rattle.rsml_ground.proofs.Reading.{Reads, index_is, index_few, few_sized}
use Rattle.rsml_ground.proofs.Values.{has_few_values, HasFewValues}
use Rattle.rsml_ground.proofs.Written.{OperandWritten, TermWritten, DeclWritten, SumIsWritten, decls_written}

-- Small numbers.

small_number : (n : ℕ) → n ≤ 1000000000 → IsSmall (pos n)
small_number n l = grind (arith, ints)

small_signed : (x : Signed) → x.digits ≤ 1000000000 → IsSmall (signed x)
small_signed x l = by x.minus
  where
    by : (b : Bool) → IsSmall (if b then neg_ℤ (pos x.digits) else pos x.digits)
    by true = grind (arith, ints)
    by false = small_number x.digits l

-- Cells.

-- the place of a cell that passes a test
cell_found : (s : Spec) (t : InputCell → Bool) (c : InputCell) → IsOne c (cells s) → t c ≡ true → (n : ℕ) × (position_from t 0 (cells s) ≡ Some n) × (n < length (cells s))
cell_found s t c m e = let f = first_is t 0 (cells s) c m e in (f.place, f.is ∙ ap (λ n. Some n) (omega arith), f.below)

own_one : (s : Spec) (name : Name) (size : _) (kind : Name) (initial : _) → IsOne (decl.Input name size kind initial) s.decls → (i : ℕ) → IsOne i (indices (globals_of s) size)
    → IsOne (new_cell (type_named (globals_of s) kind) (initial_number (globals_of s) initial) (word.at name i)) (own_cells s)
own_one s name size kind initial m i k =
    let made = new_cell (type_named (globals_of s) kind) (initial_number (globals_of s) initial) in
    one_flat_map (cells_of (globals_of s)) s.decls (decl.Input name size kind initial) (made (word.at name i)) m
    (one_map made (map (word.at name) (indices (globals_of s) size)) (word.at name i) (one_map (word.at name) (indices (globals_of s) size) i k))

cell_is : (s : Spec) (c : InputCell) → IsOne c (own_cells s) → c.previous ≡ false → (n : ℕ) × (cell_place s c.input ≡ Some n) × (n < length (cells s))
cell_is s c m e =
    cell_found s (λ d. not d.previous && same_instance c.input d.input) c (one_front c (own_cells s) (previous_cells s) m)
    (ap (λ b. not b && same_instance c.input c.input) e ∙ instance_itself c.input)

previous_is : (s : Spec) (c : InputCell) → IsOne c (own_cells s) → names_previous s c.input.name ≡ true → (n : ℕ) × (previous_place s c.input ≡ Some n) × (n < length (cells s))
previous_is s c m e =
    let kept = one_filter (λ d. names_previous s d.input.name) (own_cells s) c m e in
    cell_found s (λ d. d.previous && same_instance c.input d.input) (as_previous c)
    (one_back (as_previous c) (own_cells s) (previous_cells s) (one_map as_previous (filter (λ d. names_previous s d.input.name) (own_cells s)) c kept)) (instance_itself c.input)

-- Operands.

module _ (s : Spec) (checked : IsChecked s) (few : HasFewValues s) (at : Scope) (r : Indices) (o : Reads s at r) where
  abbrev x : Mention → Instance
  x m = instance (globals_of s) r m

  -- the number of a constant or of a value
  number_scoped : (m : Mention) (k : Known) → meaning (globals_of s) m.name ≡ Some k → is_input k ≡ false → IsSmall (number_of k) → index_number (globals_of s) r m.index ≤ 64 → OperandIsScoped s r (written.Mention m)
  number_scoped m k is n small index = record {
    operand = operands.Number (number (globals_of s) m.name);
    stands = subst (λ b. MentionIs s r m b (operands.Number (number (globals_of s) m.name))) (sym (ap (λ z. option_map_or is_input z false) is ∙ n)) refl;
    fits = subst (λ z. IsSmall (option_map_or number_of z (pos 0))) (sym is) small;
    index = index;
  }

  mention_scoped : (m : Mention) → mentioned (name_tables s) at want.Operand m ≡ [] → OperandIsScoped s r (written.Mention m)
  mention_scoped m clean = let u = mentioned_is s at want.Operand m clean in by_parts u.names.known.decl u.names.known.value u.names.fit u.names.is u.names.means u.indexed
    where
      by_parts : (d : Decl) (v : Option ℕ) → fits want.Operand (record { decl = d; value = v }) ≡ true → meaning (globals_of s) m.name ≡ Some (record { decl = d; value = v }) → Means s.decls m.name (record { decl = d; value = v })
          → is_indexed (globals_of s) at (size_number (globals_of s) (size_of d)) m.index ≡ true → OperandIsScoped s r (written.Mention m)
      by_parts (decl.Input name size kind initial) None f is means q =
          let d = decl.Input name size kind initial in
          let z = decl_few s checked.keeps.rules d means.among in
          let i = index_number (globals_of s) r m.index in
          let made = new_cell (type_named (globals_of s) kind) (initial_number (globals_of s) initial) (word.at name i) in
          let cell = cell_is s made (own_one s name size kind initial means.among i (index_is s at r o size (few_sized (globals_of s) size z) m.index q)) refl in
          record {
            operand = operands.Cell cell.0;
            stands = subst (λ b. MentionIs s r m b (operands.Cell cell.0)) (sym (ap (λ z. option_map_or is_input z false) is)) (ap (λ y. cell_place s (word.at y i)) (sym (means.named refl)) ∙ cell.1);
            fits = cell.2;
            index = index_few s at r o size z m.index q;
          }
      by_parts (decl.Constant name value) None f is means q =
          number_scoped m (record { decl = decl.Constant name value; value = None }) is refl
          (small_signed value (each_one DeclWritten s.decls (decl.Constant name value) (decls_written s checked.well_formed) means.among))
          (index_few s at r o None tt m.index q)
      by_parts d (Some v) f is means q =
          let enumeration = ⊎_elim (λ e. absurd (let no : ⊥ = cc in no)) (λ e. e) means.valued in
          let below = means.below v refl in
          let enough : nat_le (length (values_of d)) 1000000000 ≡ true = list_all_one has_few_values s.decls d few means.among in
          number_scoped m (record { decl = d; value = Some v }) is (ap (λ y. is_input (record { decl = y; value = Some v })) enumeration) (small_number v (grind (arith, nat_tests)))
          (index_few s at r o (size_of d) (decl_few s checked.keeps.rules d means.among) m.index q)
      by_parts (decl.Enumeration y names) None f is means q = absurd (true≢false (sym f))
      by_parts (decl.Range y low high) None f is means q = absurd (true≢false (sym f))
      by_parts (decl.Event y size) None f is means q = absurd (true≢false (sym f))
      by_parts (decl.Macro y size rows) None f is means q = absurd (true≢false (sym f))
      by_parts (decl.Function y size cases) None f is means q = absurd (true≢false (sym f))
      by_parts (decl.Receive y size inputs raised) None f is means q = absurd (true≢false (sym f))
      by_parts (decl.Send y size names cases) None f is means q = absurd (true≢false (sym f))

  -- What is known of a mention of an input: its declaration, and its index.
  record IsInput (m : Mention) : Type 0 where
    size : _
    kind : Name
    initial : _
    among : IsOne (decl.Input m.name size kind initial) s.decls
    index : IsOne (index_number (globals_of s) r m.index) (indices (globals_of s) size)
    fits : index_number (globals_of s) r m.index ≤ 64

  input_is : (m : Mention) → mentioned (name_tables s) at want.Input m ≡ [] → IsInput m
  input_is m clean = let u = mentioned_is s at want.Input m clean in by_parts u.names.known.decl u.names.known.value u.names.fit u.names.means u.indexed
    where
      by_parts : (d : Decl) (v : Option ℕ) → fits want.Input (record { decl = d; value = v }) ≡ true → Means s.decls m.name (record { decl = d; value = v })
          → is_indexed (globals_of s) at (size_number (globals_of s) (size_of d)) m.index ≡ true → IsInput m
      by_parts (decl.Input name size kind initial) None f means q =
          let z = decl_few s checked.keeps.rules (decl.Input name size kind initial) means.among in
          record {
            size = size;
            kind = kind;
            initial = initial;
            among = subst (λ y. IsOne (decl.Input y size kind initial) s.decls) (means.named refl) means.among;
            index = index_is s at r o size (few_sized (globals_of s) size z) m.index q;
            fits = index_few s at r o size z m.index q;
          }
      by_parts d (Some v) f means q = absurd (true≢false (sym f))
      by_parts (decl.Constant y value) None f means q = absurd (true≢false (sym f))
      by_parts (decl.Enumeration y names) None f means q = absurd (true≢false (sym f))
      by_parts (decl.Range y low high) None f means q = absurd (true≢false (sym f))
      by_parts (decl.Event y size) None f means q = absurd (true≢false (sym f))
      by_parts (decl.Macro y size rows) None f means q = absurd (true≢false (sym f))
      by_parts (decl.Function y size cases) None f means q = absurd (true≢false (sym f))
      by_parts (decl.Receive y size inputs raised) None f means q = absurd (true≢false (sym f))
      by_parts (decl.Send y size names cases) None f means q = absurd (true≢false (sym f))

  -- the cell of an input that is mentioned
  pub input_scoped : (m : Mention) → mentioned (name_tables s) at want.Input m ≡ [] → (cell : ℕ) × (cell_place s (x m) ≡ Some cell) × (index_number (globals_of s) r m.index ≤ 64)
  input_scoped m clean =
      let i = input_is m clean in
      let made = new_cell (type_named (globals_of s) i.kind) (initial_number (globals_of s) i.initial) (x m) in
      let cell = cell_is s made (own_one s m.name i.size i.kind i.initial i.among (index_number (globals_of s) r m.index) i.index) refl in
      (cell.0, cell.1, i.fits)

  previous_scoped : (m : Mention) → mentioned (name_tables s) at want.Input m ≡ [] → names_previous s m.name ≡ true → OperandIsScoped s r (written.Previous m)
  previous_scoped m clean named =
      let i = input_is m clean in
      let made = new_cell (type_named (globals_of s) i.kind) (initial_number (globals_of s) i.initial) (x m) in
      let cell = previous_is s made (own_one s m.name i.size i.kind i.initial i.among (index_number (globals_of s) r m.index) i.index) named in
      record { operand = operands.Cell cell.0; stands = cell.1; fits = cell.2; index = i.fits }

  -- Sums.

  -- an input that stands after `previous` in a sum of the specification is named so
  named_previous : (sum : Sum) → IsOne sum (written_sums s) → (t : Term) → IsOne t sum.terms → (m : Mention) → t.operand ≡ written.Previous m → names_previous s m.name ≡ true
  named_previous sum among t one m e =
      any_one (λ (y : Sum). list_any (λ t. is_previous m.name t.operand) y.terms) (written_sums s) sum among
      (any_one (λ (t : Term). is_previous m.name t.operand) sum.terms t one (ap (is_previous m.name) e ∙ name_itself m.name))

  term_scoped : (sum : Sum) → IsOne sum (written_sums s) → (t : Term) → IsOne t sum.terms → TermWritten t → operand_used (name_tables s) at t.operand ≡ [] → OperandIsScoped s r t.operand
  term_scoped sum among t one small clean = by_operand t.operand refl small clean
    where
      by_operand : (y : Operand) → t.operand ≡ y → OperandWritten y → operand_used (name_tables s) at y ≡ [] → OperandIsScoped s r y
      by_operand (written.Number n) e small clean = record { operand = operands.Number (pos n); stands = refl; fits = small_number n small; index = tt }
      by_operand (written.Mention m) e small clean = mention_scoped m clean
      by_operand (written.Previous m) e small clean = previous_scoped m clean (named_previous sum among t one m e)

  terms_scoped : (sum : Sum) → IsOne sum (written_sums s) → (ts : List Term) → ((t : Term) → IsOne t ts → IsOne t sum.terms) → Each TermWritten ts → flat_map (λ t. operand_used (name_tables s) at t.operand) ts ≡ []
      → Each (λ t. OperandIsScoped s r t.operand) ts
  terms_scoped sum among [] are small clean = tt
  terms_scoped sum among (t ∷ ts) are small clean =
      let here = operand_used (name_tables s) at t.operand in
      let rest = flat_map (λ (t : Term). operand_used (name_tables s) at t.operand) ts in (
        term_scoped sum among t (are t (inl refl)) small.0 (no_front here rest clean),
        terms_scoped sum among ts (λ z m. are z (inr m)) small.1 (no_back here rest clean),
      )

  pub sum_scoped : (sum : Sum) → SumIsWritten s sum → is_long sum ≡ false → sum_used (name_tables s) at sum ≡ [] → SumIsScoped s r sum
  sum_scoped sum w short clean = record {
    few = grind (arith, nat_tests);
    terms = terms_scoped sum w.among sum.terms (λ t m. m) w.small clean;
  }
