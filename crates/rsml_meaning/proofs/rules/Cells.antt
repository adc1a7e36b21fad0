-- The initial number of a cell is of its type, which is that of its input's name.
use Rattle.std.proofs.Common.{◌≡◌, ℕ, ◌<◌, true, false, ◌&&◌, List, [], ◌∷◌, map, filter, length, is_some, Option, Some, None, ⊎_elim, ℤ, pos, ◌-ℤ◌, int_le, refl, sym, ap, ◌∙◌, subst, arith, true≢false, IsTrue}
use Rattle.std.specs.Option.{option_map_or}
use Rattle.std.proofs.lemmas.Int.{ints}
use Rattle.rsml_syntax.specs.declared.syntax.Spec.{Spec}
use Rattle.rsml_syntax.specs.declared.syntax.Decl.{Decl}
use Rattle.rsml_syntax.specs.declared.syntax.Decl.TheVariants as decl
use Rattle.rsml_syntax.specs.declared.syntax.Signed.{Signed}
use Rattle.rsml_syntax.specs.declared.syntax.Initial.{Initial}
use Rattle.rsml_syntax.specs.declared.syntax.Initial.TheVariants as initials
use Rattle.rsml_syntax.specs.declared.want.Want.TheVariants as want
use Rattle.rsml_syntax.specs.text.Names.{Name, same}
use Rattle.rsml_syntax.specs.rules.Globals.{Known, name_of, values_of, meaning, constant_of, constant, number_of, number, indices}
use Rattle.rsml_syntax.specs.limits.Thresholds.{type_ends}
use Rattle.rsml_syntax.specs.limits.Previous.{names_previous}
use Rattle.rsml_syntax.specs.rules.Uses.{fits, used}
use Rattle.rsml_syntax.specs.rules.Declarations.{is_between, is_value_of, is_initial, initial_used, scope_at}
use Rattle.rsml_syntax.specs.rules.Rules.{name_tables, broken_rule}
use Rattle.rsml_meaning.specs.Words.{Instance, at, Each, IsOne}
use Rattle.rsml_meaning.specs.Instances.{globals_of}
use Rattle.rsml_meaning.specs.Cells.{InputCell, new_type, no_type, type_named, type_by, input_type, is_of, initial_number, new_cell, cells_of, own_cells, as_previous, previous_cells, cells}
use Rattle.rsml_meaning.proofs.Same.{name_same}
use Rattle.rsml_meaning.proofs.Lists.{both, each_append, each_flat_map, each_more, each_filter, each_one}
use Rattle.rsml_meaning.proofs.Globals.{Means, meaning_is}
use Rattle.rsml_syntax.proofs.Clean.{IsPlaced, each_placed, names_in, no_front, holds}
use Rattle.rsml_meaning.proofs.rules.Declared.{own_clean, contents_clean, own_meaning}
use Rattle.rsml_meaning.proofs.rules.Mentions.{used_is}

-- Numbers of names.

-- the number of a constant
constant_number : (s : Spec) (name : Name) (z : ℤ) → constant (globals_of s) name ≡ Some z → number (globals_of s) name ≡ z
constant_number s name z h = by_meaning (meaning (globals_of s) name) refl h
  where
    by_value : (d : Decl) (v : Option ℕ) → Means s.decls name (record { decl = d; value = v }) → constant_of (record { decl = d; value = v }) ≡ Some z → number_of (record { decl = d; value = v }) ≡ z
    by_value d None m k = ap (λ o. option_map_or (λ (n : ℤ). n) o (pos 0)) k
    by_value d (Some n) m k = ⊎_elim (λ e. absurd (let no : ⊥ = cc in no)) (λ e. absurd (none (sym (ap (λ y. constant_of (record { decl = y; value = Some n })) e) ∙ k))) m.valued
      where
        none : None ≡ Some z → ⊥
        none e = cc

    by_meaning : (o : Option Known) → meaning (globals_of s) name ≡ o → option_map_or constant_of o None ≡ Some z → option_map_or number_of o (pos 0) ≡ z
    by_meaning None e k = absurd (let no : ⊥ = cc in no)
    by_meaning (Some known) e k = by_value known.decl known.value (meaning_is s.decls name known e) k

-- Types.

in_enumeration : (n m : ℕ) → n < m → (int_le (pos 0) (pos n) && int_le (pos n) (pos m -ℤ pos 1)) ≡ true
in_enumeration n m h = both (int_le (pos 0) (pos n)) (int_le (pos n) (pos m -ℤ pos 1)) (grind (arith, ints)) (grind (arith, ints))

-- a declaration by its name
abbrev by_name : Decl → Known
by_name d = record { decl = d; value = None }

same_decl : (d e : Decl) → Some (by_name d) ≡ Some (by_name e) → d ≡ e
same_decl d e h = ap (λ (o : Option Known). option_map_or (λ (k : Known). k.decl) o d) h

module _ (s : Spec) (h : broken_rule s ≡ None) where
  -- a value of an enumeration of this name is of the type
  value_fits : (name : Name) (values : List Name) (x : Name) → IsOne (decl.Enumeration name values) s.decls → option_map_or (is_value_of name) (meaning (globals_of s) x) false ≡ true
      → is_of (new_type (pos 0, pos (length values) -ℤ pos 1) values) (number (globals_of s) x) ≡ true
  value_fits name values x among k = by_meaning (meaning (globals_of s) x) refl k
    where
      by_value : (known : Known) (v : Option ℕ) → known.value ≡ v → Means s.decls x known → (is_some v && same (name_of known.decl) name) ≡ true → is_of (new_type (pos 0, pos (length values) -ℤ pos 1) values) (number_of known) ≡ true
      by_value known None e m k = absurd (true≢false (sym k))
      by_value known (Some n) e m k =
          let mine = own_meaning s (decl.Enumeration name values) (each_one (IsPlaced s) s.decls (decl.Enumeration name values) (each_placed s h) among) in
          let other = own_meaning s known.decl (each_one (IsPlaced s) s.decls known.decl (each_placed s h) m.among) in
          let same_names = name_same (name_of known.decl) name k in
          let same_decls : known.decl ≡ decl.Enumeration name values = same_decl known.decl (decl.Enumeration name values) (sym other ∙ ap (meaning (globals_of s)) same_names ∙ mine) in
          let below = subst (λ (y : Decl). n < length (values_of y)) same_decls (m.below n e) in
          subst (λ (o : Option ℕ). is_of (new_type (pos 0, pos (length values) -ℤ pos 1) values) (option_map_or pos o (option_map_or (λ (z : ℤ). z) (constant_of known) (pos 0))) ≡ true) (sym e) (in_enumeration n (length values) below)

      by_meaning : (o : Option Known) → meaning (globals_of s) x ≡ o → option_map_or (is_value_of name) o false ≡ true → is_of (new_type (pos 0, pos (length values) -ℤ pos 1) values) (option_map_or number_of o (pos 0)) ≡ true
      by_meaning None e k = absurd (true≢false (sym k))
      by_meaning (Some known) e k = by_value known known.value refl (meaning_is s.decls x known e) k

  -- an initial value of a type is a number of it
  initial_fits : (kind : Name) (initial : Initial) (k : Known) → fits want.Type k ≡ true → Means s.decls kind k → is_initial (globals_of s) initial k ≡ true
      → is_of (new_type (type_ends k) (values_of k.decl)) (initial_number (globals_of s) initial) ≡ true
  initial_fits kind initial k f m i = by_parts k.decl k.value initial f m i
    where
      of_constant : (low high : Signed) (x : Name) (o : Option ℤ) → constant (globals_of s) x ≡ o → option_map_or (is_between low high) o false ≡ true → is_between low high (number (globals_of s) x) ≡ true
      of_constant low high x None e k = absurd (true≢false (sym k))
      of_constant low high x (Some z) e k = subst (λ n. is_between low high n ≡ true) (sym (constant_number s x z e)) k

      by_parts : (d : Decl) (v : Option ℕ) (initial : Initial) → fits want.Type (record { decl = d; value = v }) ≡ true → Means s.decls kind (record { decl = d; value = v })
          → is_initial (globals_of s) initial (record { decl = d; value = v }) ≡ true → is_of (new_type (type_ends (record { decl = d; value = v })) (values_of d)) (initial_number (globals_of s) initial) ≡ true
      by_parts (decl.Range n low high) None (initials.Number x) f m i = i
      by_parts (decl.Range n low high) None (initials.Name x) f m i = of_constant low high x (constant (globals_of s) x) refl i
      by_parts (decl.Enumeration n values) None (initials.Number x) f m i = absurd (true≢false (sym i))
      by_parts (decl.Enumeration n values) None (initials.Name x) f m i = value_fits n values x m.among i
      by_parts d (Some v) initial f m i = absurd (true≢false (sym f))
      by_parts (decl.Constant n value) None initial f m i = absurd (true≢false (sym f))
      by_parts (decl.Input n size kind first) None initial f m i = absurd (true≢false (sym f))
      by_parts (decl.Event n size) None initial f m i = absurd (true≢false (sym f))
      by_parts (decl.Macro n size rows) None initial f m i = absurd (true≢false (sym f))
      by_parts (decl.Function n size cases) None initial f m i = absurd (true≢false (sym f))
      by_parts (decl.Receive n size inputs raised) None initial f m i = absurd (true≢false (sym f))
      by_parts (decl.Send n size names cases) None initial f m i = absurd (true≢false (sym f))

  -- What is known of a cell.
  pub record IsTyped (c : InputCell) : Type 0 where
    pub initial : IsTrue (is_of c.numbers c.initial)
    pub type_is : c.numbers ≡ input_type (globals_of s) c.input.name

  each_instance : (f : Instance → InputCell) (name : Name) (is : List ℕ) → ((i : ℕ) → IsTyped (f (at name i))) → Each IsTyped (map f (map (at name) is))
  each_instance f name [] k = tt
  each_instance f name (i ∷ is) k = (k i, each_instance f name is k)

  own_typed : Each IsTyped (own_cells s)
  own_typed = each_flat_map IsTyped (cells_of (globals_of s)) s.decls of_decl
    where
      of_decl : (d : Decl) → IsOne d s.decls → Each IsTyped (cells_of (globals_of s) d)
      of_decl (decl.Input name size kind initial) m =
          let d = decl.Input name size kind initial in
          let p = each_one (IsPlaced s) s.decls d (each_placed s h) m in
          let place = length (names_in p.before) in
          let scope = scope_at (name_tables s) place size in
          let u = used_is s scope want.Type kind (no_front (used (name_tables s) scope want.Type kind) (initial_used (name_tables s) scope initial) (contents_clean (name_tables s) place d p.clean)) in
          let right = holds 7 name (option_map_or (is_initial (globals_of s) initial) (meaning (globals_of s) kind) true) (own_clean (name_tables s) place d p.clean) in
          let fit = initial_fits kind initial u.known u.fit u.means (subst (λ o. option_map_or (is_initial (globals_of s) initial) o true ≡ true) u.is right) in
          each_instance (new_cell (type_named (globals_of s) kind) (initial_number (globals_of s) initial)) name (indices (globals_of s) size)
          (λ i. record {
            initial = subst (λ o. is_of (option_map_or (λ (k : Known). new_type (type_ends k) (values_of k.decl)) o no_type) (initial_number (globals_of s) initial) ≡ true) (sym u.is) fit;
            type_is = sym (ap (λ o. option_map_or (type_by (globals_of s)) o no_type) (own_meaning s d p));
          })
      of_decl _ m = tt

  each_previous : (cs : List InputCell) → Each IsTyped cs → Each IsTyped (map as_previous cs)
  each_previous [] k = tt
  each_previous (c ∷ cs) k = (record { initial = k.0.initial; type_is = k.0.type_is }, each_previous cs k.1)

  pub each_typed : Each IsTyped (cells s)
  each_typed =
      each_append IsTyped (own_cells s) (previous_cells s) own_typed
      (each_previous (filter (λ c. names_previous s c.input.name) (own_cells s))
      (each_more (λ c. IsTyped c × (names_previous s c.input.name ≡ true)) IsTyped (λ c p. p.0) (filter (λ c. names_previous s c.input.name) (own_cells s))
      (each_filter IsTyped (λ c. names_previous s c.input.name) (own_cells s) own_typed)))
