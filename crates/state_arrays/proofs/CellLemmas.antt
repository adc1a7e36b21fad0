-- The places of cells are those of inputs, and of the inputs that stand after `previous`.
use Rattle.std.proofs.Common.{◌≡◌, ℕ, suc, ◌+◌, Bool, true, false, not, cond, ◌&&◌, List, [], ◌∷◌, ◌++◌, map, flat_map, filter, length, Option, Some, None, is_some, refl, sym, ap, ◌∙◌, arith, if◌then◌else◌}
use Rattle.std.specs.Option.{option_map}
use Rattle.std.specs.List.{position_from}
use Rattle.std.proofs.lemmas.List.{map-append}
use Rattle.std.proofs.lemmas.List.Elements.{filter-append}
use Rattle.rsml_syntax.specs.declared.syntax.Spec.{Spec}
use Rattle.rsml_syntax.specs.declared.syntax.Decl.{Decl}
use Rattle.rsml_syntax.specs.declared.syntax.Decl.TheVariants as decl
use Rattle.rsml_syntax.specs.text.Names.{Name}
use Rattle.rsml_syntax.specs.rules.Globals.{indices}
use Rattle.rsml_syntax.specs.limits.Previous.{names_previous}
use Rattle.rsml_names.specs.PreviousNames.{previous_names}
use Rattle.rsml_names.proofs.NamedAfter.{previous_is}
use Rattle.rsml_meaning.specs.Words.{Instance, at, same_instance, place_in, Each}
use Rattle.rsml_meaning.specs.Instances.{globals_of, instances}
use Rattle.rsml_meaning.specs.Cells.{InputCell, InputType, type_named, initial_number, new_cell, cells_of, own_cells, as_previous, previous_cells}
use Rattle.state_tree.proofs.Lists.{each_flat_map}
use Rattle.state_arrays.specs.Made.{inputs_of, previous_of}
use Rattle.state_arrays.specs.Places.{cell_place, previous_place}
use Rattle.state_arrays.proofs.ArrayLemmas.{from_later, place_append}

place_of_map : {A B : Type 0} (t : B → Bool) (f : A → B) (p : ℕ) (xs : List A) → position_from (λ x. t (f x)) p xs ≡ position_from t p (map f xs)
place_of_map t f p [] = refl
place_of_map t f p (x ∷ xs) = ap (λ (o : Option ℕ). cond (t (f x)) (Some p) o) (place_of_map t f (p + 1) xs)

place_same : {A : Type 0} (t u : A → Bool) (p : ℕ) (xs : List A) → Each (λ x. t x ≡ u x) xs → position_from t p xs ≡ position_from u p xs
place_same t u p [] h = refl
place_same t u p (x ∷ xs) h = ap (λ (b : Bool). cond b (Some p) (position_from t (p + 1) xs)) h.0 ∙ ap (λ (o : Option ℕ). cond (u x) (Some p) o) (place_same t u (p + 1) xs h.1)

nowhere : {A : Type 0} (t : A → Bool) (p : ℕ) (xs : List A) → Each (λ x. t x ≡ false) xs → position_from t p xs ≡ None
nowhere t p [] h = refl
nowhere t p (x ∷ xs) h = ap (λ (b : Bool). cond b (Some p) (position_from t (p + 1) xs)) h.0 ∙ nowhere t (p + 1) xs h.1

or_none : (o : Option ℕ) → cond (is_some o) o None ≡ o
or_none None = refl
or_none (Some n) = refl

map_length : {A B : Type 0} (f : A → B) (xs : List A) → length (map f xs) ≡ length xs
map_length f [] = refl
map_length f (x ∷ xs) = ap suc (map_length f xs)

each_map : {A B : Type 0} (P : B → Type 0) (f : A → B) (xs : List A) → ((x : A) → P (f x)) → Each P (map f xs)
each_map P f [] h = tt
each_map P f (x ∷ xs) h = (h x, each_map P f xs h)

-- Inputs of cells.

abbrev input_of : InputCell → Instance
input_of c = c.input

inputs_made : (t : InputType) (n : _) (is : List Instance) → map input_of (map (new_cell t n) is) ≡ is
inputs_made t n [] = refl
inputs_made t n (i ∷ is) = ap (λ (xs : List Instance). i ∷ xs) (inputs_made t n is)

module _ (s : Spec) where
  decl_inputs : (d : Decl) → map input_of (cells_of (globals_of s) d) ≡ inputs_of (globals_of s) d
  decl_inputs (decl.Input name size kind initial) = inputs_made (type_named (globals_of s) kind) (initial_number (globals_of s) initial) (instances (globals_of s) name size)
  decl_inputs (decl.Event name size) = refl
  decl_inputs (decl.Enumeration name values) = refl
  decl_inputs (decl.Range name low high) = refl
  decl_inputs (decl.Constant name value) = refl
  decl_inputs (decl.Macro name size rows) = refl
  decl_inputs (decl.Function name size cases) = refl
  decl_inputs (decl.Receive name size inputs raised) = refl
  decl_inputs (decl.Send name size fields cases) = refl

  pub all_inputs : (ds : List Decl) → map input_of (flat_map (cells_of (globals_of s)) ds) ≡ flat_map (inputs_of (globals_of s)) ds
  all_inputs [] = refl
  all_inputs (d ∷ ds) =
      map-append input_of (cells_of (globals_of s) d) (flat_map (cells_of (globals_of s)) ds)
      ∙ ap (λ (xs : List Instance). xs ++ map input_of (flat_map (cells_of (globals_of s)) ds)) (decl_inputs d)
      ∙ ap (λ (xs : List Instance). inputs_of (globals_of s) d ++ xs) (all_inputs ds)

  -- the cells of one name are all kept or all left out
  kept_made : (t : InputType) (n : _) (name : Name) (is : List ℕ) →
      map input_of (filter (λ c. names_previous s c.input.name) (map (new_cell t n) (map (at name) is))) ≡ (if names_previous s name then map (at name) is else [])
  kept_made t n name is = by (names_previous s name) refl is
    where
      by : (b : Bool) → names_previous s name ≡ b → (is : List ℕ) → map input_of (filter (λ c. names_previous s c.input.name) (map (new_cell t n) (map (at name) is))) ≡ (if b then map (at name) is else [])
      by true e [] = refl
      by false e [] = refl
      by true e (i ∷ is) =
          ap (λ (b : Bool). map input_of (cond b (new_cell t n (at name i) ∷ filter (λ c. names_previous s c.input.name) (map (new_cell t n) (map (at name) is))) (filter (λ c. names_previous s c.input.name) (map (new_cell t n) (map (at name) is))))) e
          ∙ ap (λ (xs : List Instance). at name i ∷ xs) (by true e is)
      by false e (i ∷ is) =
          ap (λ (b : Bool). map input_of (cond b (new_cell t n (at name i) ∷ filter (λ c. names_previous s c.input.name) (map (new_cell t n) (map (at name) is))) (filter (λ c. names_previous s c.input.name) (map (new_cell t n) (map (at name) is))))) e
          ∙ by false e is

  decl_kept : (d : Decl) → map input_of (filter (λ c. names_previous s c.input.name) (cells_of (globals_of s) d)) ≡ previous_of (previous_names s) (globals_of s) d
  decl_kept (decl.Input name size kind initial) =
      kept_made (type_named (globals_of s) kind) (initial_number (globals_of s) initial) name (indices (globals_of s) size)
      ∙ ap (λ (b : Bool). if b then instances (globals_of s) name size else []) (sym (previous_is s name))
  decl_kept (decl.Event name size) = refl
  decl_kept (decl.Enumeration name values) = refl
  decl_kept (decl.Range name low high) = refl
  decl_kept (decl.Constant name value) = refl
  decl_kept (decl.Macro name size rows) = refl
  decl_kept (decl.Function name size cases) = refl
  decl_kept (decl.Receive name size inputs raised) = refl
  decl_kept (decl.Send name size fields cases) = refl

  all_kept : (ds : List Decl) → map input_of (filter (λ c. names_previous s c.input.name) (flat_map (cells_of (globals_of s)) ds)) ≡ flat_map (previous_of (previous_names s) (globals_of s)) ds
  all_kept [] = refl
  all_kept (d ∷ ds) =
      ap (map input_of) (filter-append (λ c. names_previous s c.input.name) (cells_of (globals_of s) d) (flat_map (cells_of (globals_of s)) ds))
      ∙ map-append input_of (filter (λ c. names_previous s c.input.name) (cells_of (globals_of s) d)) (filter (λ c. names_previous s c.input.name) (flat_map (cells_of (globals_of s)) ds))
      ∙ ap (λ (xs : List Instance). xs ++ map input_of (filter (λ c. names_previous s c.input.name) (flat_map (cells_of (globals_of s)) ds))) (decl_kept d)
      ∙ ap (λ (xs : List Instance). previous_of (previous_names s) (globals_of s) d ++ xs) (all_kept ds)

  pub own_each : Each (λ c. c.previous ≡ false) (own_cells s)
  own_each = each_flat_map (λ c. c.previous ≡ false) (cells_of (globals_of s)) s.decls (λ d m. of_decl d)
    where
      of_decl : (d : Decl) → Each (λ c. c.previous ≡ false) (cells_of (globals_of s) d)
      of_decl (decl.Input name size kind initial) = each_map (λ c. c.previous ≡ false) (new_cell (type_named (globals_of s) kind) (initial_number (globals_of s) initial)) (instances (globals_of s) name size) (λ x. refl)
      of_decl (decl.Event name size) = tt
      of_decl (decl.Enumeration name values) = tt
      of_decl (decl.Range name low high) = tt
      of_decl (decl.Constant name value) = tt
      of_decl (decl.Macro name size rows) = tt
      of_decl (decl.Function name size cases) = tt
      of_decl (decl.Receive name size inputs raised) = tt
      of_decl (decl.Send name size fields cases) = tt

  own_count : length (flat_map (inputs_of (globals_of s)) s.decls) ≡ length (own_cells s)
  own_count = ap length (sym (all_inputs s.decls)) ∙ map_length input_of (own_cells s)

  pub cell_at : (x : Instance) → place_in (flat_map (inputs_of (globals_of s)) s.decls) x ≡ cell_place s x
  cell_at x =
      ap (λ (xs : List Instance). place_in xs x) (sym (all_inputs s.decls))
      ∙ sym (place_of_map (same_instance x) input_of 0 (own_cells s))
      ∙ sym (place_same (λ c. not c.previous && same_instance x c.input) (λ c. same_instance x c.input) 0 (own_cells s) (weaker (own_cells s) own_each))
      ∙ sym (or_none (position_from (λ c. not c.previous && same_instance x c.input) 0 (own_cells s)))
      ∙ ap (λ (o : Option ℕ). cond (is_some (position_from (λ c. not c.previous && same_instance x c.input) 0 (own_cells s))) (position_from (λ c. not c.previous && same_instance x c.input) 0 (own_cells s)) o)
      (sym (nowhere (λ c. not c.previous && same_instance x c.input) (0 + length (own_cells s)) (previous_cells s) (each_map (λ c. (not c.previous && same_instance x c.input) ≡ false) as_previous (filter (λ c. names_previous s c.input.name) (own_cells s)) (λ c. refl))))
      ∙ sym (place_append (λ c. not c.previous && same_instance x c.input) 0 (own_cells s) (previous_cells s))
    where
      weaker : (cs : List InputCell) → Each (λ c. c.previous ≡ false) cs → Each (λ c. (not c.previous && same_instance x c.input) ≡ same_instance x c.input) cs
      weaker [] h = tt
      weaker (c ∷ cs) h = (ap (λ (b : Bool). not b && same_instance x c.input) h.0, weaker cs h.1)

  pub previous_at : (x : Instance) → option_map (λ n. length (flat_map (inputs_of (globals_of s)) s.decls) + n) (place_in (flat_map (previous_of (previous_names s) (globals_of s)) s.decls) x) ≡ previous_place s x
  previous_at x =
      ap (λ (xs : List Instance). option_map (λ n. length (flat_map (inputs_of (globals_of s)) s.decls) + n) (place_in xs x)) (sym (all_kept s.decls))
      ∙ ap (λ (o : Option ℕ). option_map (λ n. length (flat_map (inputs_of (globals_of s)) s.decls) + n) o) (sym (place_of_map (same_instance x) input_of 0 (filter (λ c. names_previous s c.input.name) (own_cells s))))
      ∙ ap (λ (o : Option ℕ). option_map (λ n. length (flat_map (inputs_of (globals_of s)) s.decls) + n) o) (place_of_map (λ (c : InputCell). c.previous && same_instance x c.input) as_previous 0 (filter (λ c. names_previous s c.input.name) (own_cells s)))
      ∙ sym (from_later (λ (c : InputCell). c.previous && same_instance x c.input) (length (flat_map (inputs_of (globals_of s)) s.decls)) 0 (previous_cells s))
      ∙ ap (λ (n : ℕ). position_from (λ (c : InputCell). c.previous && same_instance x c.input) n (previous_cells s)) (let e = own_count in omega (arith, e))
      ∙ ap (λ (o : Option ℕ). cond (is_some o) o (position_from (λ (c : InputCell). c.previous && same_instance x c.input) (0 + length (own_cells s)) (previous_cells s)))
      (sym (nowhere (λ c. c.previous && same_instance x c.input) 0 (own_cells s) (none (own_cells s) own_each)))
      ∙ sym (place_append (λ c. c.previous && same_instance x c.input) 0 (own_cells s) (previous_cells s))
    where
      none : (cs : List InputCell) → Each (λ c. c.previous ≡ false) cs → Each (λ c. (c.previous && same_instance x c.input) ≡ false) cs
      none [] h = tt
      none (c ∷ cs) h = (ap (λ (b : Bool). b && same_instance x c.input) h.0, none cs h.1)

pub cell_found : (s t : Spec) (inputs : List Instance) (x : Instance) (o : Option ℕ) → s ≡ t → inputs ≡ flat_map (inputs_of (globals_of s)) s.decls → o ≡ place_in inputs x → o ≡ cell_place t x
cell_found s t inputs x o e i h = h ∙ ap (λ (xs : List Instance). place_in xs x) i ∙ cell_at s x ∙ ap (λ (y : Spec). cell_place y x) e

pub previous_found : (s t : Spec) (inputs previous : List Instance) (x : Instance) (n : ℕ) (o : Option ℕ) → s ≡ t → inputs ≡ flat_map (inputs_of (globals_of s)) s.decls
    → previous ≡ flat_map (previous_of (previous_names s) (globals_of s)) s.decls → n ≡ length inputs → o ≡ place_in previous x → option_map (λ m. n + m) o ≡ previous_place t x
previous_found s t inputs previous x n o e i p l h =
    ap (λ (k : ℕ). option_map (λ m. k + m) o) (l ∙ ap length i)
    ∙ ap (λ (q : Option ℕ). option_map (λ m. length (flat_map (inputs_of (globals_of s)) s.decls) + m) q) (h ∙ ap (λ (xs : List Instance). place_in xs x) p)
    ∙ previous_at s x
    ∙ ap (λ (y : Spec). previous_place y x) e
