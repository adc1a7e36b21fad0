-- The cells of inputs that are listed are the cells of the definitions.
use Rattle.std.proofs.Common.{◌≡◌, ℕ, Bool, true, false, List, [], ◌∷◌, ◌++◌, map, flat_map, filter, cond, refl, sym, ap, ◌∙◌}
use Rattle.std.proofs.lemmas.List.{map-append}
use Rattle.rsml_syntax.specs.declared.syntax.Spec.{Spec}
use Rattle.rsml_syntax.specs.declared.syntax.Decl.{Decl}
use Rattle.rsml_syntax.specs.declared.syntax.Decl.TheVariants as decl
use Rattle.rsml_syntax.specs.text.Names.{Name, is_in}
use Rattle.rsml_syntax.specs.rules.Globals.{Globals, indices}
use Rattle.rsml_syntax.specs.limits.Previous.{names_previous}
use Rattle.rsml_names.specs.PreviousNames.{previous_names}
use Rattle.rsml_names.proofs.NamedAfter.{previous_is}
use Rattle.rsml_meaning.specs.Words.{at}
use Rattle.rsml_meaning.specs.Instances.{globals_of}
use Rattle.rsml_meaning.specs.Cells.{InputCell, new_cell, type_named, initial_number, cells_of, own_cells, as_previous, previous_cells, cells}
use Rattle.instance_texts.specs.declared.sorts.Sort.TheVariants as sorts
use Rattle.instance_texts.specs.Listing.{Listed, at_index, listed_by, all_listed}
use Rattle.instance_texts.specs.InputCells.{without_first, cell_at, is_named}
use Rattle.instance_texts.proofs.InstanceLemmas.{mapped}

inputs_at : (g : Globals) (name : Name) (size : _) (type_name : Name) (initial : _) (is : List ℕ)
    → map (cell_at g false) (map (at_index (decl.Input name size type_name initial)) is)
    ≡ map without_first (map (new_cell (type_named g type_name) (initial_number g initial)) (map (at name) is))
inputs_at g name size type_name initial [] = refl
inputs_at g name size type_name initial (i ∷ is) =
    ap (λ (xs : List InputCell). cell_at g false (at_index (decl.Input name size type_name initial) i) ∷ xs) (inputs_at g name size type_name initial is)

one_input : (g : Globals) (d : Decl) → map (cell_at g false) (listed_by sorts.Input g d) ≡ map without_first (cells_of g d)
one_input g (decl.Input name size type_name initial) = inputs_at g name size type_name initial (indices g size)
one_input g _ = refl

all_inputs : (g : Globals) (ds : List Decl) → flat_map (λ d. map without_first (cells_of g d)) ds ≡ map without_first (flat_map (cells_of g) ds)
all_inputs g [] = refl
all_inputs g (d ∷ ds) =
    ap (λ (xs : List InputCell). map without_first (cells_of g d) ++ xs) (all_inputs g ds)
    ∙ sym (map-append without_first (cells_of g d) (flat_map (cells_of g) ds))

own : (s : Spec) → map (cell_at (globals_of s) false) (all_listed sorts.Input s) ≡ map without_first (own_cells s)
own s =
    mapped (globals_of s) sorts.Input (cell_at (globals_of s) false) (λ d. map without_first (cells_of (globals_of s) d)) (one_input (globals_of s)) s.decls
    ∙ all_inputs (globals_of s) s.decls

previous_listed : (g : Globals) (names : List Name) (xs : List Listed)
    → map (cell_at g true) (filter (is_named names) xs) ≡ map as_previous (filter (λ c. is_in c.input.name names) (map (cell_at g false) xs))
previous_listed g names [] = refl
previous_listed g names (x ∷ xs) = by (is_named names x) (previous_listed g names xs)
  where
    by : (b : Bool) → map (cell_at g true) (filter (is_named names) xs) ≡ map as_previous (filter (λ c. is_in c.input.name names) (map (cell_at g false) xs))
        → map (cell_at g true) (cond b (x ∷ filter (is_named names) xs) (filter (is_named names) xs))
        ≡ map as_previous (cond b (cell_at g false x ∷ filter (λ c. is_in c.input.name names) (map (cell_at g false) xs)) (filter (λ c. is_in c.input.name names) (map (cell_at g false) xs)))
    by true h = ap (λ (ys : List InputCell). cell_at g true x ∷ ys) h
    by false h = h

previous_kept : (s : Spec) (cs : List InputCell)
    → map as_previous (filter (λ c. is_in c.input.name (previous_names s)) (map without_first cs)) ≡ map without_first (map as_previous (filter (λ c. names_previous s c.input.name) cs))
previous_kept s [] = refl
previous_kept s (c ∷ cs) = by (is_in c.input.name (previous_names s)) (names_previous s c.input.name) (previous_is s c.input.name) (previous_kept s cs)
  where
    by : (a b : Bool) → a ≡ b
        → map as_previous (filter (λ x. is_in x.input.name (previous_names s)) (map without_first cs)) ≡ map without_first (map as_previous (filter (λ x. names_previous s x.input.name) cs))
        → map as_previous (cond a (without_first c ∷ filter (λ x. is_in x.input.name (previous_names s)) (map without_first cs)) (filter (λ x. is_in x.input.name (previous_names s)) (map without_first cs)))
        ≡ map without_first (map as_previous (cond b (c ∷ filter (λ x. names_previous s x.input.name) cs) (filter (λ x. names_previous s x.input.name) cs)))
    by true true e h = ap (λ (ys : List InputCell). without_first (as_previous c) ∷ ys) h
    by false false e h = h
    by true false e h = absurd (let no : ⊥ = cc in no)
    by false true e h = absurd (let no : ⊥ = cc in no)

-- the cells of the inputs that are listed, and behind them those of the names after `previous`, are all cells
pub cells_listed : (s : Spec) (xs : List Listed) → xs ≡ all_listed sorts.Input s
    → map (cell_at (globals_of s) false) xs ++ map (cell_at (globals_of s) true) (filter (is_named (previous_names s)) xs) ≡ map without_first (cells s)
cells_listed s xs e =
    let g = globals_of s in
    let here = ap (λ (ys : List Listed). map (cell_at g false) ys) e ∙ own s in
    ap (λ (cs : List InputCell). cs ++ map (cell_at g true) (filter (is_named (previous_names s)) xs)) here
    ∙ ap (λ (cs : List InputCell). map without_first (own_cells s) ++ cs)
    (previous_listed g (previous_names s) xs
    ∙ ap (λ (cs : List InputCell). map as_previous (filter (λ c. is_in c.input.name (previous_names s)) cs)) here
    ∙ previous_kept s (own_cells s))
    ∙ sym (map-append without_first (own_cells s) (previous_cells s))

-- the same, as the parts are named on the way
pub cells_by : (s : Spec) (g : Globals) (names : List Name) (xs ys zs : List Listed) (first all : List InputCell) → g ≡ globals_of s → names ≡ previous_names s
    → xs ≡ flat_map (listed_by sorts.Input g) s.decls → ys ≡ xs → zs ≡ xs → first ≡ map (cell_at g false) ys
    → all ≡ first ++ map (cell_at g true) (filter (is_named names) zs) → all ≡ map without_first (cells s)
cells_by s g names xs ys zs first all e n x y z f a =
    a
    ∙ ap (λ (cs : List InputCell). cs ++ map (cell_at g true) (filter (is_named names) zs)) (f ∙ ap (λ (ws : List Listed). map (cell_at g false) ws) y)
    ∙ ap (λ (ws : List Listed). map (cell_at g false) xs ++ map (cell_at g true) (filter (is_named names) ws)) z
    ∙ ap (λ (ns : List Name). map (cell_at g false) xs ++ map (cell_at g true) (filter (is_named ns) xs)) n
    ∙ ap (λ (h : Globals). map (cell_at h false) xs ++ map (cell_at h true) (filter (is_named (previous_names s)) xs)) e
    ∙ cells_listed s xs (x ∙ ap (λ (h : Globals). flat_map (listed_by sorts.Input h) s.decls) e)
